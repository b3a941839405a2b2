-- Arrays and inline tables that head one another: on_array_open and on_inline_table_open, by the levels still allowed. Assumes nothing.
use Rattle.std.specs.Prelude.{ℕ, zero, suc, true, List, length}
use Rattle.token.specs.Tokens.{Tok}
use Rattle.rules.specs.declared.skipping.Bracket.{Bracket}
use Rattle.rules.specs.declared.array.ArrayState.{ArrayState}
use Rattle.rules.specs.declared.inline_table.State.{State}
use Rattle.rules.specs.Out.{span, stop, Out, done, ◌▹◌}
use Rattle.rules.specs.Receiver as receiver
use Rattle.rules.specs.Turns.{looping}
use Rattle.rules.specs.Array.{Nest, array_turn}
use Rattle.rules.specs.InlineTable.{progress, inline_table_turn}

-- what the bracket at a..b opens; with no level left the walk stops before the head event, at this bracket's record
unfoldable pub on_open : ℕ → Nest
on_open zero bracket a b ts = stop (suc (length ts)) ▹ done ts
on_open (suc levels) Bracket.Square a b ts = receiver.array_open a b ▹ looping (array_turn (span a b) (on_open levels)) ArrayState.NeedsValue ts
on_open (suc levels) Bracket.Curly a b ts = receiver.inline_table_open a b ▹ looping (inline_table_turn (span a b) (length ts) (on_open levels)) (progress State.NeedsKey true) ts

abbrev pub on_array_open : ℕ → ℕ → ℕ → List Tok → Out
on_array_open levels a b ts = on_open levels Bracket.Square a b ts

abbrev pub on_inline_table_open : ℕ → ℕ → ℕ → List Tok → Out
on_inline_table_open levels a b ts = on_open levels Bracket.Curly a b ts
