-- What `on_table` goes on with behind its first bracket. Assumes nothing.
use mathlib.Core.Bool.{true, false}
use mathlib.Core.List.{List}
use Prim.Native.Nat.{ℕ}
use Rattle.token.specs.Tokens.{Tok}
use Rattle.rules.specs.Out.{Out, ◌▹◌}
use Rattle.rules.specs.Receiver as receiver
use Rattle.rules.specs.Table.{header}

-- a second bracket: an array table
abbrev pub second_opened : ℕ → ℕ → ℕ → ℕ → List Tok → Out
second_opened a b c d us = receiver.array_table_open a d ▹ header true a b us

-- none: a table
abbrev pub first_opened : ℕ → ℕ → List Tok → Out
first_opened a b us = receiver.std_table_open a b ▹ header false a b us
