-- What stands where a value is wanted and opens no bracket. Assumes nothing.
use Rattle.std.specs.Prelude.{List, ℕ}
use Rattle.token.specs.declared.kind.Kind.{Kind}
use Rattle.token.specs.Tokens.{Tok}
use Rattle.rules.specs.declared.event.Encoding.{Encoding}
use Rattle.rules.specs.declared.skipping.Bracket.{Bracket}
use Rattle.rules.specs.declared.value.InValue.{InValue}
use Rattle.rules.specs.Out.{Out, done, ◌▹◌, ◌▸◌}
use Rattle.rules.specs.Receiver as receiver
use Rattle.rules.specs.WithoutOpen.{without_open}
use Rattle.rules.specs.Scalar.{on_scalar}

-- the arms of value_step that need no more of the list than the token at a..b, or a scalar's; `here` leaves it unread, as the others do
abbrev pub flat_value : InValue → Kind → ℕ → ℕ → List Tok → Out → Out
flat_value InValue.Nothing k a b ts here = receiver.scalar Encoding.None a a ▹ here
flat_value InValue.Equals k a b ts here = here
flat_value InValue.OpenCurly k a b ts here = here
flat_value InValue.CloseCurly k a b ts here = without_open Bracket.Curly a b ▸ done ts
flat_value InValue.OpenSquare k a b ts here = here
flat_value InValue.CloseSquare k a b ts here = without_open Bracket.Square a b ▸ done ts
flat_value InValue.Scalar k a b ts here = on_scalar k a b ts
