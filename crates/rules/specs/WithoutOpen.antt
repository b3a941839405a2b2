-- A closing bracket where a value is wanted: in an array, an inline table, or behind `=`. Assumes nothing.
use Rattle.std.specs.Prelude.{ℕ, List, [], ◌∷◌}
use Rattle.rules.specs.declared.skipping.Bracket.{Bracket}
use Rattle.rules.specs.Out.{span, before, Item, report}
use Rattle.rules.specs.Messages as message
use Rattle.rules.specs.Expected as expected
use Rattle.rules.specs.Receiver as receiver

-- the bracket at a..b closes what nothing opened: the missing open is reported, and an empty one invented
abbrev pub without_open : Bracket → ℕ → ℕ → List Item
without_open Bracket.Square a b = report message.missing_array_opening expected.open_square (span a b) (before a b) ∷ receiver.array_open a a ∷ receiver.array_close a b ∷ []
without_open Bracket.Curly a b = report message.missing_inline_table_opening expected.open_curly (span a b) (before a b) ∷ receiver.inline_table_open a a ∷ receiver.inline_table_close a b ∷ []
