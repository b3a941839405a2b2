-- Arrays: one turn of on_array_open's loop. Assumes nothing.
use Rattle.std.specs.Prelude.{ℕ, List, [], ◌∷◌}
use Rattle.token.specs.declared.kind.Kind.{Kind}
use Rattle.token.specs.declared.kind.Kind.TheVariants.{Dot, Equals, Comma, LeftSquareBracket, RightSquareBracket, LeftCurlyBracket, RightCurlyBracket, Whitespace, Comment, Newline, LiteralString, BasicString, MlLiteralString, MlBasicString, Atom, Eof}
use Rattle.token.specs.Tokens.{Tok, tok}
use Rattle.rules.specs.declared.skipping.Bracket.{Bracket}
use Rattle.rules.specs.declared.array.InArray.{InArray}
use Rattle.rules.specs.declared.array.ArrayState.{ArrayState}
use Rattle.rules.specs.Out.{Place, span, before, after_found, Item, report, Out, done, ◌▹◌, ◌▸◌, ◌then◌}
use Rattle.rules.specs.Messages as message
use Rattle.rules.specs.Expected as expected
use Rattle.rules.specs.Receiver as receiver
use Rattle.rules.specs.WithoutOpen.{without_open}
use Rattle.rules.specs.Skipping.{on_comment}
use Rattle.rules.specs.Keys.{last_significant}
use Rattle.rules.specs.Scalar.{on_scalar}

-- what a kind is to an array
abbrev pub in_array : Kind → InArray
in_array Dot = InArray.Scalar
in_array Equals = InArray.Equals
in_array Comma = InArray.Comma
in_array LeftSquareBracket = InArray.OpenSquare
in_array RightSquareBracket = InArray.CloseSquare
in_array LeftCurlyBracket = InArray.OpenCurly
in_array RightCurlyBracket = InArray.CloseCurly
in_array Whitespace = InArray.Whitespace
in_array Comment = InArray.Comment
in_array Newline = InArray.Newline
in_array LiteralString = InArray.Scalar
in_array BasicString = InArray.Scalar
in_array MlLiteralString = InArray.Scalar
in_array MlBasicString = InArray.Scalar
in_array Atom = InArray.Scalar
in_array Eof = InArray.Eof

-- a walk over what an opening bracket at a..b opens, from the tokens after it
abbrev pub Nest : Type 0
Nest = Bracket → ℕ → ℕ → List Tok → Out

-- a value or an opening bracket at a..b where a comma is wanted: the comma is reported and an empty one invented
abbrev pub missing_comma : Place → ArrayState → ℕ → ℕ → List Item
missing_comma head ArrayState.NeedsValue a b = []
missing_comma head ArrayState.NeedsComma a b = report message.missing_comma_in_array expected.comma head (before a b) ∷ receiver.value_sep a a ∷ []

abbrev pub array_comma : ArrayState → Place → (ArrayState → List Tok → Out) → ℕ → ℕ → List Tok → Out
array_comma ArrayState.NeedsValue head loop a b ts = report message.extra_comma_in_array expected.a_value head (span a b) ▹ receiver.error a b ▹ loop ArrayState.NeedsValue ts
array_comma ArrayState.NeedsComma head loop a b ts = receiver.value_sep a b ▹ loop ArrayState.NeedsValue ts

-- the token at a..b in the array that was opened at `head`
abbrev pub array_step : InArray → Kind → Place → Nest → (ArrayState → List Tok → Out) → ArrayState → ℕ → ℕ → List Tok → Out
array_step InArray.Comment k head nest loop st a b ts = on_comment a b ts then loop st
array_step InArray.Whitespace k head nest loop st a b ts = receiver.whitespace a b ▹ loop st ts
array_step InArray.Newline k head nest loop st a b ts = receiver.newline a b ▹ loop st ts
array_step InArray.Eof k head nest loop st a b ts = report message.unclosed_array expected.close_square head (span a b) ▹ receiver.array_close a a ▹ done ts
array_step InArray.Comma k head nest loop st a b ts = array_comma st head loop a b ts
array_step InArray.Equals k head nest loop st a b ts = report message.unexpected_equals_in_array expected.value_or_close_square head (span a b) ▹ receiver.error a b ▹ loop st ts
array_step InArray.OpenCurly k head nest loop st a b ts = missing_comma head st a b ▸ (nest Bracket.Curly a b ts then loop ArrayState.NeedsComma)
array_step InArray.CloseCurly k head nest loop st a b ts = missing_comma head st a b ▸ without_open Bracket.Curly a b ▸ loop ArrayState.NeedsComma ts
array_step InArray.OpenSquare k head nest loop st a b ts = missing_comma head st a b ▸ (nest Bracket.Square a b ts then loop ArrayState.NeedsComma)
array_step InArray.CloseSquare k head nest loop st a b ts = receiver.array_close a b ▹ done ts
array_step InArray.Scalar k head nest loop st a b ts = missing_comma head st a b ▸ (on_scalar k a b ts then loop ArrayState.NeedsComma)

abbrev pub array_turn : Place → Nest → (ArrayState → List Tok → Out) → ArrayState → List Tok → Out
array_turn head nest loop st [] = report message.unclosed_array expected.close_square head (after_found last_significant) ▹ receiver.array_close_after last_significant ▹ done []
array_turn head nest loop st (tok k a b ∷ ts) = array_step (in_array k) k head nest loop st a b ts
