-- Values: value. Assumes nothing.
use Rattle.std.specs.Prelude.{ℕ, List, [], ◌∷◌}
use Rattle.token.specs.declared.kind.Kind.{Kind}
use Rattle.token.specs.declared.kind.Kind.TheVariants.{Dot, Equals, Comma, LeftSquareBracket, RightSquareBracket, LeftCurlyBracket, RightCurlyBracket, Whitespace, Comment, Newline, LiteralString, BasicString, MlLiteralString, MlBasicString, Atom, Eof}
use Rattle.token.specs.Tokens.{Tok, tok}
use Rattle.rules.specs.declared.event.Encoding.{Encoding}
use Rattle.rules.specs.declared.skipping.Bracket.{Bracket}
use Rattle.rules.specs.declared.value.InValue.{InValue}
use Rattle.rules.specs.Out.{span, found, after_found, report, Out, done, ◌▹◌, ◌▸◌}
use Rattle.rules.specs.Messages as message
use Rattle.rules.specs.Expected as expected
use Rattle.rules.specs.Receiver as receiver
use Rattle.rules.specs.WithoutOpen.{without_open}
use Rattle.rules.specs.Keys.{last_significant}
use Rattle.rules.specs.Scalar.{on_scalar}
use Rattle.rules.specs.Nest.{on_array_open, on_inline_table_open}

-- what a kind is to a value that is wanted
abbrev pub in_value : Kind → InValue
in_value Dot = InValue.Scalar
in_value Equals = InValue.Equals
in_value Comma = InValue.Nothing
in_value LeftSquareBracket = InValue.OpenSquare
in_value RightSquareBracket = InValue.CloseSquare
in_value LeftCurlyBracket = InValue.OpenCurly
in_value RightCurlyBracket = InValue.CloseCurly
in_value Whitespace = InValue.Nothing
in_value Comment = InValue.Nothing
in_value Newline = InValue.Nothing
in_value LiteralString = InValue.Scalar
in_value BasicString = InValue.Scalar
in_value MlLiteralString = InValue.Scalar
in_value MlBasicString = InValue.Scalar
in_value Atom = InValue.Scalar
in_value Eof = InValue.Nothing

-- the token at a..b; `here` leaves it unread, `again` is the value behind it
abbrev pub value_step : InValue → ℕ → Kind → ℕ → ℕ → List Tok → Out → Out → Out
value_step InValue.Nothing levels k a b ts here again = receiver.scalar Encoding.None a a ▹ here
value_step InValue.Equals levels k a b ts here again = report message.extra_equals expected.nothing (span a b) (span a b) ▹ receiver.error a b ▹ again
value_step InValue.OpenCurly levels k a b ts here again = on_inline_table_open levels a b ts
value_step InValue.CloseCurly levels k a b ts here again = without_open Bracket.Curly a b ▸ done ts
value_step InValue.OpenSquare levels k a b ts here again = on_array_open levels a b ts
value_step InValue.CloseSquare levels k a b ts here again = without_open Bracket.Square a b ▸ done ts
value_step InValue.Scalar levels k a b ts here again = on_scalar k a b ts

abbrev pub value : ℕ → List Tok → Out
value levels [] = report message.missing_value expected.a_value (found last_significant) (after_found last_significant) ▹ done []
value levels (tok k a b ∷ ts) = let again = value levels ts in value_step (in_value k) levels k a b ts (done (tok k a b ∷ ts)) again
