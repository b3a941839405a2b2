-- Scalars: on_scalar. A string alone; or Dot or Atom, then any of Dot, Atom, or Whitespace followed by Atom, as one span. Assumes nothing.
use Rattle.std.specs.Prelude.{ℕ, List, [], ◌∷◌}
use Rattle.token.specs.declared.kind.Kind.{Kind}
use Rattle.token.specs.declared.kind.Kind.TheVariants.{Dot, Equals, Comma, LeftSquareBracket, RightSquareBracket, LeftCurlyBracket, RightCurlyBracket, Whitespace, Comment, Newline, LiteralString, BasicString, MlLiteralString, MlBasicString, Atom, Eof}
use Rattle.token.specs.Tokens.{Tok, tok}
use Rattle.rules.specs.declared.event.Encoding.{Encoding}
use Rattle.rules.specs.declared.scalar.Starting.{Starting}
use Rattle.rules.specs.declared.scalar.InScalar.{InScalar}
use Rattle.rules.specs.Out.{Out, done, ◌▹◌}
use Rattle.rules.specs.Receiver as receiver

-- what a kind is to the start of a scalar
abbrev pub starting_of : Kind → Starting
starting_of Dot = Starting.Unquoted
starting_of Equals = Starting.Never
starting_of Comma = Starting.Never
starting_of LeftSquareBracket = Starting.Never
starting_of RightSquareBracket = Starting.Never
starting_of LeftCurlyBracket = Starting.Never
starting_of RightCurlyBracket = Starting.Never
starting_of Whitespace = Starting.Never
starting_of Comment = Starting.Never
starting_of Newline = Starting.Never
starting_of LiteralString = Starting.Quoted Encoding.LiteralString
starting_of BasicString = Starting.Quoted Encoding.BasicString
starting_of MlLiteralString = Starting.Quoted Encoding.MlLiteralString
starting_of MlBasicString = Starting.Quoted Encoding.MlBasicString
starting_of Atom = Starting.Unquoted
starting_of Eof = Starting.Never

-- what a kind is to an unquoted scalar that was begun
abbrev pub in_scalar : Kind → InScalar
in_scalar Dot = InScalar.Dot
in_scalar Equals = InScalar.Other
in_scalar Comma = InScalar.Other
in_scalar LeftSquareBracket = InScalar.Other
in_scalar RightSquareBracket = InScalar.Other
in_scalar LeftCurlyBracket = InScalar.Other
in_scalar RightCurlyBracket = InScalar.Other
in_scalar Whitespace = InScalar.Whitespace
in_scalar Comment = InScalar.Other
in_scalar Newline = InScalar.Other
in_scalar LiteralString = InScalar.Other
in_scalar BasicString = InScalar.Other
in_scalar MlLiteralString = InScalar.Other
in_scalar MlBasicString = InScalar.Other
in_scalar Atom = InScalar.Atom
in_scalar Eof = InScalar.Other

-- the next token: `more` takes it into the scalar, `space` looks behind a whitespace, `stop` ends the scalar before it
abbrev pub unquoted_step : InScalar → Out → Out → Out → Out
unquoted_step InScalar.Dot more space stop = more
unquoted_step InScalar.Atom more space stop = more
unquoted_step InScalar.Whitespace more space stop = space
unquoted_step InScalar.Other more space stop = stop

-- the token behind a whitespace: only an Atom goes on
abbrev pub space_step : InScalar → Out → Out → Out
space_step InScalar.Dot more stop = stop
space_step InScalar.Atom more stop = more
space_step InScalar.Whitespace more stop = stop
space_step InScalar.Other more stop = stop

abbrev mutual
  -- the scalar began at a and reaches to b
  pub unquoted : List Tok → ℕ → ℕ → Out
  unquoted [] a b = receiver.scalar Encoding.None a b ▹ done []
  unquoted (tok k c d ∷ ts) a b =
      let more = unquoted ts a d in
      let space = behind_space ts (tok k c d ∷ ts) a b in
      unquoted_step (in_scalar k) more space (receiver.scalar Encoding.None a b ▹ done (tok k c d ∷ ts))

  -- behind a whitespace with which the tokens `here` begin
  pub behind_space : List Tok → List Tok → ℕ → ℕ → Out
  behind_space [] here a b = receiver.scalar Encoding.None a b ▹ done here
  behind_space (tok k c d ∷ ts) here a b =
      let more = unquoted ts a d in
      space_step (in_scalar k) more (receiver.scalar Encoding.None a b ▹ done here)

-- on_scalar, at a token a..b of a kind that can start a scalar; at any other kind the Rust has unreachable!
abbrev pub scalar_by : Starting → ℕ → ℕ → List Tok → Out
scalar_by (Starting.Quoted e) a b ts = receiver.scalar e a b ▹ done ts
scalar_by Starting.Unquoted a b ts = unquoted ts a b
scalar_by Starting.Never a b ts = done ts

abbrev pub on_scalar : Kind → ℕ → ℕ → List Tok → Out
on_scalar k a b ts = scalar_by (starting_of k) a b ts
