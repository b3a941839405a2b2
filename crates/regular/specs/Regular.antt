-- What `is_regular` asks of a kind, as tests. Assumes nothing.
use Rattle.std.specs.Prelude.{Bool, true, false}
use Rattle.token.specs.declared.kind.Kind.{Kind}
use Rattle.token.specs.declared.kind.Kind.TheVariants.{Dot, Equals, Comma, LeftSquareBracket, RightSquareBracket, LeftCurlyBracket, RightCurlyBracket, Whitespace, Comment, Newline, LiteralString, BasicString, MlLiteralString, MlBasicString, Atom, Eof}

abbrev pub both : Bool → Bool → Bool
both true b = b
both false b = false

abbrev pub is_whitespace : Kind → Bool
is_whitespace Dot = false
is_whitespace Equals = false
is_whitespace Comma = false
is_whitespace LeftSquareBracket = false
is_whitespace RightSquareBracket = false
is_whitespace LeftCurlyBracket = false
is_whitespace RightCurlyBracket = false
is_whitespace Whitespace = true
is_whitespace Comment = false
is_whitespace Newline = false
is_whitespace LiteralString = false
is_whitespace BasicString = false
is_whitespace MlLiteralString = false
is_whitespace MlBasicString = false
is_whitespace Atom = false
is_whitespace Eof = false

abbrev pub is_eof : Kind → Bool
is_eof Dot = false
is_eof Equals = false
is_eof Comma = false
is_eof LeftSquareBracket = false
is_eof RightSquareBracket = false
is_eof LeftCurlyBracket = false
is_eof RightCurlyBracket = false
is_eof Whitespace = false
is_eof Comment = false
is_eof Newline = false
is_eof LiteralString = false
is_eof BasicString = false
is_eof MlLiteralString = false
is_eof MlBasicString = false
is_eof Atom = false
is_eof Eof = true
