-- The sixteen kinds: their numbers, how long a token of each may be, and what each is to a search backward. Assumes nothing.
use Rattle.std.specs.Prelude.{Bool, ℕ, zero, suc, eqb, leb}
use Rattle.token.specs.declared.kind.Kind.{Kind}
use Rattle.token.specs.declared.kind.Kind.TheVariants.{Dot, Equals, Comma, LeftSquareBracket, RightSquareBracket, LeftCurlyBracket, RightCurlyBracket, Whitespace, Comment, Newline, LiteralString, BasicString, MlLiteralString, MlBasicString, Atom, Eof}
use Rattle.token.specs.declared.kind.InSearch.{InSearch}

-- the number of a kind
abbrev pub number_of : Kind → ℕ
number_of Dot = 1
number_of Equals = 2
number_of Comma = 3
number_of LeftSquareBracket = 4
number_of RightSquareBracket = 5
number_of LeftCurlyBracket = 6
number_of RightCurlyBracket = 7
number_of Whitespace = 8
number_of Comment = 9
number_of Newline = 10
number_of LiteralString = 11
number_of BasicString = 12
number_of MlLiteralString = 13
number_of MlBasicString = 14
number_of Atom = 15
number_of Eof = 16

-- the kind of a number, and Eof of one that names no kind
unfoldable pub kind_of : ℕ → Kind
kind_of zero = Eof
kind_of (suc zero) = Dot
kind_of (suc (suc zero)) = Equals
kind_of (suc (suc (suc zero))) = Comma
kind_of (suc (suc (suc (suc zero)))) = LeftSquareBracket
kind_of (suc (suc (suc (suc (suc zero))))) = RightSquareBracket
kind_of (suc (suc (suc (suc (suc (suc zero)))))) = LeftCurlyBracket
kind_of (suc (suc (suc (suc (suc (suc (suc zero))))))) = RightCurlyBracket
kind_of (suc (suc (suc (suc (suc (suc (suc (suc zero)))))))) = Whitespace
kind_of (suc (suc (suc (suc (suc (suc (suc (suc (suc zero))))))))) = Comment
kind_of (suc (suc (suc (suc (suc (suc (suc (suc (suc (suc zero)))))))))) = Newline
kind_of (suc (suc (suc (suc (suc (suc (suc (suc (suc (suc (suc zero))))))))))) = LiteralString
kind_of (suc (suc (suc (suc (suc (suc (suc (suc (suc (suc (suc (suc zero)))))))))))) = BasicString
kind_of (suc (suc (suc (suc (suc (suc (suc (suc (suc (suc (suc (suc (suc zero))))))))))))) = MlLiteralString
kind_of (suc (suc (suc (suc (suc (suc (suc (suc (suc (suc (suc (suc (suc (suc zero)))))))))))))) = MlBasicString
kind_of (suc (suc (suc (suc (suc (suc (suc (suc (suc (suc (suc (suc (suc (suc (suc zero))))))))))))))) = Atom
kind_of (suc (suc (suc (suc (suc (suc (suc (suc (suc (suc (suc (suc (suc (suc (suc (suc n)))))))))))))))) = Eof

-- how long a token may be: one byte, none, or at least one
pub data Width : Type 0 where
  one_byte no_byte some_bytes : Width

-- of a kind: kinds 1 to 7 have length 1, Eof 0, the others at least 1
abbrev pub width_of : Kind → Width
width_of Dot = one_byte
width_of Equals = one_byte
width_of Comma = one_byte
width_of LeftSquareBracket = one_byte
width_of RightSquareBracket = one_byte
width_of LeftCurlyBracket = one_byte
width_of RightCurlyBracket = one_byte
width_of Whitespace = some_bytes
width_of Comment = some_bytes
width_of Newline = some_bytes
width_of LiteralString = some_bytes
width_of BasicString = some_bytes
width_of MlLiteralString = some_bytes
width_of MlBasicString = some_bytes
width_of Atom = some_bytes
width_of Eof = no_byte

abbrev pub width_fits : Width → ℕ → Bool
width_fits one_byte n = eqb n 1
width_fits no_byte n = eqb n 0
width_fits some_bytes n = leb 1 n

-- what a kind is to a search backward
abbrev pub in_search : Kind → InSearch
in_search Dot = InSearch.Other
in_search Equals = InSearch.Other
in_search Comma = InSearch.Comma
in_search LeftSquareBracket = InSearch.Other
in_search RightSquareBracket = InSearch.Other
in_search LeftCurlyBracket = InSearch.Other
in_search RightCurlyBracket = InSearch.Other
in_search Whitespace = InSearch.Whitespace
in_search Comment = InSearch.Trivia
in_search Newline = InSearch.Trivia
in_search LiteralString = InSearch.Other
in_search BasicString = InSearch.Other
in_search MlLiteralString = InSearch.Other
in_search MlBasicString = InSearch.Other
in_search Atom = InSearch.Other
in_search Eof = InSearch.Trivia
