-- How the texts of Texts.antt are written down: tokens by kind and length, events and reports as words. Assumes nothing.
use Rattle.std.specs.Prelude.{ℕ, zero, suc, ◌+◌, List, [], ◌∷◌}
use Rattle.token.specs.declared.kind.Kind.{Kind}
use Rattle.token.specs.declared.kind.Kind.TheVariants.{Dot, Equals, Comma, LeftSquareBracket, RightSquareBracket, LeftCurlyBracket, RightCurlyBracket, Whitespace, Newline, BasicString, Atom, Eof}
use Rattle.token.specs.Kinds.{number_of}
use Rattle.token.specs.Tokens.{Tok, tok}

-- a token by kind and length
pub data Piece : Type 0 where
  piece : Kind → ℕ → Piece

abbrev pub dot : Piece
dot = piece Dot 1

abbrev pub equals : Piece
equals = piece Equals 1

abbrev pub comma : Piece
comma = piece Comma 1

abbrev pub open_square : Piece
open_square = piece LeftSquareBracket 1

abbrev pub close_square : Piece
close_square = piece RightSquareBracket 1

abbrev pub open_curly : Piece
open_curly = piece LeftCurlyBracket 1

abbrev pub close_curly : Piece
close_curly = piece RightCurlyBracket 1

abbrev pub space : Piece
space = piece Whitespace 1

abbrev pub line_end : Piece
line_end = piece Newline 1

abbrev pub basic_string : ℕ → Piece
basic_string n = piece BasicString n

abbrev pub atom : ℕ → Piece
atom n = piece Atom n

abbrev pub eof : Piece
eof = piece Eof 0

-- the tokens, end to end from p
abbrev pub laid : ℕ → List Piece → List Tok
laid p [] = []
laid p (piece k n ∷ more) = tok k p (p + n) ∷ laid (p + n) more

-- the record bytes of tokens that are shorter than 256
abbrev pub record_bytes : List Piece → List ℕ
record_bytes [] = []
record_bytes (piece k n ∷ more) = n ∷ 0 ∷ 0 ∷ 0 ∷ number_of k ∷ 0 ∷ record_bytes more

-- n words of a buffer that all hold the same
abbrev pub words : ℕ → ℕ → List ℕ
words w zero = []
words w (suc n) = w ∷ words w n

-- the words of an event from a to b, by the numbers of docs/LAYOUT.md: kind, encoding, start, end
abbrev pub std_table_open : ℕ → ℕ → List ℕ
std_table_open a b = 1 ∷ 0 ∷ a ∷ b ∷ []

abbrev pub std_table_close : ℕ → ℕ → List ℕ
std_table_close a b = 2 ∷ 0 ∷ a ∷ b ∷ []

abbrev pub array_table_open : ℕ → ℕ → List ℕ
array_table_open a b = 3 ∷ 0 ∷ a ∷ b ∷ []

abbrev pub simple_key : ℕ → ℕ → List ℕ
simple_key a b = 5 ∷ 0 ∷ a ∷ b ∷ []

abbrev pub key_sep : ℕ → ℕ → List ℕ
key_sep a b = 6 ∷ 0 ∷ a ∷ b ∷ []

abbrev pub key_val_sep : ℕ → ℕ → List ℕ
key_val_sep a b = 7 ∷ 0 ∷ a ∷ b ∷ []

abbrev pub scalar : ℕ → ℕ → List ℕ
scalar a b = 8 ∷ 0 ∷ a ∷ b ∷ []

abbrev pub basic_scalar : ℕ → ℕ → List ℕ
basic_scalar a b = 8 ∷ 2 ∷ a ∷ b ∷ []

abbrev pub value_sep : ℕ → ℕ → List ℕ
value_sep a b = 9 ∷ 0 ∷ a ∷ b ∷ []

abbrev pub array_open : ℕ → ℕ → List ℕ
array_open a b = 10 ∷ 0 ∷ a ∷ b ∷ []

abbrev pub array_close : ℕ → ℕ → List ℕ
array_close a b = 11 ∷ 0 ∷ a ∷ b ∷ []

abbrev pub inline_table_open : ℕ → ℕ → List ℕ
inline_table_open a b = 12 ∷ 0 ∷ a ∷ b ∷ []

abbrev pub inline_table_close : ℕ → ℕ → List ℕ
inline_table_close a b = 13 ∷ 0 ∷ a ∷ b ∷ []

abbrev pub whitespace : ℕ → ℕ → List ℕ
whitespace a b = 14 ∷ 0 ∷ a ∷ b ∷ []

abbrev pub newline : ℕ → ℕ → List ℕ
newline a b = 16 ∷ 0 ∷ a ∷ b ∷ []

abbrev pub error : ℕ → ℕ → List ℕ
error a b = 17 ∷ 0 ∷ a ∷ b ∷ []

-- the words of a report: message, expected, context a..b, unexpected c..d, line
abbrev pub reported : ℕ → ℕ → ℕ → ℕ → ℕ → ℕ → ℕ → List ℕ
reported message expected a b c d line = message ∷ expected ∷ a ∷ b ∷ c ∷ d ∷ line ∷ []
