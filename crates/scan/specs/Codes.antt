-- The code of a class, and the table of the codes of all bytes. Assumes nothing.
use Rattle.std.specs.Prelude.{List, [], ◌∷◌, ℕ, zero, suc}
use Rattle.scan.specs.declared.start.Start.{Start}
use Rattle.scan.specs.Lexer.{start_of}

-- up to 10 the number of the kind of a token that is one byte of the class; up to 13 the class ends an atom
abbrev pub code_of : Start → ℕ
code_of Start.Dot = 1
code_of Start.Equals = 2
code_of Start.Comma = 3
code_of Start.LeftSquareBracket = 4
code_of Start.RightSquareBracket = 5
code_of Start.LeftCurlyBracket = 6
code_of Start.RightCurlyBracket = 7
code_of Start.LineFeed = 10
code_of Start.Wschar = 11
code_of Start.CommentStartSymbol = 12
code_of Start.CarriageReturn = 13
code_of Start.QuotationMark = 14
code_of Start.Apostrophe = 15
code_of Start.Other = 16

-- the codes of n bytes from b on
unfoldable pub codes_from : ℕ → ℕ → List ℕ
codes_from b zero = []
codes_from b (suc n) = code_of (start_of b) ∷ codes_from (suc b) n

unfoldable pub code_table : List ℕ
code_table = codes_from 0 256
