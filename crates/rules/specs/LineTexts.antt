-- Texts whose lines surprise, as the oracle reads them: lines that fall along the error list, and places between or behind line breaks. Assumes nothing.
use Rattle.std.specs.Prelude.{ℕ, List, [], ◌∷◌, get_or}
use Rattle.token.specs.declared.kind.Kind.TheVariants.{Comment, Newline, LiteralString, MlBasicString}
use Rattle.rules.specs.declared.options.Mode.{Mode}
use Rattle.rules.specs.Entries.{Entry, document_entry, key_entry, value_entry, parse}
use Rattle.rules.specs.Words.{errors_of}
use Rattle.rules.specs.TextWords.{Piece, piece, equals, comma, open_square, close_square, open_curly, close_curly, space, line_end, atom, eof, laid}

-- of a report: the message, the unexpected start, and its line
abbrev pub lined : ℕ → ℕ → ℕ → List ℕ
lined message start line = message ∷ start ∷ line ∷ []

-- an entry, where the text starts, the tokens, and the lines of its reports
pub record LineText : Type 0 where
  pub entry : Entry
  pub base : ℕ
  pub pieces : List Piece
  pub lines : List (List ℕ)

abbrev pub document : List Piece → List (List ℕ) → LineText
document pieces lines = record { entry = document_entry; base = 0; pieces = pieces; lines = lines }

unfoldable pub line_texts : List LineText
line_texts =
    -- `x=[[` and a newline: the inner array took the Eof, the outer one looks back
    document (atom 1 ∷ equals ∷ open_square ∷ open_square ∷ line_end ∷ eof ∷ []) (lined 7 5 2 ∷ lined 7 4 1 ∷ [])
    -- `=[{` and a newline
    ∷ document (equals ∷ open_square ∷ open_curly ∷ line_end ∷ eof ∷ []) (lined 13 3 1 ∷ lined 14 4 2 ∷ lined 7 3 1 ∷ [])
    -- `x=[1 #c`: the comment took the Eof
    ∷ document (atom 1 ∷ equals ∷ open_square ∷ atom 1 ∷ space ∷ piece Comment 2 ∷ eof ∷ []) (lined 7 4 1 ∷ [])
    -- `y=[1,`, a newline, `2]`, a newline, `x={a=}`: the nearest comma is two lines up
    ∷ document (atom 1 ∷ equals ∷ open_square ∷ atom 1 ∷ comma ∷ line_end ∷ atom 1 ∷ close_square ∷ line_end ∷ atom 1 ∷ equals ∷ open_curly ∷ atom 1 ∷ equals ∷ close_curly ∷ eof ∷ [])
    (lined 19 4 1 ∷ [])
    -- `,`, a newline, `={a}`: the context of the second is on a later line
    ∷ document (comma ∷ line_end ∷ equals ∷ open_curly ∷ atom 1 ∷ close_curly ∷ eof ∷ []) (lined 26 0 1 ∷ lined 19 0 1 ∷ [])
    -- `x=[1` and a newline: a line with nothing on it
    ∷ document (atom 1 ∷ equals ∷ open_square ∷ atom 1 ∷ line_end ∷ eof ∷ []) (lined 7 5 2 ∷ [])
    -- `x={`, a newline, `}`: the newline itself is unexpected
    ∷ document (atom 1 ∷ equals ∷ open_curly ∷ line_end ∷ close_curly ∷ eof ∷ []) (lined 13 3 1 ∷ [])
    -- `a`, CR LF, `b`, CR, `c`, LF, `d`: a lone CR ends a line
    ∷ document (atom 1 ∷ piece Newline 2 ∷ atom 1 ∷ line_end ∷ atom 1 ∷ line_end ∷ atom 1 ∷ eof ∷ []) (lined 5 1 1 ∷ lined 5 4 2 ∷ lined 5 6 3 ∷ lined 5 8 4 ∷ [])
    -- `'`, CR LF, `=`: the string has the CR, and the place is before the LF
    ∷ document (piece LiteralString 2 ∷ line_end ∷ equals ∷ eof ∷ []) (lined 5 2 1 ∷ [])
    -- a string over three lines, a newline, `a`: line breaks in strings do not count
    ∷ document (piece MlBasicString 8 ∷ line_end ∷ atom 1 ∷ eof ∷ []) (lined 5 8 1 ∷ lined 5 10 2 ∷ [])
    -- the key entry, the empty list, a text that starts at 3: the place 0 is on line 1
    ∷ record { entry = key_entry; base = 3; pieces = []; lines = lined 4 0 1 ∷ [] }
    -- the value entry, `{` and two newlines without Eof
    ∷ record { entry = value_entry; base = 0; pieces = open_curly ∷ line_end ∷ line_end ∷ []; lines = lined 13 1 1 ∷ lined 13 2 2 ∷ lined 14 1 1 ∷ [] }
    ∷ []

-- as written above
abbrev pub lines_written : List LineText → List (List (List ℕ))
lines_written [] = []
lines_written (t ∷ ts) = t.lines ∷ lines_written ts

-- as the rules have it
abbrev pub lines_of : List (List ℕ) → List (List ℕ)
lines_of [] = []
lines_of (e ∷ es) = lined (get_or e 0 0) (get_or e 4 0) (get_or e 6 0) ∷ lines_of es

abbrev pub lines_ruled : Mode → List LineText → List (List (List ℕ))
lines_ruled mode [] = []
lines_ruled mode (t ∷ ts) =
    let all = laid t.base t.pieces in
    lines_of (errors_of mode all (parse t.entry all).items) ∷ lines_ruled mode ts
