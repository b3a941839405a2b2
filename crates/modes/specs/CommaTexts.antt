-- Texts with a trailing comma's report, as each mode reads them: where the two differ, and where brace mode may surprise. Assumes nothing.
use Rattle.std.specs.Prelude.{ℕ, Bool, true, false, List, [], ◌∷◌, get_or, eqb}
use Rattle.rules.specs.declared.options.Mode.{Mode}
use Rattle.rules.specs.Messages as message
use Rattle.rules.specs.Entries.{Entry, document_entry, value_entry, parse}
use Rattle.rules.specs.Words.{errors_of}
use Rattle.rules.specs.TextWords.{Piece, equals, comma, open_square, close_square, open_curly, close_curly, line_end, atom, eof, laid}

-- of a report: the unexpected start and end, and the line
abbrev pub at : ℕ → ℕ → ℕ → List ℕ
at start end line = start ∷ end ∷ line ∷ []

-- an entry, the tokens, and the reports of trailing commas in crate mode and in brace mode
pub record CommaText : Type 0 where
  pub entry : Entry
  pub pieces : List Piece
  pub crate_mode : List (List ℕ)
  pub brace_mode : List (List ℕ)

abbrev both : List Piece → List (List ℕ) → CommaText
both pieces reports = record { entry = document_entry; pieces = pieces; crate_mode = reports; brace_mode = reports }

unfoldable pub comma_texts : List CommaText
comma_texts =
    -- `x={a=1,}`: the trailing comma itself
    both (atom 1 ∷ equals ∷ open_curly ∷ atom 1 ∷ equals ∷ atom 1 ∷ comma ∷ close_curly ∷ eof ∷ []) (at 6 7 1 ∷ [])
    -- `x={a}`: there is no comma
    ∷ both (atom 1 ∷ equals ∷ open_curly ∷ atom 1 ∷ close_curly ∷ eof ∷ []) (at 4 4 1 ∷ [])
    -- `x={a=[1,2],b=}`: the sound comma between the pairs
    ∷ both (atom 1 ∷ equals ∷ open_curly ∷ atom 1 ∷ equals ∷ open_square ∷ atom 1 ∷ comma ∷ atom 1 ∷ close_square ∷ comma ∷ atom 1 ∷ equals ∷ close_curly ∷ eof ∷ []) (at 10 11 1 ∷ [])
    -- `x={a=[1,2]b=}`: in the inner array
    ∷ both (atom 1 ∷ equals ∷ open_curly ∷ atom 1 ∷ equals ∷ open_square ∷ atom 1 ∷ comma ∷ atom 1 ∷ close_square ∷ atom 1 ∷ equals ∷ close_curly ∷ eof ∷ []) (at 7 8 1 ∷ [])
    -- `x={a={b=1,c=2}d}`: in the inner table
    ∷ both (atom 1 ∷ equals ∷ open_curly ∷ atom 1 ∷ equals ∷ open_curly ∷ atom 1 ∷ equals ∷ atom 1 ∷ comma ∷ atom 1 ∷ equals ∷ atom 1 ∷ close_curly ∷ atom 1 ∷ close_curly ∷ eof ∷ []) (at 9 10 1 ∷ [])
    -- `x={[,]a}`: in a part that is skipped
    ∷ both (atom 1 ∷ equals ∷ open_curly ∷ open_square ∷ comma ∷ close_square ∷ atom 1 ∷ close_curly ∷ eof ∷ []) (at 4 5 1 ∷ [])
    -- `x={a=[{b=1,}]c}`: one comma for two tables
    ∷ both (atom 1 ∷ equals ∷ open_curly ∷ atom 1 ∷ equals ∷ open_square ∷ open_curly ∷ atom 1 ∷ equals ∷ atom 1 ∷ comma ∷ close_curly ∷ close_square ∷ atom 1 ∷ close_curly ∷ eof ∷ []) (at 10 11 1 ∷ at 10 11 1 ∷ [])
    -- `x={a=[`, a newline, `1,`, a newline, `2]b=}`: the comma of line 2 for a mistake of line 3
    ∷ both (atom 1 ∷ equals ∷ open_curly ∷ atom 1 ∷ equals ∷ open_square ∷ line_end ∷ atom 1 ∷ comma ∷ line_end ∷ atom 1 ∷ close_square ∷ atom 1 ∷ equals ∷ close_curly ∷ eof ∷ []) (at 8 9 2 ∷ [])
    -- `x={a=1,b={c=}}`: a nested table has its own brace
    ∷ record {
      entry = document_entry;
      pieces = atom 1 ∷ equals ∷ open_curly ∷ atom 1 ∷ equals ∷ atom 1 ∷ comma ∷ atom 1 ∷ equals ∷ open_curly ∷ atom 1 ∷ equals ∷ close_curly ∷ close_curly ∷ eof ∷ [];
      crate_mode = at 6 7 1 ∷ [];
      brace_mode = at 12 12 1 ∷ [];
    }
    -- `y=[1,`, a newline, `2]`, a newline, `x={a=}`: the comma on the wrong line
    ∷ record {
      entry = document_entry;
      pieces = atom 1 ∷ equals ∷ open_square ∷ atom 1 ∷ comma ∷ line_end ∷ atom 1 ∷ close_square ∷ line_end ∷ atom 1 ∷ equals ∷ open_curly ∷ atom 1 ∷ equals ∷ close_curly ∷ eof ∷ [];
      crate_mode = at 4 5 1 ∷ [];
      brace_mode = at 14 14 3 ∷ [];
    }
    -- the value entry, `[,{a}` without Eof: the smallest list that differs
    ∷ record { entry = value_entry; pieces = open_square ∷ comma ∷ open_curly ∷ atom 1 ∷ close_curly ∷ []; crate_mode = at 1 2 1 ∷ []; brace_mode = at 4 4 1 ∷ [] }
    ∷ []

-- as written above
abbrev pub written_in : Mode → CommaText → List (List ℕ)
written_in Mode.Crate t = t.crate_mode
written_in Mode.Brace t = t.brace_mode

abbrev pub commas_written : Mode → List CommaText → List (List (List ℕ))
commas_written mode [] = []
commas_written mode (t ∷ ts) = written_in mode t ∷ commas_written mode ts

-- as the rules have it: of the errors those of trailing commas
abbrev pub if_comma : Bool → List ℕ → List (List ℕ) → List (List ℕ)
if_comma true e es = at (get_or e 4 0) (get_or e 5 0) (get_or e 6 0) ∷ es
if_comma false e es = es

abbrev pub commas_of : List (List ℕ) → List (List ℕ)
commas_of [] = []
commas_of (e ∷ es) = if_comma (eqb (get_or e 0 0) message.trailing_comma) e (commas_of es)

abbrev pub commas_ruled : Mode → List CommaText → List (List (List ℕ))
commas_ruled mode [] = []
commas_ruled mode (t ∷ ts) =
    let all = laid 0 t.pieces in
    commas_of (errors_of mode all (parse t.entry all).items) ∷ commas_ruled mode ts
