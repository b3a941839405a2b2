-- The fourteen texts of document 01, read by hand, as one list; and further texts, as the oracle reads them. Assumes nothing.
-- Base 0. A report's numbers are those of docs/LAYOUT.md.
use Rattle.std.specs.Prelude.{ℕ, ◌*◌, ◌-◌, List, [], ◌∷◌, ◌++◌, length}
use Rattle.rules.specs.declared.options.Mode.{Mode}
use Rattle.rules.specs.declared.options.Options.{Options}
use Rattle.rules.specs.Entries.{Entry, document_entry, key_entry, parse}
use Rattle.rules.specs.Words.{events_of, errors_of}
use Rattle.rules.specs.Answer.{event_size, error_size, Outcome, joined, outcome}
use Rattle.rules.specs.TextWords.{Piece, dot, equals, comma, open_square, close_square, open_curly, close_curly, space, line_end, basic_string, atom, eof, laid, record_bytes, words}
use Rattle.rules.specs.TextWords.{std_table_open, std_table_close, array_table_open, simple_key, key_sep, key_val_sep, scalar, basic_scalar, value_sep, array_open, array_close, inline_table_open, inline_table_close, whitespace, newline, error, reported}

-- an entry, the tokens, and how they are read: the events and the error reports
pub record Text : Type 0 where
  pub entry : Entry
  pub pieces : List Piece
  pub events : List (List ℕ)
  pub errors : List (List ℕ)

abbrev pub at : Entry → List Piece → List (List ℕ) → List (List ℕ) → Text
at entry pieces events errors = record { entry = entry; pieces = pieces; events = events; errors = errors }

unfoldable pub texts : List Text
texts =
    -- 1: the empty document
    at document_entry (eof ∷ []) [] []
    -- 2: `a=1`
    ∷ at document_entry (atom 1 ∷ equals ∷ atom 1 ∷ eof ∷ [])
    (simple_key 0 1 ∷ key_val_sep 1 2 ∷ scalar 2 3 ∷ [])
    []
    -- 3: `[a]` and a newline
    ∷ at document_entry (open_square ∷ atom 1 ∷ close_square ∷ line_end ∷ eof ∷ [])
    (std_table_open 0 1 ∷ simple_key 1 2 ∷ std_table_close 2 3 ∷ newline 3 4 ∷ [])
    []
    -- 4: `[[a]` and a newline
    ∷ at document_entry (open_square ∷ open_square ∷ atom 1 ∷ close_square ∷ line_end ∷ eof ∷ [])
    (array_table_open 0 2 ∷ simple_key 2 3 ∷ newline 4 5 ∷ [])
    (reported 1 2 0 4 4 4 1 ∷ [])
    -- 5: `[=` and a newline; no report
    ∷ at document_entry (open_square ∷ equals ∷ line_end ∷ eof ∷ [])
    (std_table_open 0 1 ∷ simple_key 1 1 ∷ error 1 2 ∷ newline 2 3 ∷ [])
    []
    -- 6: `x={[x]}`
    ∷ at document_entry (atom 1 ∷ equals ∷ open_curly ∷ open_square ∷ atom 1 ∷ close_square ∷ close_curly ∷ eof ∷ [])
    (simple_key 0 1 ∷ key_val_sep 1 2 ∷ inline_table_open 2 3 ∷ error 3 4 ∷ error 4 5 ∷ array_close 5 6 ∷ inline_table_close 6 7 ∷ [])
    (reported 17 4 2 3 3 3 1 ∷ [])
    -- 7: `x={a=}`
    ∷ at document_entry (atom 1 ∷ equals ∷ open_curly ∷ atom 1 ∷ equals ∷ close_curly ∷ eof ∷ [])
    (simple_key 0 1 ∷ key_val_sep 1 2 ∷ inline_table_open 2 3 ∷ simple_key 3 4 ∷ key_val_sep 4 5 ∷ inline_table_close 5 6 ∷ [])
    (reported 19 1 2 3 5 5 1 ∷ [])
    -- 8: `x={}`
    ∷ at document_entry (atom 1 ∷ equals ∷ open_curly ∷ close_curly ∷ eof ∷ [])
    (simple_key 0 1 ∷ key_val_sep 1 2 ∷ inline_table_open 2 3 ∷ inline_table_close 3 4 ∷ [])
    []
    -- 9: `x={a=[`; the inline table is closed by an array_close
    ∷ at document_entry (atom 1 ∷ equals ∷ open_curly ∷ atom 1 ∷ equals ∷ open_square ∷ eof ∷ [])
    (simple_key 0 1 ∷ key_val_sep 1 2 ∷ inline_table_open 2 3 ∷ simple_key 3 4 ∷ key_val_sep 4 5 ∷ array_open 5 6 ∷ array_close 6 6 ∷ array_close 6 6 ∷ [])
    (reported 7 2 5 6 6 6 1 ∷ reported 14 10 2 3 6 6 1 ∷ [])
    -- 10: the key entry, the empty list
    ∷ at key_entry [] [] (reported 4 4 0 0 0 0 1 ∷ [])
    -- 11: the key entry, `a.` without Eof
    ∷ at key_entry (atom 1 ∷ dot ∷ [])
    (simple_key 0 1 ∷ key_sep 1 2 ∷ simple_key 2 2 ∷ [])
    []
    -- 12: `x=[1 2,]`; one scalar
    ∷ at document_entry (atom 1 ∷ equals ∷ open_square ∷ atom 1 ∷ space ∷ atom 1 ∷ comma ∷ close_square ∷ eof ∷ [])
    (simple_key 0 1 ∷ key_val_sep 1 2 ∷ array_open 2 3 ∷ scalar 3 6 ∷ value_sep 6 7 ∷ array_close 7 8 ∷ [])
    []
    -- 13: `x=[1 "b"]`
    ∷ at document_entry (atom 1 ∷ equals ∷ open_square ∷ atom 1 ∷ space ∷ basic_string 3 ∷ close_square ∷ eof ∷ [])
    (simple_key 0 1 ∷ key_val_sep 1 2 ∷ array_open 2 3 ∷ scalar 3 4 ∷ whitespace 4 5 ∷ value_sep 5 5 ∷ basic_scalar 5 8 ∷ array_close 8 9 ∷ [])
    (reported 10 8 2 3 5 5 1 ∷ [])
    -- 14: `x=[}]`
    ∷ at document_entry (atom 1 ∷ equals ∷ open_square ∷ close_curly ∷ close_square ∷ eof ∷ [])
    (simple_key 0 1 ∷ key_val_sep 1 2 ∷ array_open 2 3 ∷ inline_table_open 3 3 ∷ inline_table_close 3 4 ∷ array_close 4 5 ∷ [])
    (reported 11 9 3 4 3 3 1 ∷ [])
    ∷ []

-- not of document 01: how the oracle reads them
unfoldable pub further_texts : List Text
further_texts =
    -- `y=[1,2]`, a newline, `x={a=}`: the comma of report 19 stands outside the braces
    at document_entry (atom 1 ∷ equals ∷ open_square ∷ atom 1 ∷ comma ∷ atom 1 ∷ close_square ∷ line_end ∷ atom 1 ∷ equals ∷ open_curly ∷ atom 1 ∷ equals ∷ close_curly ∷ eof ∷ [])
    (simple_key 0 1 ∷ key_val_sep 1 2 ∷ array_open 2 3 ∷ scalar 3 4 ∷ value_sep 4 5 ∷ scalar 5 6 ∷ array_close 6 7 ∷ newline 7 8
    ∷ simple_key 8 9 ∷ key_val_sep 9 10 ∷ inline_table_open 10 11 ∷ simple_key 11 12 ∷ key_val_sep 12 13 ∷ inline_table_close 13 14 ∷ [])
    (reported 19 1 10 11 4 5 1 ∷ [])
    -- `[=ledger]` and a newline: an empty key, and no report
    ∷ at document_entry (open_square ∷ equals ∷ atom 6 ∷ close_square ∷ line_end ∷ eof ∷ [])
    (std_table_open 0 1 ∷ simple_key 1 1 ∷ error 1 2 ∷ error 2 8 ∷ error 8 9 ∷ newline 9 10 ∷ [])
    []
    -- `[]` and a newline: no report and no error event
    ∷ at document_entry (open_square ∷ close_square ∷ line_end ∷ eof ∷ [])
    (std_table_open 0 1 ∷ simple_key 1 1 ∷ std_table_close 1 2 ∷ newline 2 3 ∷ [])
    []
    -- `a=` and a newline: no report and no error event
    ∷ at document_entry (atom 1 ∷ equals ∷ line_end ∷ eof ∷ [])
    (simple_key 0 1 ∷ key_val_sep 1 2 ∷ scalar 2 2 ∷ newline 2 3 ∷ [])
    []
    ∷ []

-- events and reports
pub record Reading : Type 0 where
  pub events : List (List ℕ)
  pub errors : List (List ℕ)

-- as written above
abbrev pub as_written : List Text → List Reading
as_written [] = []
as_written (t ∷ ts) = record { events = t.events; errors = t.errors } ∷ as_written ts

-- as the rules have it
abbrev pub as_ruled : Mode → List Text → List Reading
as_ruled mode [] = []
as_ruled mode (t ∷ ts) =
    let all = laid 0 t.pieces in
    let given = (parse t.entry all).items in
    record { events = events_of all given; errors = errors_of mode all given } ∷ as_ruled mode ts

-- the same from record bytes, in buffers of so many words that all hold w: the answer, what is written, what is left as it was
abbrev pub room : ℕ
room = 64

abbrev pub written_outcomes : ℕ → List Text → List Outcome
written_outcomes w [] = []
written_outcomes w (t ∷ ts) =
    record {
      answer = record { refusal = 0; place = 0; events = length t.events; errors = length t.errors };
      events = joined t.events ++ words w (room - event_size * length t.events);
      errors = joined t.errors ++ words w (room - error_size * length t.errors);
    }
    ∷ written_outcomes w ts

abbrev pub ruled_outcomes : Options → ℕ → List Text → List Outcome
ruled_outcomes options w [] = []
ruled_outcomes options w (t ∷ ts) = outcome options t.entry (record_bytes t.pieces) 0 (words w room) (words w room) ∷ ruled_outcomes options w ts
