-- The list of mistakes: the error records of a run, and the pieces that none of them accounts for. Assumes nothing.
use Rattle.std.specs.Prelude.{ℕ, zero, suc, ◌+◌, ◌*◌, Bool, true, false, cond, List, [], ◌∷◌, get_or, eqb, ltb}
use Rattle.token.specs.Tokens.{Tok}
use Rattle.rules.specs.Lines.{line_of}
use Rattle.rules.specs.Answer.{error_size}
use Rattle.pieces.specs.declared.pieces.Piece.{Piece}
use Rattle.pieces.specs.Messages.{multi_line_string, bracket_not_closed, expected_by}
use Rattle.pieces.specs.Pieces.{events_from, pieces}

-- the seven words of error record i in a buffer
abbrev pub error_at : ℕ → List ℕ → List ℕ
error_at i buffer =
    get_or buffer (i * error_size) 0
    ∷ get_or buffer (i * error_size + 1) 0
    ∷ get_or buffer (i * error_size + 2) 0
    ∷ get_or buffer (i * error_size + 3) 0
    ∷ get_or buffer (i * error_size + 4) 0
    ∷ get_or buffer (i * error_size + 5) 0
    ∷ get_or buffer (i * error_size + 6) 0
    ∷ []

-- n error records in a buffer, from record i on
unfoldable pub errors_from : ℕ → ℕ → List ℕ → List (List ℕ)
errors_from zero i buffer = []
errors_from (suc n) i buffer = error_at i buffer ∷ errors_from n (suc i) buffer

-- a record's unexpected start
abbrev pub start_of : List ℕ → ℕ
start_of words = get_or words 4 0

-- a mistake: an error record as it is, or a piece that is reported nowhere
pub data Mistake : Type 0 where
  reported : List ℕ → Mistake
  silent : Piece → Mistake

-- whether a record that starts there is listed before the piece: it starts before it. The place of a bracket that was given up may be far back,
-- so all records go before it up to one that starts there
abbrev pub goes_before : ℕ → Piece → Bool
goes_before start p = cond (eqb p.message bracket_not_closed) (cond (eqb start p.start) false true) (ltb start p.start)

-- whether a record that starts there accounts for the piece: it starts where the piece does. Nothing accounts for a multi-line string as a key
abbrev pub accounts_for : ℕ → Piece → Bool
accounts_for start p = cond (eqb p.message multi_line_string) false (eqb start p.start)

-- the piece, before these records and whatever `on` lists: unless the first of them accounts for it
abbrev pub judged : Piece → (List (List ℕ) → List Mistake) → List (List ℕ) → List Mistake
judged p on [] = silent p ∷ on []
judged p on (e ∷ es) = cond (accounts_for (start_of e) p) (on (e ∷ es)) (silent p ∷ on (e ∷ es))

-- the same, behind the records that go before it
abbrev pub placed : Piece → (List (List ℕ) → List Mistake) → List (List ℕ) → List Mistake
placed p on [] = judged p on []
placed p on (e ∷ es) = cond (goes_before (start_of e) p) (reported e ∷ placed p on es) (judged p on (e ∷ es))

abbrev pub all_reported : List (List ℕ) → List Mistake
all_reported [] = []
all_reported (e ∷ es) = reported e ∷ all_reported es

-- piece by piece; the records that are left come last
unfoldable pub merged : List Piece → List (List ℕ) → List Mistake
merged [] es = all_reported es
merged (p ∷ ps) es = placed p (merged ps) es

-- the mistakes of n events and m error records in their buffers
abbrev pub mistakes_in : ℕ → List ℕ → ℕ → List ℕ → List Mistake
mistakes_in n events m errors = merged (pieces (events_from n 0 events) false) (errors_from m 0 errors)

-- the seven words of a mistake. Of a piece the context is its own span, and the line is that of its start
abbrev pub words_of : List Tok → Mistake → List ℕ
words_of all (reported words) = words
words_of all (silent p) = p.message ∷ expected_by p.message ∷ p.start ∷ p.end ∷ p.start ∷ p.end ∷ line_of all p.start ∷ []

abbrev pub all_words : List Tok → List Mistake → List (List ℕ)
all_words all [] = []
all_words all (x ∷ xs) = words_of all x ∷ all_words all xs
