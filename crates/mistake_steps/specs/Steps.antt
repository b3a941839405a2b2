-- What the steps of the listing promise of the error records. Assumes nothing.
use Rattle.std.specs.Prelude.{ℕ, ◌-◌, ◌≤◌, ◌≡◌, Bool, false, List, [], ◌∷◌, ◌++◌}
use Rattle.token.specs.Tokens.{Tok}
use Rattle.pieces.specs.declared.pieces.Piece.{Piece}
use Rattle.mistake_rules.specs.Mistakes.{errors_from, start_of, Mistake, accounts_for, judged, placed, all_words}

-- more than any two buffers in memory have entries: a count stays below it
abbrev pub countless : ℕ
countless = 2305843009213693952

-- the error records from record r on, of m
abbrev pub errors_left : ℕ → ℕ → List ℕ → List (List ℕ)
errors_left m r buffer = errors_from (m - r) r buffer

-- whether the first of the records accounts for the piece
abbrev pub accounted : Piece → List (List ℕ) → Bool
accounted p [] = false
accounted p (e ∷ es) = accounts_for (start_of e) p

-- the records from r up to j go before the piece, and those from j on begin with none that does
pub record Passes (m : ℕ) (buffer : List ℕ) (r : ℕ) (p : Piece) (j : ℕ) : Type 0 where
  pub same : (all : List Tok) (on : List (List ℕ) → List Mistake)
      → all_words all (placed p on (errors_left m r buffer)) ≡ errors_left j r buffer ++ all_words all (judged p on (errors_left m j buffer))
  pub on : r ≤ j
  pub within : j ≤ m
