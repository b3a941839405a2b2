-- What the step promises that puts a piece on the sheet. Assumes nothing.
use Rattle.std.specs.Prelude.{ℕ, ◌+◌, ◌≤◌, ◌≡◌, List}
use Rattle.token.specs.Tokens.{all_tokens}
use Rattle.line_points.specs.Points.{Counted}
use Rattle.pieces.specs.declared.pieces.Piece.{Piece}
use Rattle.mistakes.specs.declared.listing.Noted.{Noted}
use Rattle.mistake_rules.specs.Mistakes.{Mistake, judged, all_words}
use Rattle.mistake_rules.specs.Sheets.{put_all}
use Rattle.mistake_steps.specs.Steps.{errors_left}

-- the piece was put on the sheet, unless a record accounts for it; the line point went on
pub record Notes (s : List ℕ) (base m : ℕ) (errors : List ℕ) (r : ℕ) (p : Piece) (k : ℕ) (before after : List ℕ) (x : Noted) : Type 0 where
  pub same : (on : List (List ℕ) → List Mistake)
      → put_all (all_words (all_tokens s base) (judged p on (errors_left m r errors))) (record { count = k; buffer = before })
      ≡ put_all (all_words (all_tokens s base) (on (errors_left m r errors))) (record { count = x.count; buffer = after })
  pub point : Counted s base x.point
  pub most : x.count ≤ k + 1
