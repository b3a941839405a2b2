-- What is found of one error. Assumes nothing.
use Rattle.std.specs.Prelude.{◌≡◌, List, ℕ}
use Rattle.token.specs.Tokens.{all_tokens}
use Rattle.rules.specs.declared.options.Mode.{Mode}
use Rattle.rules.specs.Lines.{line_of}
use Rattle.line_numbers.specs.declared.numbering.Placed.{Placed}
use Rattle.line_points.specs.Points.{Counted}
use Rattle.blamed_commas.specs.Commas.{Known}
use Rattle.line_numbers.specs.Numbering.{placed}

-- the span and the line of the error whose last three words were left so, with a counted point and a comma that is known
pub record Places (s : List ℕ) (base : ℕ) (mode : Mode) (start end mark : ℕ) (r : Placed) : Type 0 where
  pub point : Counted s base r.point
  pub comma : Known s base r.comma
  pub span : record { start = r.start; end = r.end } ≡ placed mode (all_tokens s base) start end mark
  pub line : r.line ≡ line_of (all_tokens s base) (placed mode (all_tokens s base) start end mark).start
