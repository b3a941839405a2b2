-- Points where the lines are counted, and the line of a place found from one. Assumes nothing.
use Rattle.std.specs.Prelude.{◌≡◌, List, ℕ, zero, suc, ◌+◌, ◌≤◌}
use Rattle.token.specs.Laid.{Laid}
use Rattle.token.specs.Records.{kind_at}
use Rattle.token.specs.Tokens.{all_tokens, tokens_at, At, Good}
use Rattle.rules.specs.Lines.{newlines, newlines_by, line_of}
use Rattle.rules.specs.Words.{comma_between}
use Rattle.line_points.specs.declared.points.LinePoint.{LinePoint}

-- the start of a list whose text starts at base
pub record Begins (base : ℕ) (p : LinePoint) : Type 0 where
  pub at : At p.cur base 0 base
  pub line : p.line ≡ 1

-- how many of the first records are Newlines
unfoldable pub newlines_to : ℕ → List ℕ → ℕ
newlines_to zero s = 0
newlines_to (suc i) s = newlines_to i s + newlines (kind_at s i)

-- up to the point p the lines are counted: to the line of a place that is not before it, only the tokens behind it add
pub record Counted (s : List ℕ) (base : ℕ) (p : LinePoint) : Type 0 where
  pub good : Good s p.cur
  pub based : p.cur.base ≡ base
  pub counted : (at : ℕ) → p.cur.place ≤ at → line_of (all_tokens s base) at ≡ p.line + newlines_by at (tokens_at s p.cur)
  pub sum : p.line ≡ newlines_to p.cur.at s + 1
  pub whole : Laid base (all_tokens s base)
  pub laid : Laid p.cur.place (tokens_at s p.cur)

-- a counted point from which the line of the place `at` is found
pub record Toward (s : List ℕ) (base at : ℕ) (p : LinePoint) : Type 0 where
  pub point : Counted s base p
  pub here : line_of (all_tokens s base) at ≡ p.line + newlines_by at (tokens_at s p.cur)

-- a counted point that has the line of the place
pub record Numbered (s : List ℕ) (base at : ℕ) (p : LinePoint) : Type 0 where
  pub point : Counted s base p
  pub line : p.line ≡ line_of (all_tokens s base) at

-- a counted point before which the same commas are as before a record
pub record Reached (s : List ℕ) (base past : ℕ) (p : LinePoint) : Type 0 where
  pub point : Counted s base p
  pub same : (first start : ℕ) → comma_between (all_tokens s base) first past start ≡ comma_between (all_tokens s base) first p.cur.at start
