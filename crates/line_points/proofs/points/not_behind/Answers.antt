-- By the test.
use Rattle.line_points.specs.PointLaws.{toward_begun}
use Rattle.line_points.proofs.points.not_behind.Goals as goal

pub returns-then-at-p : goal.returns-then-at-p
returns-then-at-p c = toward_begun _ _ c.requires c.first_line.ensures
