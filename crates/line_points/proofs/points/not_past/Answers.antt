-- By the test.
use Rattle.std.proofs.Common.{arith}
use Rattle.line_points.specs.PointLaws.{counted_again}
use Rattle.line_points.proofs.points.not_past.Goals as goal

pub returns-then-upto-p : goal.returns-then-upto-p
returns-then-upto-p c = (counted_again _ c.requires c.first_line.ensures, omega (arith, c.first_line.ensures.at.at))
