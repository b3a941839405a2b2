-- On past a token before the record; at the end of the list there is none.
use Rattle.line_points.specs.PointLaws.{before_on, reached_end}
use Rattle.line_points.proofs.points.point_from.Goals as goal

pub loop-point-preserved : goal.loop-point-preserved
loop-point-preserved c = before_on c.loop-point.invariant c.in-Some.ensures c.loop-point-test.true _ c.newlines.ensures

pub returns-in_default : goal.returns-in_default
returns-in_default c = reached_end c.loop-point.invariant c.in_default.ensures
