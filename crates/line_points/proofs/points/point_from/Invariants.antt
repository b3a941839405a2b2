-- On past the tokens before the record.
use Rattle.std.proofs.Common.{◌-◌}
use Rattle.token.specs.Records.{count}
use Rattle.line_points.specs.PointLaws.{Before}
use Rattle.line_points.proofs.points.point_from.Given as goal

abbrev pub invariant-loop-point : goal.invariant-loop-point
invariant-loop-point l = Before l.s l.fn.p.cur.base l.upto l.point

abbrev pub decreases-loop-point : goal.decreases-loop-point
decreases-loop-point l = count l.s - l.point.cur.at
