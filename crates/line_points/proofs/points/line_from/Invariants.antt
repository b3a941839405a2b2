-- On past the tokens that end at or before the place.
use Rattle.std.proofs.Common.{◌-◌}
use Rattle.token.specs.Records.{count}
use Rattle.line_points.specs.Points.{Toward}
use Rattle.line_points.proofs.points.line_from.Given as goal

abbrev pub invariant-loop-t : goal.invariant-loop-t
invariant-loop-t l = Toward l.s l.fn.p.cur.base l.at l.point

abbrev pub decreases-loop-t : goal.decreases-loop-t
decreases-loop-t l = count l.s - l.point.cur.at
