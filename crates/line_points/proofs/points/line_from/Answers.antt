-- On past a token that ends at or before the place.
use Rattle.line_points.specs.PointLaws.{toward_on}
use Rattle.line_points.proofs.points.line_from.Goals as goal

pub loop-t-preserved : goal.loop-t-preserved
loop-t-preserved c = toward_on c.loop-t.invariant c.in-Some.ensures _ c.newlines.ensures c.if-at-t.false
