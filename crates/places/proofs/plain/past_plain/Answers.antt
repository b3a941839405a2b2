-- Thirty-two bytes a turn, or up to the first that is one of the three.
use native.Mathlib.Omega.{arith}
use Rattle.places.specs.PlaceLaws.{passed_none, passed_to}
use Rattle.places.proofs.plain.past_plain.Goals as goal

pub loop-i-init : goal.loop-i-init
loop-i-init c = passed_none c.requires

pub first_of-first-requires : goal.first_of-first-requires
first_of-first-requires c = omega (arith, c.loop-i-test.true, c.loop-i.invariant.within)

pub returns-then-first-lt32 : goal.returns-then-first-lt32
returns-then-first-lt32 c = (passed_to c.loop-i.invariant c.first_of-first.ensures)

pub loop-i-smaller : goal.loop-i-smaller
loop-i-smaller c = omega (arith, c.loop-i-test.true, c.if-first-lt32.false)

pub loop-i-preserved : goal.loop-i-preserved
loop-i-preserved c = (passed_to c.loop-i.invariant c.first_of-first.ensures)

pub returns : goal.returns
returns c = c.loop-i.invariant
