-- The least place so far: the bytes before it are none of the three.
use native.Mathlib.Omega.{arith}
use Rattle.places.specs.PlaceLaws.{led_begun, led_on, led_end}
use Rattle.places.proofs.plain.first_of.Goals as goal

pub loop-k-init : goal.loop-k-init
loop-k-init c = led_begun

pub overflow_add-at : goal.overflow_add-at
overflow_add-at c = omega (arith, c.requires)

pub bounds-text-at : goal.bounds-text-at
bounds-text-at c = omega (arith, c.requires, c.loop-k-test.true)

pub overflow_cast-k : goal.overflow_cast-k
overflow_cast-k c = omega (arith, c.loop-k-test.true)

pub loop-k-preserved : goal.loop-k-preserved
loop-k-preserved c = led_on c.loop-k.invariant c.loop-k-test.true (omega (arith, c.requires, c.loop-k-test.true)) _ _ c.place_of.ensures c.min-first.ensures

pub returns : goal.returns
returns c = led_end c.loop-k.invariant c.loop-k-test.false c.requires
