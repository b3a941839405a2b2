-- Thirty-two bytes a turn.
use mathlib.Core.Path.{refl, sym, ◌∙◌}
use native.Mathlib.Omega.{arith}
use Rattle.places.specs.PlaceLaws.{passed_none, passed_on}
use Rattle.utf8.proofs.past_ascii_by_thirty_two.Goals as goal

pub loop-i-init : goal.loop-i-init
loop-i-init c = passed_none c.requires

pub thirty_two_ascii-requires : goal.thirty_two_ascii-requires
thirty_two_ascii-requires c = omega (arith, c.loop-i-test.true, c.loop-i.invariant.within)

pub loop-i-preserved : goal.loop-i-preserved
loop-i-preserved c = passed_on c.loop-i.invariant 32 _ refl (omega (arith, c.loop-i-test.true, c.loop-i.invariant.within)) (sym c.thirty_two_ascii.ensures ∙ c.if-not-thirty_two_ascii.false)

pub returns-then-not-thirty_two_ascii : goal.returns-then-not-thirty_two_ascii
returns-then-not-thirty_two_ascii c = c.loop-i.invariant

pub returns : goal.returns
returns c = c.loop-i.invariant
