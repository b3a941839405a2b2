-- A loop of turns that ends with the first behind which no turn follows.
use mathlib.Core.Path.{refl, ◌∙◌}
use native.Mathlib.Omega.{arith}
use Prim.Native.Nat.{◌-◌}
use Rattle.array_runs.proofs.RunLaws.{running_begun, running_next, ran, again_moved}
use Rattle.array_runs.proofs.turns.array_turns.Goals as goal

pub loop-cur-preserved : goal.loop-cur-preserved
loop-cur-preserved c = (running_next c.loop-cur.invariant.0 _ c.array_turn-a.ensures.0 c.in-Again.is, (c.array_turn-a.auto.events) ∙ c.loop-cur.invariant.1, (c.array_turn-a.auto.errors) ∙ c.loop-cur.invariant.2)

pub returns-in_default : goal.returns-in_default
returns-in_default c = ran c.loop-cur.invariant.0 _ c.array_turn-a.ensures.0 c.array_turn-a.ensures.1
