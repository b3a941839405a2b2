-- The scalar's rule from here is its rule from the start.
use Prim.Native.Nat.{◌-◌}
use Rattle.token.specs.Records.{count}
use Rattle.scalars.proofs.ScalarLaws.{Runs}
use Rattle.scalars.proofs.scalar.reach_of.Given as goal

abbrev pub invariant-loop-t : goal.invariant-loop-t
invariant-loop-t l = Runs l.s l.end l.cur l.initial.end l.initial.cur

abbrev pub decreases-loop-t : goal.decreases-loop-t
decreases-loop-t l = count l.s - l.cur.at
