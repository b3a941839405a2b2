-- The scalar's rule from here is its rule from the start.
use mathlib.Core.Path.{refl}
use native.Mathlib.Omega.{arith}
use Prim.Native.Nat.{◌-◌}
use Rattle.output.specs.WalkLaws.{told, told_done, told_if, told_none}
use Rattle.scalars.proofs.ScalarLaws.{run_end, other_ends, space_ends, space_on}
use Rattle.token.specs.declared.kind.Kind.{Kind}
use Rattle.scalars.proofs.scalar.reach_of.Goals as goal

pub returns : goal.returns
returns c = run_end c.loop-t.invariant c.in_default.ensures
