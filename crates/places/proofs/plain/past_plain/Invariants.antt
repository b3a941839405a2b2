-- Thirty-two bytes a turn, or up to the first that is one of the three.
use mathlib.Core.List.{[], ◌∷◌}
use Prim.Native.Nat.{◌-◌}
use lib.ListN.{length}
use Rattle.places.specs.Places.{none_of, Passed}
use Rattle.places.proofs.plain.past_plain.Given as goal

abbrev pub invariant-loop-i : goal.invariant-loop-i
invariant-loop-i l = Passed (none_of (l.x ∷ l.y ∷ l.z ∷ [])) l.text l.at l.i

abbrev pub decreases-loop-i : goal.decreases-loop-i
decreases-loop-i l = length l.text - l.i
