-- The least place so far: the bytes before it are none of the three.
use mathlib.Core.List.{[], ◌∷◌}
use Rattle.places.specs.Places.{none_of}
use Rattle.places.specs.PlaceLaws.{Led}
use Rattle.places.proofs.plain.first_of.Given as goal

abbrev pub invariant-loop-k : goal.invariant-loop-k
invariant-loop-k l = Led (none_of (l.x ∷ l.y ∷ l.z ∷ [])) l.text l.at l.first l.k
