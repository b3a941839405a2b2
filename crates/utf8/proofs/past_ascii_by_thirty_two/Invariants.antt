-- Thirty-two bytes a turn.
use Prim.Native.Nat.{◌-◌}
use lib.ListN.{length}
use Rattle.places.specs.Places.{Passed}
use Rattle.utf8_sequences.specs.Steps.{is_ascii}
use Rattle.utf8.proofs.past_ascii_by_thirty_two.Given as goal

abbrev pub invariant-loop-i : goal.invariant-loop-i
invariant-loop-i l = Passed is_ascii l.text l.at l.i

abbrev pub decreases-loop-i : goal.decreases-loop-i
decreases-loop-i l = length l.text - l.i
