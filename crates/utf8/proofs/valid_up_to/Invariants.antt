-- A step a turn: how far the rest is valid leads to how far all is.
use Prim.Native.Nat.{◌-◌}
use lib.ListN.{length}
use Rattle.places.specs.PlaceLaws.{Still}
use Rattle.utf8_sequences.specs.Utf8.{valid_up_to}
use Rattle.utf8.proofs.valid_up_to.Given as goal

abbrev pub invariant-loop-i : goal.invariant-loop-i
invariant-loop-i l = Still valid_up_to l.text 0 l.i

abbrev pub decreases-loop-i : goal.decreases-loop-i
decreases-loop-i l = length l.text - l.i
