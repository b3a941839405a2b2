-- A token a turn, and Eof behind the last.
use Prim.Native.Nat.{◌-◌}
use lib.ListN.{length}
use Rattle.text_records.specs.TextRecordLaws.{Placed}
use Rattle.text_records.proofs.write.Given as goal

abbrev pub invariant-loop-at : goal.invariant-loop-at
invariant-loop-at l = Placed l.text l.base l.initial.records l.at l.out l.records

abbrev pub decreases-loop-at : goal.decreases-loop-at
decreases-loop-at l = length l.text - l.at
