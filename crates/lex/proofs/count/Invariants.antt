-- A token a turn, and Eof behind the last.
use Prim.Native.Nat.{◌-◌}
use lib.ListN.{length}
use Rattle.text_records.specs.TextRecordLaws.{Counted}
use Rattle.lex.proofs.count.Given as goal

abbrev pub invariant-loop-at : goal.invariant-loop-at
invariant-loop-at l = Counted l.text l.base l.at l.n

abbrev pub decreases-loop-at : goal.decreases-loop-at
decreases-loop-at l = length l.text - l.at
