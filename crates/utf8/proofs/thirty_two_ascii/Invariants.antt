-- The count is that of the turns as long as all are ASCII.
use Rattle.utf8_sequences.specs.Steps.{is_ascii}
use Rattle.places.specs.PlaceLaws.{Tallied}
use Rattle.utf8.proofs.thirty_two_ascii.Given as goal

abbrev pub invariant-loop-k : goal.invariant-loop-k
invariant-loop-k l = Tallied is_ascii l.text l.at l.count l.k
