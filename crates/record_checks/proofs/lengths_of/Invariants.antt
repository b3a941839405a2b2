-- The lengths so far are added.
use Rattle.record_checks.proofs.StretchLaws.{Added}
use Rattle.record_checks.proofs.lengths_of.Given as goal

abbrev pub invariant-loop-nth : goal.invariant-loop-nth
invariant-loop-nth l = Added l.s l.i l.nth l.lengths
