-- No event before the one that the loop is at has an empty span.
use Rattle.quiet.specs.Runs.{NoneEmpty}
use Rattle.quiet.proofs.run.none_empty.Given as goal

abbrev pub invariant-loop-i : goal.invariant-loop-i
invariant-loop-i l = NoneEmpty l.i l.events
