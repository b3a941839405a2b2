-- A record a turn.
use Rattle.mistake_steps.proofs.PuttingLaws.{Putting}
use Rattle.mistake_steps.proofs.putting.put_records.Given as goal

abbrev pub invariant-loop-i : goal.invariant-loop-i
invariant-loop-i l = Putting l.j l.errors l.r l.k l.initial.mistakes l.i l.mistakes
