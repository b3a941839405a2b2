-- What was written, and what the state still gives with the events that follow, is the index.
use Rattle.std.proofs.Common.{◌/◌, length}
use Rattle.rules.specs.Answer.{event_size}
use Rattle.index.proofs.WalkLaws.{Walking}
use Rattle.index.proofs.walked.walk.Given as goal

abbrev pub invariant-loop-i : goal.invariant-loop-i
invariant-loop-i l = Walking (length l.events / event_size) l.events l.initial.index l.state l.k l.i l.index
