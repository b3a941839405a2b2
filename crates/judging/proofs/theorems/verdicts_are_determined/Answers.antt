-- The contract says each part of the answer, and every word of the buffer.
use Rattle.judging.proofs.VerdictLaws.{determined}
use Rattle.judging.proofs.theorems.verdicts_are_determined.Goals as goal

pub returns : goal.returns
returns c = determined c.args.records.now c.args.base c.args.events.now
