-- By CountLaws.antt.
use Rattle.bounds.proofs.CountLaws.{counts_most}
use Rattle.bounds.proofs.theorems.counts_are_at_most.Goals as goal

pub returns : goal.returns
returns c = λ options e. counts_most options e c.args.s.now c.args.base c.args.events.now c.args.errors.now
