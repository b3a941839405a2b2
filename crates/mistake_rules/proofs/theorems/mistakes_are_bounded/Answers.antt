-- By the bounds on the two lists.
use Rattle.mistake_rules.proofs.FitLaws.{bounded}
use Rattle.mistake_rules.proofs.theorems.mistakes_are_bounded.Goals as goal

pub returns : goal.returns
returns c = λ options. bounded options c.args.s.now c.args.base c.args.events.now c.args.errors.now c.args.mistakes.now
