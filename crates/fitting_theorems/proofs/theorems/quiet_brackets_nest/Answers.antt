-- By OutcomeTheorems.antt.
use Rattle.fitting.proofs.OutcomeTheorems.{outcome_nests}
use Rattle.fitting_theorems.proofs.theorems.quiet_brackets_nest.Goals as goal

pub returns : goal.returns
returns c = λ options. outcome_nests options c.args.s.now c.args.base c.args.events.now c.args.errors.now
