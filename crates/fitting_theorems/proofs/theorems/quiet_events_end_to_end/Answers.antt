-- By OutcomeTheorems.antt.
use Rattle.fitting.proofs.OutcomeTheorems.{outcome_ends}
use Rattle.fitting_theorems.proofs.theorems.quiet_events_end_to_end.Goals as goal

pub returns : goal.returns
returns c = λ options. outcome_ends options c.args.s.now c.args.base c.args.events.now c.args.errors.now
