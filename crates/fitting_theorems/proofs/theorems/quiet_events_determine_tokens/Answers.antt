-- By OutcomeTheorems.antt.
use Rattle.fitting.proofs.OutcomeTheorems.{outcome_same}
use Rattle.fitting_theorems.proofs.theorems.quiet_events_determine_tokens.Goals as goal

pub returns : goal.returns
returns c = λ options other. outcome_same options other c.args.s.now c.args.t.now c.args.base c.args.events.now c.args.errors.now c.args.other_events.now c.args.other_errors.now
