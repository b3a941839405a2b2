-- By OutcomeTheorems.antt, for a quiet run.
use Rattle.rules.specs.Entries.{document_entry}
use Rattle.fitting.proofs.QuietLaws.{quiet_iff}
use Rattle.fitting.proofs.OutcomeTheorems.{outcome_fits}
use Rattle.fitting_theorems.proofs.theorems.quiet_exactly_when_fits_wide.Goals as goal

pub returns : goal.returns
returns c = λ options. outcome_fits options c.args.s.now c.args.base c.args.events.now c.args.errors.now (quiet_iff options document_entry c.args.s.now c.args.base c.args.events.now c.args.errors.now)
