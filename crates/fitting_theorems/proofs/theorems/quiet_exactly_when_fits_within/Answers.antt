-- By OutcomeTheorems.antt, for a quiet run without a multi-line key.
use Rattle.rules.specs.Entries.{document_entry}
use Rattle.fitting.proofs.KeyWords.{single_line_iff}
use Rattle.fitting.proofs.OutcomeTheorems.{outcome_fits_within}
use Rattle.fitting_theorems.proofs.theorems.quiet_exactly_when_fits_within.Goals as goal

pub returns : goal.returns
returns c = λ options. outcome_fits_within options c.args.s.now c.args.base c.args.events.now c.args.errors.now (single_line_iff options document_entry c.args.s.now c.args.base c.args.events.now c.args.errors.now)
