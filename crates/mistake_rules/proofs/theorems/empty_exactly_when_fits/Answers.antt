-- By the theorem about quiet runs.
use Rattle.mistake_rules.proofs.FitLaws.{empty_fits}
use Rattle.mistake_rules.proofs.theorems.empty_exactly_when_fits.Goals as goal

pub returns : goal.returns
returns c = λ options. empty_fits options c.args.s.now c.args.base c.args.events.now c.args.errors.now
