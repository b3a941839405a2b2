-- By what is counted.
use Rattle.mistake_rules.proofs.FitLaws.{none_fits}
use Rattle.mistake_rules.proofs.theorems.none_exactly_when_fits.Goals as goal

pub returns : goal.returns
returns c = λ options. none_fits options c.args.s.now c.args.base c.args.events.now c.args.errors.now c.args.mistakes.now
