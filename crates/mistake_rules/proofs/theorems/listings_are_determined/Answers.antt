-- Both are the definition's.
use Rattle.mistake_rules.proofs.OutcomeLaws.{determined}
use Rattle.mistake_rules.proofs.theorems.listings_are_determined.Goals as goal

pub returns : goal.returns
returns c = determined c.args.s.now c.args.base _ c.args.mistakes.now
