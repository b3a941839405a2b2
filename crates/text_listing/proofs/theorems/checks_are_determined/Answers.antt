-- Both are the definition's.
use Rattle.text_listing.proofs.CheckLaws.{determined}
use Rattle.text_listing.proofs.theorems.checks_are_determined.Goals as goal

pub returns : goal.returns
returns c = determined c.args.text.now c.args.records.now c.args.events.now c.args.errors.now c.args.mistakes.now
