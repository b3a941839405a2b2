-- By what is listed of the run.
use Rattle.text_listing.proofs.DecideLaws.{decides}
use Rattle.text_listing.proofs.theorems.checks_decide.Goals as goal

pub returns : goal.returns
returns c = decides c.args.text.now c.args.records.now c.args.events.now c.args.errors.now c.args.mistakes.now
