-- By the bounds on the run's lists.
use Rattle.text_listing.proofs.DecideLaws.{roomy}
use Rattle.text_listing.proofs.theorems.check_room_is_enough.Goals as goal

pub returns : goal.returns
returns c = roomy c.args.text.now c.args.records.now c.args.events.now c.args.errors.now c.args.mistakes.now
