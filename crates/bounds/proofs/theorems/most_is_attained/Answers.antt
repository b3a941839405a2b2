-- By AttainedLaws.antt.
use Rattle.bounds.proofs.AttainedLaws.{events_attained, errors_attained}
use Rattle.bounds.proofs.theorems.most_is_attained.Goals as goal

pub returns : goal.returns
returns c = λ options e few. (events_attained options e c.args.n c.args.events.now c.args.errors.now few, errors_attained options e c.args.n c.args.events.now c.args.errors.now few)
