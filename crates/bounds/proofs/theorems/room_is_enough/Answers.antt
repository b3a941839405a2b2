-- By CountLaws.antt.
use Rattle.bounds.proofs.CountLaws.{room_events, room_errors}
use Rattle.bounds.proofs.theorems.room_is_enough.Goals as goal

pub returns : goal.returns
returns c = λ options e. (room_events options e c.args.s.now c.args.base c.args.events.now c.args.errors.now, room_errors options e c.args.s.now c.args.base c.args.events.now c.args.errors.now)
