-- By TextBounds.antt.
use Rattle.text_rules.proofs.TextBounds.{text_room_records, text_room_events, text_room_errors}
use Rattle.text_rules.proofs.room.text_room_is_enough.Goals as goal

pub returns : goal.returns
returns c = λ options. (text_room_records options c.args.text.now c.args.records.now c.args.events.now c.args.errors.now, text_room_events options c.args.text.now c.args.records.now c.args.events.now c.args.errors.now, text_room_errors options c.args.text.now c.args.records.now c.args.events.now c.args.errors.now)
