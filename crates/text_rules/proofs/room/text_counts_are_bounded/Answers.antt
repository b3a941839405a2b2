-- By TextBounds.antt.
use Rattle.text_rules.proofs.TextBounds.{text_counts_within}
use Rattle.text_rules.proofs.room.text_counts_are_bounded.Goals as goal

pub returns : goal.returns
returns c = λ options. text_counts_within options c.args.text.now c.args.records.now c.args.events.now c.args.errors.now
