-- What the joined entry left is listed.
use Rattle.text_mistakes.proofs.check_text.Goals as goal

pub list_read-requires : goal.list_read-requires
list_read-requires c = record { text = c.args.text.now; records = c.args.records.now; events = c.args.events.now; errors = c.args.errors.now; is = c.parse_text-read.ensures }

pub returns : goal.returns
returns c = c.list_read.ensures c.args.text.now c.args.records.now c.args.events.now c.args.errors.now c.parse_text-read.ensures
