-- By the laws of the record writer.
use Rattle.lex.specs.TextLaws.{text_read, text_passes}
use Rattle.lex.proofs.theorems.records_are_read_again.Goals as goal

pub returns : goal.returns
returns c = record { read = text_read c.args.text.now; passed = text_passes c.args.text.now }
