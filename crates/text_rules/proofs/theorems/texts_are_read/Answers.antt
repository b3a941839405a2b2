-- By computation.
use Rattle.text_rules.proofs.TextsRead.{documents_read}
use Rattle.text_rules.proofs.theorems.texts_are_read.Goals as goal

pub returns : goal.returns
returns c = documents_read c.args.word
