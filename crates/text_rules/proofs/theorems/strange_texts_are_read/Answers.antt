-- By computation.
use Rattle.text_rules.proofs.TextsRead.{strange_read}
use Rattle.text_rules.proofs.theorems.strange_texts_are_read.Goals as goal

pub returns : goal.returns
returns c = strange_read
