-- By computation, in Texts.antt.
use Rattle.rules.proofs.Texts.{further_texts_as_read}
use Rattle.rules.proofs.theorems.further_texts_as_read.Goals as goal

pub returns : goal.returns
returns c = further_texts_as_read
