-- By computation, in Texts.antt.
use Rattle.rules.proofs.Texts.{texts_as_read}
use Rattle.rules.proofs.theorems.texts_as_read.Goals as goal

pub returns : goal.returns
returns c = texts_as_read
