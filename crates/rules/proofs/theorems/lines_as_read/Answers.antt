-- By computation, in Texts.antt.
use Rattle.rules.proofs.Texts.{lines_as_read}
use Rattle.rules.proofs.theorems.lines_as_read.Goals as goal

pub returns : goal.returns
returns c = lines_as_read
