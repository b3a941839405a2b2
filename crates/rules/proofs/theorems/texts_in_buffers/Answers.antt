-- By computation, in Texts.antt.
use Rattle.rules.proofs.Texts.{texts_in_buffers}
use Rattle.rules.proofs.theorems.texts_in_buffers.Goals as goal

pub returns : goal.returns
returns c = texts_in_buffers c.args.word
