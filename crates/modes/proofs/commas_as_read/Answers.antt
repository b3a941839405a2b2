-- By computation.
use mathlib.Core.Path.{refl}
use Rattle.rules.specs.Turns.{turns}
use Rattle.rules.specs.Nest.{on_open}
use Rattle.rules.specs.Lines.{line_of}
use Rattle.rules.specs.Words.{looked_up, comma_between}
use Rattle.modes.specs.CommaTexts.{comma_texts}
use Rattle.modes.proofs.commas_as_read.Goals as goal

pub returns : goal.returns
unfolding comma_texts turns on_open looked_up comma_between line_of
returns c = (refl, refl)
