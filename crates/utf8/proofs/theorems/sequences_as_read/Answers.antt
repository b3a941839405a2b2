-- By computation.
use mathlib.Core.Path.{refl}
use Rattle.utf8_sequences.specs.Utf8.{fits, valid_from}
use Rattle.utf8.specs.Sequences.{sequences}
use Rattle.utf8.proofs.theorems.sequences_as_read.Goals as goal

pub returns : goal.returns
unfolding sequences fits valid_from
returns c = refl
