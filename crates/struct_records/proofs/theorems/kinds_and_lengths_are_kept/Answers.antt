-- By induction on the structs before it.
use Rattle.struct_records.proofs.KeptLaws.{kept}
use Rattle.struct_records.proofs.theorems.kinds_and_lengths_are_kept.Goals as goal

pub returns : goal.returns
returns c = kept
