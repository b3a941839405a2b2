-- By induction on the headers.
use Rattle.index.proofs.AgainLaws.{read_again}
use Rattle.index.proofs.theorems.indexes_are_read_again.Goals as goal

pub returns : goal.returns
returns c = read_again _ _
