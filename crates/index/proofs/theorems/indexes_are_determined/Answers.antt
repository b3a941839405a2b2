-- The test is decided once, and the outcome is a function of it.
use Rattle.index.proofs.IndexLaws.{determined}
use Rattle.index.proofs.theorems.indexes_are_determined.Goals as goal

pub returns : goal.returns
returns c = determined _ _ _
