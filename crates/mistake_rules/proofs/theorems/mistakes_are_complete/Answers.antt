-- By the laws of the merge.
use Rattle.mistake_rules.proofs.CompleteLaws.{complete}
use Rattle.mistake_rules.proofs.theorems.mistakes_are_complete.Goals as goal

pub returns : goal.returns
returns c = complete _
