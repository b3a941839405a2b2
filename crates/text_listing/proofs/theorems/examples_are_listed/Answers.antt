-- By computation.
use Rattle.text_listing.proofs.Examples.{examples_told}
use Rattle.text_listing.proofs.theorems.examples_are_listed.Goals as goal

pub returns : goal.returns
returns c = examples_told
