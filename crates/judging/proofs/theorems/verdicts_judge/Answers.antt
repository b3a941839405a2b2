-- By the contract, and that a list which is sound is run quietly where there is room.
use Rattle.rules.specs.Answer.{as_crate}
use Rattle.judging.proofs.VerdictLaws.{judges_decided}
use Rattle.judging.proofs.theorems.verdicts_judge.Goals as goal

pub returns : goal.returns
returns c = λ after v j. judges_decided c.args.records.now c.args.base c.args.events.now after v (c.fits_then_quiet.ensures as_crate) j
