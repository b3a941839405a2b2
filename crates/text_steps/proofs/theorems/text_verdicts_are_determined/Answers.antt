-- By the contract, part by part.
use Rattle.text_steps.proofs.TextVerdictLaws.{determined}
use Rattle.text_steps.proofs.theorems.text_verdicts_are_determined.Goals as goal

pub returns : goal.returns
returns c = determined c.args.text.now c.args.records.now c.args.events.now
