-- By the laws of the rule.
use Rattle.text_rules.specs.RegularLaws.{text_regular}
use Rattle.text_rules.proofs.theorems.text_tokens_are_regular.Goals as goal

pub returns : goal.returns
returns c = text_regular c.args.text.now
