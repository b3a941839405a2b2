-- By the laws of the rule.
use Rattle.lex.specs.TextLaws.{text_laid, text_end_lem, text_few}
use Rattle.lex.proofs.theorems.tokens_lie_end_to_end.Goals as goal

pub returns : goal.returns
returns c = record { laid = text_laid c.args.text.now; end = text_end_lem c.args.text.now; few = text_few c.args.text.now }
