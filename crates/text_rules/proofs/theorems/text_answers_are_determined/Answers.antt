-- Both are the definition's.
use mathlib.Core.Path.{sym, ◌∙◌}
use Rattle.text_rules.proofs.theorems.text_answers_are_determined.Goals as goal

pub returns : goal.returns
returns c = λ options x y p q. p ∙ sym q
