-- Both are the rules' answer.
use mathlib.Core.Path.{sym, ◌∙◌}
use Rattle.entries.proofs.theorems.answers_are_determined.Goals as goal

pub returns : goal.returns
returns c = λ options entry x y p q. p ∙ sym q
