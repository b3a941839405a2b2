-- Both hold the rules' answer, and a C structure is known by what it holds.
-- what a C structure and its buffers hold
use mathlib.Core.Path.{sym, ◌∙◌}
use Rattle.export_answers.proofs.ExportedAnswersAreDeterminedSteps.{held, known}
use Rattle.export_answers.proofs.theorems.exported_answers_are_determined.Goals as goal

pub returns : goal.returns
unfolding held
returns c = λ mode entry s base events errors x y p q. known x y (p ∙ sym q)
