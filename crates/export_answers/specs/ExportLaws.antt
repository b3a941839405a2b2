-- From an entry's answer to the C structure that holds it. Proved; nothing here needs to be believed.
use Rattle.std.specs.Prelude.{◌≡◌, List, ℕ}
use Rattle.std.proofs.Common.{ap, ◌∙◌}
use Rattle.rules.specs.declared.answer.Answer.{Answer}
use Rattle.rules.specs.Entries.{Entry}
use Rattle.choices.specs.Modes.{AnswersIn}
use Rattle.export_answers.specs.declared.answer.ExportedAnswer.{ExportedAnswer}
use Rattle.export_answers.specs.Exported.{plain, Exports}

pub exports : (mode : ℕ) (entry : Entry) (s : List ℕ) (base : ℕ) (events errors a b : List ℕ) (r : Answer) (e : ExportedAnswer) → plain e ≡ r → AnswersIn mode entry s base events errors a b r → Exports mode entry s base events errors a b e
exports mode entry s base events errors a b r e p q = ap (λ (z : Answer). record { answer = z; events = a; errors = b }) p ∙ q
