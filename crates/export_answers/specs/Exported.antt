-- What the exported entries promise. Assumes nothing.
use Rattle.std.specs.Prelude.{List, ℕ}
use Rattle.rules.specs.declared.answer.Answer.{Answer}
use Rattle.rules.specs.Entries.{Entry}
use Rattle.choices.specs.Modes.{AnswersIn}
use Rattle.export_answers.specs.declared.answer.ExportedAnswer.{ExportedAnswer}

-- the answer that a C structure holds
abbrev pub plain : ExportedAnswer → Answer
plain r = record { refusal = r.refusal; place = r.place; events = r.events; errors = r.errors }

-- the C structure r, with the buffers a and b after it, holds the answer of the entry's definition for the mode's number
abbrev pub Exports : ℕ → Entry → List ℕ → ℕ → List ℕ → List ℕ → List ℕ → List ℕ → ExportedAnswer → Type 0
Exports mode entry s base events errors a b r = AnswersIn mode entry s base events errors a b (plain r)
