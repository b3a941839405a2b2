-- What the proof of exported_answers_are_determined goes by. Proved; nothing here needs to be believed.
use mathlib.Core.Path.{◌≡◌}
use Rattle.rules.specs.Answer.{Outcome}
use Rattle.export_answers.specs.Exported.{plain}
use Rattle.export_answers.specs.Determined.{ExportedOutcome}

unfoldable pub held : ExportedOutcome → Outcome
held x = record { answer = plain x.answer; events = x.events; errors = x.errors }

pub from_held : Outcome → ExportedOutcome
from_held o =
    record {
      answer = record { refusal = o.answer.refusal; place = o.answer.place; events = o.answer.events; errors = o.answer.errors };
      events = o.events;
      errors = o.errors;
    }

pub known : (x y : ExportedOutcome) → held x ≡ held y → x ≡ y
unfolding held from_held
known x y e = λ i. from_held (e i)
