-- What is promised of the list of a text that was read: it is what `check_text` leaves. Assumes nothing.
use Rattle.std.specs.Prelude.{◌≡◌, List, ℕ}
use Rattle.text_rules.specs.declared.answer.TextAnswer.{TextAnswer}
use Rattle.text_rules.specs.TextOutcome.{text_outcome}
use Rattle.text_listing.specs.declared.TextCheck.{TextCheck}
use Rattle.text_listing.specs.Checking.{checking, ChecksText}

-- the answer and the buffers behind it are what the joined entry left of some text, with some buffers before it
pub record WasRead (read : TextAnswer) (recordsAfter eventsAfter errorsAfter : List ℕ) : Type 0 where
  pub text : List ℕ
  pub records : List ℕ
  pub events : List ℕ
  pub errors : List ℕ
  pub is : record { answer = read; records = recordsAfter; events = eventsAfter; errors = errorsAfter } ≡ text_outcome checking text records events errors

-- whatever text it was, r is what `check_text` answers, and `after` the buffer of mistakes behind it
abbrev pub ListsRead : TextAnswer → List ℕ → List ℕ → List ℕ → List ℕ → List ℕ → TextCheck → Type 0
ListsRead read recordsAfter eventsAfter errorsAfter mistakes after r =
    (text records events errors : List ℕ) → record { answer = read; records = recordsAfter; events = eventsAfter; errors = errorsAfter } ≡ text_outcome checking text records events errors
    → ChecksText text records events errors mistakes recordsAfter eventsAfter errorsAfter after r
