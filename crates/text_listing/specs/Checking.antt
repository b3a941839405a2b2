-- What `check_text` leaves: what the joined entry leaves, and the mistakes of its run. Assumes nothing.
use Rattle.std.specs.Prelude.{◌≡◌, cond, List, ℕ, eqb}
use Rattle.rules.specs.declared.options.Mode.{Mode}
use Rattle.rules.specs.declared.options.Options.{Options}
use Rattle.scan.specs.Lexer.{tokens_of}
use Rattle.text_rules.specs.declared.answer.TextAnswer.{TextAnswer}
use Rattle.text_rules.specs.TextOutcome.{TextOutcome, text_outcome, run_of}
use Rattle.mistake_rules.specs.declared.answer.Listed.{Listed}
use Rattle.mistake_rules.specs.Outcome.{Listing, unlisted, listed}
use Rattle.mistake_rules.specs.Promises.{mistakes_of}
use Rattle.text_listing.specs.declared.TextCheck.{TextCheck}

-- the answer and the buffers after it
pub record CheckOutcome : Type 0 where
  pub answer : TextCheck
  pub records : List ℕ
  pub events : List ℕ
  pub errors : List ℕ
  pub mistakes : List ℕ

-- refusal, place and mistakes are the listing's, all else is the joined entry's
abbrev pub checked_answer : TextAnswer → Listed → TextCheck
checked_answer read found =
    record {
      refusal = found.refusal;
      place = found.place;
      base = read.base;
      records = read.records;
      events = read.events;
      errors = read.errors;
      mistakes = found.mistakes;
    }

abbrev pub read_and_listed : TextOutcome → Listing → CheckOutcome
read_and_listed o l =
    record {
      answer = checked_answer o.answer l.answer;
      records = o.records;
      events = o.events;
      errors = o.errors;
      mistakes = l.buffer;
    }

-- the mistakes of the run over a text; if it was refused, its refusal and place, and nothing is written
abbrev pub text_listing : List ℕ → TextOutcome → List ℕ → Listing
text_listing text o mistakes =
    cond (eqb o.answer.refusal 0) (listed (tokens_of text) (mistakes_of (run_of o)) mistakes) (unlisted o.answer.refusal o.answer.place mistakes)

-- a check is in brace mode: message 19 blames a comma of the table that it is about
abbrev pub checking : Options
checking = record { mode = Mode.Brace }

-- what `check_text` does with a text and the four buffers
unfoldable pub check_outcome : List ℕ → List ℕ → List ℕ → List ℕ → List ℕ → CheckOutcome
check_outcome text records events errors mistakes =
    read_and_listed (text_outcome checking text records events errors) (text_listing text (text_outcome checking text records events errors) mistakes)

-- the answer r, with the four buffers after it, is that of the definition: one equation for all inputs, refusals too
abbrev pub ChecksText : List ℕ → List ℕ → List ℕ → List ℕ → List ℕ → List ℕ → List ℕ → List ℕ → List ℕ → TextCheck → Type 0
ChecksText text records events errors mistakes recordsAfter eventsAfter errorsAfter mistakesAfter r =
    record { answer = r; records = recordsAfter; events = eventsAfter; errors = errorsAfter; mistakes = mistakesAfter } ≡ check_outcome text records events errors mistakes

-- two that meet the contract for the same input are equal
abbrev pub CheckDetermined : List ℕ → List ℕ → List ℕ → List ℕ → List ℕ → Type 0
CheckDetermined text records events errors mistakes =
    (x y : CheckOutcome) → ChecksText text records events errors mistakes x.records x.events x.errors x.mistakes x.answer
    → ChecksText text records events errors mistakes y.records y.events y.errors y.mistakes y.answer → x ≡ y
