-- What the exported functions of the list of mistakes promise. Assumes nothing.
use Rattle.std.specs.Prelude.{◌≡◌, List, ℕ}
use Rattle.rules.specs.declared.answer.Answer.{Answer}
use Rattle.mistake_rules.specs.declared.answer.Listed.{Listed}
use Rattle.mistake_rules.specs.Outcome.{Lists}
use Rattle.text_listing.specs.declared.TextCheck.{TextCheck}
use Rattle.text_listing.specs.Checking.{ChecksText}
use Rattle.export_listings.specs.declared.listings.ExportedListed.{ExportedListed}
use Rattle.export_listings.specs.declared.listings.ExportedCheck.{ExportedCheck}

-- the answers that the C structures hold
abbrev pub plain_listed : ExportedListed → Listed
plain_listed r = record { refusal = r.refusal; place = r.place; mistakes = r.mistakes }

abbrev pub plain_check : ExportedCheck → TextCheck
plain_check r = record { refusal = r.refusal; place = r.place; base = r.base; records = r.records; events = r.events; errors = r.errors; mistakes = r.mistakes }

-- the C structure r, with the buffer after it, holds the answer of the listing's definition
abbrev pub ExportsListing : List ℕ → ℕ → Answer → List ℕ → List ℕ → List ℕ → List ℕ → ExportedListed → Type 0
ExportsListing records base answer events errors mistakes after r =
    Lists records base (record { answer = answer; events = events; errors = errors }) mistakes after (plain_listed r)

-- the C structure r, with the four buffers after it, holds the answer of the check's definition
abbrev pub ExportsCheck : List ℕ → List ℕ → List ℕ → List ℕ → List ℕ → List ℕ → List ℕ → List ℕ → List ℕ → ExportedCheck → Type 0
ExportsCheck text records events errors mistakes recordsAfter eventsAfter errorsAfter mistakesAfter r =
    ChecksText text records events errors mistakes recordsAfter eventsAfter errorsAfter mistakesAfter (plain_check r)

-- the C structures, each with the buffers after it
pub record ExportedListing : Type 0 where
  pub answer : ExportedListed
  pub mistakes : List ℕ

pub record ExportedCheckOutcome : Type 0 where
  pub answer : ExportedCheck
  pub records : List ℕ
  pub events : List ℕ
  pub errors : List ℕ
  pub mistakes : List ℕ

-- two that meet the same contract for the same input are equal; `bytes` are the records of a list, or a text
pub record ExportedMistakesDetermined (bytes : List ℕ) (base : ℕ) (answer : Answer) (records events errors mistakes : List ℕ) : Type 0 where
  pub listed : (x y : ExportedListing) → ExportsListing bytes base answer events errors mistakes x.mistakes x.answer → ExportsListing bytes base answer events errors mistakes y.mistakes y.answer → x ≡ y
  pub checked : (x y : ExportedCheckOutcome)
      → ExportsCheck bytes records events errors mistakes x.records x.events x.errors x.mistakes x.answer
      → ExportsCheck bytes records events errors mistakes y.records y.events y.errors y.mistakes y.answer → x ≡ y
