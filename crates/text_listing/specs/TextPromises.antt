-- What is said of the check of a text. Assumes nothing.
use Rattle.std.specs.Prelude.{◌≡◌, ◌↔◌, List, ℕ, ◌+◌, ◌*◌, ◌/◌, ◌≤◌, length}
use Rattle.rules.specs.Entries.{document_entry}
use Rattle.rules.specs.Answer.{event_size, error_size}
use Rattle.bounds.specs.Most.{most_events, most_errors}
use Rattle.text_rules.specs.TextPremises.{RecordRoom}
use Rattle.text_steps.specs.TextVerdicts.{SoundText, EventRoom}
use Rattle.mistake_rules.specs.Outcome.{no_room_for_mistakes}
use Rattle.text_listing.specs.declared.TextCheck.{TextCheck}
use Rattle.text_listing.specs.Checking.{check_outcome}

-- the answer of `check_text`
abbrev pub check_of : List ℕ → List ℕ → List ℕ → List ℕ → List ℕ → TextCheck
check_of text records events errors mistakes = (check_outcome text records events errors mistakes).answer

-- where there is no refusal, there is no mistake exactly when the text is sound. With room for the records and for as many events, there is
-- neither exactly when the text is sound
pub record Decides (text records events errors mistakes : List ℕ) : Type 0 where
  pub judged : (check_of text records events errors mistakes).refusal ≡ 0 → ((check_of text records events errors mistakes).mistakes ≡ 0) ↔ SoundText text
  pub exactly : RecordRoom text records → EventRoom text events
      → (((check_of text records events errors mistakes).refusal ≡ 0) × ((check_of text records events errors mistakes).mistakes ≡ 0)) ↔ SoundText text

-- a text of m bytes has at most 5 m + 6 mistakes, and with room none of the refusals 7, 8, 11 and 14 comes
pub record Roomy (text records events errors mistakes : List ℕ) : Type 0 where
  pub most : (check_of text records events errors mistakes).mistakes ≤ 5 * length text + 6
  pub eleven_never : length text + 1 ≤ length records / 6 → (check_of text records events errors mistakes).refusal ≡ 11 → ⊥
  pub seven_never : most_events document_entry (length text + 1) ≤ length events / event_size → (check_of text records events errors mistakes).refusal ≡ 7 → ⊥
  pub eight_never : most_errors document_entry (length text + 1) ≤ length errors / error_size → (check_of text records events errors mistakes).refusal ≡ 8 → ⊥
  pub fourteen_never : 5 * length text + 6 ≤ length mistakes / error_size → (check_of text records events errors mistakes).refusal ≡ no_room_for_mistakes → ⊥
