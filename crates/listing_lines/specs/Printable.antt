-- Which answers can be printed, with the buffers that they left. Assumes nothing.
use Rattle.std.specs.Prelude.{◌≡◌, ℕ, ◌*◌, ◌≤◌, ◌<◌, List, length, get_or}
use Rattle.rules.specs.declared.answer.Answer.{Answer}
use Rattle.rules.specs.Answer.{event_size, error_size}
use Rattle.listing_lines.specs.Numbers.{Named}

-- each of the first events in a buffer has the number of an event kind as its first word
abbrev pub AllNamed : List ℕ → ℕ → Type 0
AllNamed words count = (i : ℕ) → i < count → Named (get_or words (event_size * i) 0)

-- the answer r and the buffers after it: refusal 7 does not come, and where there is no refusal each counted entry lies within its buffer
pub record Printable (events errors : List ℕ) (r : Answer) : Type 0 where
  pub roomy : r.refusal ≡ 7 → ⊥
  pub within : r.refusal ≡ 0 → (event_size * r.events ≤ length events) × (error_size * r.errors ≤ length errors) × AllNamed events r.events
