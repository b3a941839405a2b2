-- What `mistakes` answers, and what it leaves in the buffer. Assumes nothing.
use Rattle.std.specs.Prelude.{ℕ, ◌/◌, ◌≡◌, cond, List, length, eqb, ltb, Ok, Err}
use Rattle.token.specs.Refusals.{refusal_number}
use Rattle.token.specs.Tokens.{Tok, all_tokens}
use Rattle.token.specs.Check.{checked, Checked}
use Rattle.rules.specs.Answer.{event_size, error_size, Outcome, filled}
use Rattle.mistake_rules.specs.declared.answer.Listed.{Listed}
use Rattle.mistake_rules.specs.Mistakes.{Mistake, mistakes_in, all_words}

-- the refusal: the mistakes do not fit
abbrev pub no_room_for_mistakes : ℕ
no_room_for_mistakes = 14

-- the answer, and the buffer after it
pub record Listing : Type 0 where
  pub answer : Listed
  pub buffer : List ℕ

-- nothing is listed, and the buffer is as it was
abbrev pub unlisted : ℕ → ℕ → List ℕ → Listing
unlisted refusal place buffer = record { answer = record { refusal = refusal; place = place; mistakes = 0 }; buffer = buffer }

-- the mistakes are counted, stored or not, and the first of them are in the buffer, as many as fit
abbrev pub listed : List Tok → List Mistake → List ℕ → Listing
listed all ms buffer =
    record {
      answer = record { refusal = cond (ltb (length buffer / error_size) (length ms)) no_room_for_mistakes 0; place = 0; mistakes = length ms };
      buffer = filled error_size (all_words all ms) buffer;
    }

-- 7 and 8: the answer counts more events, or errors, than the buffers hold
abbrev pub listed_held : List Tok → Outcome → List ℕ → Listing
listed_held all run buffer =
    cond (ltb (length run.events / event_size) run.answer.events) (unlisted 7 0 buffer)
    (cond (ltb (length run.errors / error_size) run.answer.errors) (unlisted 8 0 buffer)
    (listed all (mistakes_in run.answer.events run.events run.answer.errors run.errors) buffer))

-- 1 to 5, of the records: the answer is not of this list
abbrev pub listed_by : Checked → List Tok → Outcome → List ℕ → Listing
listed_by (Err r) all run buffer = unlisted (refusal_number r.refusal) r.place buffer
listed_by (Ok u) all run buffer = listed_held all run buffer

-- `mistakes` on the record bytes s, the base, an answer with the events and errors that are said to be its own, and a buffer. A run that was
-- refused keeps its refusal and place
unfoldable pub listing : List ℕ → ℕ → Outcome → List ℕ → Listing
listing s base run buffer =
    cond (eqb run.answer.refusal 0) (listed_by (checked s base) (all_tokens s base) run buffer) (unlisted run.answer.refusal run.answer.place buffer)

-- r is its answer, and `after` the buffer behind it: one equation for all inputs, refusals too
abbrev pub Lists : List ℕ → ℕ → Outcome → List ℕ → List ℕ → Listed → Type 0
Lists s base run buffer after r = record { answer = r; buffer = after } ≡ listing s base run buffer

-- two that meet the contract for the same input are equal
abbrev pub ListingDetermined : List ℕ → ℕ → Outcome → List ℕ → Type 0
ListingDetermined s base run buffer = (x y : Listing) → Lists s base run buffer x.buffer x.answer → Lists s base run buffer y.buffer y.answer → x ≡ y
