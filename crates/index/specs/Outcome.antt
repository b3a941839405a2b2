-- What `index` answers, and what it leaves in the index buffer. Assumes nothing.
use Rattle.std.specs.Prelude.{◌≡◌, Bool, true, cond, ◌↔◌, List, ◌++◌, ℕ, ◌*◌, ◌≤◌, length, drop, ltb}
use Rattle.token.specs.Limits.{max_records}
use Rattle.rules.specs.declared.answer.Answer.{Answer}
use Rattle.rules.specs.Answer.{event_size}
use Rattle.quiet.specs.Runs.{QuietAnswer}
use Rattle.index.specs.declared.Indexed.{Indexed}
use Rattle.headers.specs.declared.header.Header.{Header}
use Rattle.headers.specs.Headers.{headers_in, index_bytes, entry_size}
use Rattle.index.specs.Refusals.{not_quiet, no_room_for_index}

-- the answer and the words are those of a quiet run, the buffer holds its events, and they are no more than such a run can have: one a record
pub record Indexable (answer : Answer) (events : List ℕ) : Type 0 where
  pub quiet : QuietAnswer answer events
  pub held : answer.events * event_size ≤ length events
  pub few : answer.events ≤ max_records

-- the answer, and the buffer after it
pub record IndexOutcome : Type 0 where
  pub answer : Indexed
  pub buffer : List ℕ

-- an answer with the buffer as it was
abbrev pub refused : ℕ → ℕ → List ℕ → IndexOutcome
refused refusal headers index =
    record { answer = record { refusal = refusal; headers = headers; bytes = entry_size * headers }; buffer = index }

-- the entries of these headers, and behind them the buffer as it was; nothing is written where they have no room
abbrev pub listed : List Header → List ℕ → IndexOutcome
listed headers index =
    cond (ltb (length index) (entry_size * length headers)) (refused no_room_for_index (length headers) index)
    (record {
      answer = record { refusal = 0; headers = length headers; bytes = entry_size * length headers };
      buffer = index_bytes headers ++ drop (entry_size * length headers) index;
    })

-- any answer, any words, any buffer
unfoldable pub index_outcome : Bool → Answer → List ℕ → List ℕ → IndexOutcome
index_outcome quiet answer events index = cond quiet (listed (headers_in answer.events events) index) (refused not_quiet 0 index)

-- `index`: r is its answer, and `after` the index buffer behind it
pub record Indexes (answer : Answer) (events index after : List ℕ) (r : Indexed) : Type 0 where
  pub quiet : Bool
  pub tells : (quiet ≡ true) ↔ Indexable answer events
  pub same : ◌≡◌ {A = IndexOutcome} (record { answer = r; buffer = after }) (index_outcome quiet answer events index)

-- two that meet the contract for the same input are equal
abbrev pub IndexDetermined : Answer → List ℕ → List ℕ → Type 0
IndexDetermined answer events index = (x y : IndexOutcome) → Indexes answer events index x.buffer x.answer → Indexes answer events index y.buffer y.answer → x ≡ y
