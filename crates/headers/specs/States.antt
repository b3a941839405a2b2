-- What the index builder knows, event by event. Assumes nothing.
use Rattle.std.specs.Prelude.{◌≡◌, ℕ, ◌+◌, ◌-◌, ◌*◌, ◌/◌, ◌≤◌, length, Bool, true, false, cond, List, [], ◌∷◌, Option, Some, None, eqb, ltb}
use Rattle.token.specs.Limits.{max_records}
use Rattle.rules.specs.Answer.{event_size}
use Rattle.headers.specs.declared.header.Header.{Header}
use Rattle.headers.specs.declared.state.OpenHeader.{OpenHeader}
use Rattle.headers.specs.declared.state.IndexState.{IndexState}
use Rattle.headers.specs.Headers.{opens_header, closing, headers_in, entry_size, index_bytes}
use Rattle.headers.specs.Placing.{placed}

-- one more; a count stops at the largest number
abbrev pub more : ℕ → ℕ
more n = cond (ltb n 18446744073709551615) (n + 1) n

-- the key is open up to its close
abbrev pub counting_after : Bool → Bool → ℕ → Bool
counting_after counting array kind = cond (eqb kind (closing array)) false counting

-- a simple_key (kind 5) of an open key is one part more
abbrev pub parts_after : Bool → ℕ → ℕ → ℕ
parts_after true kind parts = cond (eqb kind 5) (more parts) parts
parts_after false kind parts = parts

-- the header that event `at` of the kind opens
abbrev pub opened_at : ℕ → ℕ → OpenHeader
opened_at at kind = record { place = at; parts = 0; counting = true; array = eqb kind 3 }

-- the header behind any other event
abbrev pub passed_by : OpenHeader → ℕ → OpenHeader
passed_by header kind =
    record {
      place = header.place;
      parts = parts_after header.counting kind header.parts;
      counting = counting_after header.counting header.array kind;
      array = header.array;
    }

abbrev pub passed : Option OpenHeader → ℕ → Option OpenHeader
passed None kind = None
passed (Some header) kind = Some (passed_by header kind)

-- the state behind an event
unfoldable pub state_after : IndexState → ℕ → IndexState
state_after state kind =
    record {
      at = more state.at;
      header = cond (opens_header kind) (Some (opened_at state.at kind)) (passed state.header kind);
    }

-- before the first event
abbrev pub fresh : IndexState
fresh = record { at = 0; header = None }

-- the state behind events of these kinds
unfoldable pub state_behind : IndexState → List ℕ → IndexState
state_behind state [] = state
state_behind state (kind ∷ kinds) = state_behind (state_after state kind) kinds

-- the header, if it ends before event `at`
abbrev pub header_of : OpenHeader → ℕ → Header
header_of header at = record { place = header.place; parts = header.parts; array = header.array; events = at - header.place }

abbrev pub headers_of : Option OpenHeader → ℕ → List Header
headers_of None at = []
headers_of (Some header) at = header_of header at ∷ []

-- the header that ends here, if one does
abbrev pub ended : Bool → IndexState → List Header
ended true state = headers_of state.header state.at
ended false state = []

-- the header does not end before it begins
abbrev pub Begun : Option OpenHeader → ℕ → Type 0
Begun None at = Unit {0}
Begun (Some header) at = header.place ≤ at

-- the header that ends here, if one does, can be written as entry k: it has room, and does not end before it begins
pub record Finishable (ends : Bool) (state : IndexState) (k : ℕ) (index : List ℕ) : Type 0 where
  pub room : entry_size * (k + length (ended ends state)) ≤ length index
  pub begun : Begun state.header state.at

-- it is written as entry k, and nothing else; then there are r entries
pub record Finished (ends : Bool) (state : IndexState) (k : ℕ) (index after : List ℕ) (r : ℕ) : Type 0 where
  pub entries : r ≡ k + length (ended ends state)
  pub bytes : after ≡ placed (entry_size * k) (index_bytes (ended ends state)) index

-- the walk may begin: before the first of the events, which are not too many, and their entries have room
pub record Walkable (state : IndexState) (events index : List ℕ) : Type 0 where
  pub fresh : state ≡ fresh
  pub few : length events / event_size ≤ max_records
  pub room : entry_size * length (headers_in (length events / event_size) events) ≤ length index
