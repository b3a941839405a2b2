-- The answer of an entry, and both buffers after it: the eight refusals in document 01's order. Assumes nothing.
use Rattle.std.specs.Prelude.{ℕ, ◌-◌, ◌/◌, Bool, true, false, List, [], ◌∷◌, ◌++◌, length, take, drop, ltb, Ok, Err}
use Rattle.token.specs.Refusals.{refusal_number}
use Rattle.token.specs.Tokens.{Tok, all_tokens}
use Rattle.token.specs.Check.{checked, Checked}
use Rattle.rules.specs.declared.answer.Answer.{Answer}
use Rattle.rules.specs.declared.options.Mode.{Mode}
use Rattle.rules.specs.declared.options.Options.{Options}
use Rattle.rules.specs.Out.{Item}
use Rattle.rules.specs.Entries.{Entry, parse}
use Rattle.rules.specs.Words.{events_of, errors_of, Halt, ended, refused_level, halt_of}

-- how many words an event has, and an error
abbrev pub event_size : ℕ
event_size = 4

abbrev pub error_size : ℕ
error_size = 7

-- the answer and the buffers after it
pub record Outcome : Type 0 where
  pub answer : Answer
  pub events : List ℕ
  pub errors : List ℕ

abbrev pub joined : List (List ℕ) → List ℕ
joined [] = []
joined (w ∷ ws) = w ++ joined ws

-- a buffer after the entries were written: the first of them, as many as fit, and the remaining words as they were
abbrev pub written : List (List ℕ) → List ℕ → List ℕ
written ws buffer = joined ws ++ drop (length (joined ws)) buffer

unfoldable pub filled : ℕ → List (List ℕ) → List ℕ → List ℕ
filled size entries buffer = written (take (length buffer / size) entries) buffer

-- 7, the events do not fit; 8, the errors do not fit; 0, all fits
abbrev pub room_refusal : Bool → Bool → ℕ
room_refusal true short = 7
room_refusal false true = 8
room_refusal false false = 0

-- 6, one more level, at the record of its bracket
abbrev pub refusal_by : Halt → Bool → Bool → ℕ
refusal_by ended short_events short_errors = room_refusal short_events short_errors
refusal_by (refused_level n) short_events short_errors = 6

abbrev pub place_by : Halt → ℕ → ℕ
place_by ended records = 0
place_by (refused_level n) records = records - n

-- the walk over all tokens emitted the items
unfoldable pub walked : Mode → List Tok → List Item → List ℕ → List ℕ → Outcome
walked mode all is events errors =
    record {
      answer = record {
        refusal = refusal_by (halt_of is) (ltb (length events / event_size) (length (events_of all is))) (ltb (length errors / error_size) (length (errors_of mode all is)));
        place = place_by (halt_of is) (length all);
        events = length (events_of all is);
        errors = length (errors_of mode all is);
      };
      events = filled event_size (events_of all is) events;
      errors = filled error_size (errors_of mode all is) errors;
    }

-- refusals 1 to 5 leave the counts 0 and both buffers untouched
abbrev pub outcome_by : Checked → Options → Entry → List ℕ → ℕ → List ℕ → List ℕ → Outcome
outcome_by (Err r) options entry s base events errors = record { answer = record { refusal = refusal_number r.refusal; place = r.place; events = 0; errors = 0 }; events = events; errors = errors }
outcome_by (Ok u) options entry s base events errors = walked options.mode (all_tokens s base) (parse entry (all_tokens s base)).items events errors

-- what an entry does with the record bytes s, the base and the two buffers
unfoldable pub outcome : Options → Entry → List ℕ → ℕ → List ℕ → List ℕ → Outcome
outcome options entry s base events errors = outcome_by (checked s base) options entry s base events errors

-- the options that the Rust's own behaviour is
abbrev pub as_crate : Options
as_crate = record { mode = Mode.Crate }
