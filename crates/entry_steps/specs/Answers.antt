-- What the entries promise: the answer and every word of both buffers. Assumes nothing.
use Rattle.std.specs.Prelude.{◌≡◌, Bool, true, false, Result, Ok, Err, List, ℕ, ◌-◌, ltb, length}
use Rattle.token.specs.declared.cursor.Cursor.{Cursor}
use Rattle.token.specs.Check.{checked}
use Rattle.token.specs.Tokens.{all_tokens, At}
use Rattle.rules.specs.declared.answer.Answer.{Answer}
use Rattle.rules.specs.declared.options.Options.{Options}
use Rattle.rules.specs.Out.{Out, ◌then◌}
use Rattle.rules.specs.Skipping.{eof}
use Rattle.rules.specs.Entries.{Entry, parse}
use Rattle.rules.specs.Answer.{Outcome, outcome, room_refusal}
use Rattle.output.specs.declared.emitting.Counts.{Counts}
use Rattle.output.specs.Pour.{Bufs, bufs}
use Rattle.nest.specs.Nested.{NestWalk, walk_of, is_stopped, Nested}

-- the answer r, with the buffers a and b after it, is the rules' answer with the options at the entry for the record bytes s, the base and the buffers
-- before it: one equation for all inputs, refusals too
abbrev pub Answers : Options → Entry → List ℕ → ℕ → List ℕ → List ℕ → List ℕ → List ℕ → Answer → Type 0
Answers options entry s base events errors a b r = record { answer = r; events = a; errors = b } ≡ outcome options entry s base events errors

-- at each entry, two answers with the buffers after them that are the rules' answer are equal
abbrev pub Determined : List ℕ → ℕ → List ℕ → List ℕ → Type 0
Determined s base events errors =
    (options : Options) (entry : Entry) (x y : Outcome) → Answers options entry s base events errors x.events x.errors x.answer → Answers options entry s base events errors y.events y.errors y.answer → x ≡ y

-- nothing counted
abbrev pub fresh : Counts
fresh = record { events = 0; errors = 0 }

-- the cursor c is at the start of a list that the check let through, and nothing is counted in n
pub record Starts (s : List ℕ) (base : ℕ) (c : Cursor) (n : Counts) : Type 0 where
  pub passed : checked s base ≡ Ok tt
  pub at : At c base 0 base
  pub none : n ≡ fresh

-- what an entry begins with; a list that the check refuses is answered so at every entry
abbrev pub Begins : List ℕ → ℕ → Result (Cursor × Counts) Answer → Type 0
Begins s base (Err r) = (options : Options) (entry : Entry) (events errors : List ℕ) → Answers options entry s base events errors events errors r
Begins s base (Ok (c, n)) = Starts s base c n

-- a walk v by an entry's rule g, up to what is left behind the end: from the start, with the buffers a and b after it
pub record Entered (entry : Entry) (s : List ℕ) (base : ℕ) (events errors a b : List ℕ) (v : NestWalk) : Type 0 where
  pub g : Out
  pub c : Cursor
  pub n : Counts
  pub start : Starts s base c n
  pub rule : g then eof ≡ parse entry (all_tokens s base)
  pub walk : Nested s g c (bufs events errors n) a b v
  pub events_kept : length a ≡ length events
  pub errors_kept : length b ≡ length errors

-- what an entry ends with: the answer r, whatever the entry, and the buffers after it
abbrev pub Answered : Options → List ℕ → NestWalk → List ℕ → List ℕ → List ℕ → List ℕ → Answer → Type 0
Answered options s v a b a' b' r = (entry : Entry) (base : ℕ) (events errors : List ℕ) → Entered entry s base events errors a b v → Answers options entry s base events errors a' b' r

-- a walk v by any rule g, and then what is left behind the end
abbrev pub Closed : List ℕ → NestWalk → List ℕ → List ℕ → List ℕ → List ℕ → NestWalk → Type 0
Closed s v a b a' b' v' = (g : Out) (c : Cursor) (o : Bufs) → Nested s g c o a b v → Nested s (g then eof) c o a' b' v'

-- the answer of a walk, by the room for events and for errors
abbrev pub answer_by : Bool → NestWalk → ℕ → ℕ → Answer
answer_by true v event_room error_room = record { refusal = 6; place = (walk_of v).cur.at - 1; events = (walk_of v).n.events; errors = (walk_of v).n.errors }
answer_by false v event_room error_room = record { refusal = room_refusal (ltb event_room (walk_of v).n.events) (ltb error_room (walk_of v).n.errors); place = 0; events = (walk_of v).n.events; errors = (walk_of v).n.errors }

abbrev pub answer_of : NestWalk → ℕ → ℕ → Answer
answer_of v event_room error_room = answer_by (is_stopped v) v event_room error_room
