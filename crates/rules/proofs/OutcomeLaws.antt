-- From an entry's outcome to the rules' items and back: what a passed check leaves to be done, what is counted, and which events and
-- errors stand in the buffers. So a theorem about items can be said of the answer and the buffers. Nothing here needs to be believed.
use mathlib.Core.Path.{◌≡◌, refl, ap}
use mathlib.Core.List.{List, [], ◌∷◌}
use Prim.Native.Nat.{ℕ, ◌*◌, ◌/◌, ◌≤◌}
use native.Mathlib.Omega.{arith}
use lib.ListN.{length, take}
use Rattle.std.specs.Prelude.{Ok, Err}
use Rattle.token.specs.declared.checked.Refused.{Refused}
use Rattle.token.specs.Refusals.{refusal_number}
use Rattle.token.specs.Tokens.{Tok, all_tokens}
use Rattle.token.specs.Check.{checked, Checked}
use Rattle.rules.specs.declared.options.Mode.{Mode}
use Rattle.rules.specs.declared.options.Options.{Options}
use Rattle.rules.specs.Out.{Item, event, event_after, report, trailing_comma, stop}
use Rattle.rules.specs.Entries.{Entry, parse}
use Rattle.rules.specs.Words.{events_of, errors_of}
use Rattle.rules.specs.Answer.{event_size, error_size, Outcome, joined, filled, walked, outcome_by, outcome}
use Rattle.rules.proofs.BufferLaws.{Sized, sized_none, sized_entry, joined_known, take_entries, filled_length}

-- the entries have the size of an event, and of an error
pub events_sized : (all : List Tok) (is : List Item) → Sized event_size (events_of all is)
events_sized all [] = sized_none
events_sized all (event g a b ∷ is) = sized_entry refl (events_sized all is)
events_sized all (event_after g l ∷ is) = sized_entry refl (events_sized all is)
events_sized all (report m x c u ∷ is) = events_sized all is
events_sized all (trailing_comma head opened left start ∷ is) = events_sized all is
events_sized all (stop n ∷ is) = sized_none

pub errors_sized : (mode : Mode) (all : List Tok) (is : List Item) → Sized error_size (errors_of mode all is)
errors_sized mode all [] = sized_none
errors_sized mode all (event g a b ∷ is) = errors_sized mode all is
errors_sized mode all (event_after g l ∷ is) = errors_sized mode all is
errors_sized mode all (report m x c u ∷ is) = sized_entry refl (errors_sized mode all is)
errors_sized mode all (trailing_comma head opened left start ∷ is) = sized_entry refl (errors_sized mode all is)
errors_sized mode all (stop n ∷ is) = sized_none

-- what is left to be done after a check that passed
pub passed_outcome : (options : Options) (e : Entry) (s : List ℕ) (base : ℕ) (evs ers : List ℕ) → checked s base ≡ Ok tt
    → outcome options e s base evs ers ≡ walked options.mode (all_tokens s base) (parse e (all_tokens s base)).items evs ers
unfolding outcome
passed_outcome options e s base evs ers h = ap (λ (c : Checked). outcome_by c options e s base evs ers) h

module _ (options : Options) (e : Entry) (s : List ℕ) (base : ℕ) (evs ers : List ℕ) where
  -- refusals 1 to 5: no entry is counted, and both buffers are as they were
  pub refused_outcome_lem : (r : Refused) → checked s base ≡ Err r
      → outcome options e s base evs ers ≡ record { answer = record { refusal = refusal_number r.refusal; place = r.place; events = 0; errors = 0 }; events = evs; errors = ers }
  unfolding outcome
  refused_outcome_lem r h = ap (λ (c : Checked). outcome_by c options e s base evs ers) h

  -- the answer and the buffers after a check that passed
  pub counted_events : checked s base ≡ Ok tt → (outcome options e s base evs ers).answer.events ≡ length (events_of (all_tokens s base) (parse e (all_tokens s base)).items)
  unfolding walked
  counted_events p = ap (λ (o : Outcome). o.answer.events) (passed_outcome options e s base evs ers p)

  pub counted_errors : checked s base ≡ Ok tt → (outcome options e s base evs ers).answer.errors ≡ length (errors_of options.mode (all_tokens s base) (parse e (all_tokens s base)).items)
  unfolding walked
  counted_errors p = ap (λ (o : Outcome). o.answer.errors) (passed_outcome options e s base evs ers p)

  pub events_written : checked s base ≡ Ok tt → (outcome options e s base evs ers).events ≡ filled event_size (events_of (all_tokens s base) (parse e (all_tokens s base)).items) evs
  unfolding walked
  events_written p = ap (λ (o : Outcome). o.events) (passed_outcome options e s base evs ers p)

  pub errors_written : checked s base ≡ Ok tt → (outcome options e s base evs ers).errors ≡ filled error_size (errors_of options.mode (all_tokens s base) (parse e (all_tokens s base)).items) ers
  unfolding walked
  errors_written p = ap (λ (o : Outcome). o.errors) (passed_outcome options e s base evs ers p)

  -- both buffers keep their lengths
  event_room_by : (c : Checked) → length (outcome_by c options e s base evs ers).events ≡ length evs
  unfolding walked
  event_room_by (Ok u) = filled_length evs (events_sized (all_tokens s base) (parse e (all_tokens s base)).items)
  event_room_by (Err r) = refl

  error_room_by : (c : Checked) → length (outcome_by c options e s base evs ers).errors ≡ length ers
  unfolding walked
  error_room_by (Ok u) = filled_length ers (errors_sized options.mode (all_tokens s base) (parse e (all_tokens s base)).items)
  error_room_by (Err r) = refl

  pub event_room : length (outcome options e s base evs ers).events ≡ length evs
  unfolding outcome
  event_room = event_room_by (checked s base)

  pub error_room : length (outcome options e s base evs ers).errors ≡ length ers
  unfolding outcome
  error_room = error_room_by (checked s base)

-- the events stand in the buffer, in order, from its first word on
pub events_in_buffer : (all : List Tok) (is : List Item) (evs : List ℕ) → length (events_of all is) ≤ length evs / event_size
    → take (event_size * length (events_of all is)) (filled event_size (events_of all is) evs) ≡ joined (events_of all is)
events_in_buffer all is evs h =
    let turned : event_size * length (events_of all is) ≡ length (events_of all is) * event_size = omega arith in
    rw turned (take_entries evs (events_sized all is) h)

pub errors_in_buffer : (mode : Mode) (all : List Tok) (is : List Item) (ers : List ℕ) → length (errors_of mode all is) ≤ length ers / error_size
    → take (error_size * length (errors_of mode all is)) (filled error_size (errors_of mode all is) ers) ≡ joined (errors_of mode all is)
errors_in_buffer mode all is ers h =
    let turned : error_size * length (errors_of mode all is) ≡ length (errors_of mode all is) * error_size = omega arith in
    rw turned (take_entries ers (errors_sized mode all is) h)

-- and are known by their words
pub events_known : (all us : List Tok) (is js : List Item) → joined (events_of all is) ≡ joined (events_of us js) → events_of all is ≡ events_of us js
events_known all us is js e = joined_known (omega arith) (events_sized all is) (events_sized us js) e

pub errors_known : (mode : Mode) (all us : List Tok) (is js : List Item) → joined (errors_of mode all is) ≡ joined (errors_of mode us js) → errors_of mode all is ≡ errors_of mode us js
errors_known mode all us is js e = joined_known (omega arith) (errors_sized mode all is) (errors_sized mode us js) e
