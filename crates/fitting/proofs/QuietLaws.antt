-- From an entry's outcome to quiet items and back: when a run is quiet, and that its events are known by the words in its buffer.
-- Nothing here needs to be believed.
use mathlib.Core.Path.{◌≡◌, refl, ap, sym, subst, ◌∙◌}
use mathlib.Core.Bool.{Bool, true, false}
use mathlib.Core.Logic.{◌↔◌}
use mathlib.Core.List.{List, [], ◌∷◌}
use Prim.Native.Nat.{ℕ, zero, suc, ◌+◌, ◌*◌, ◌/◌, ◌<◌, ◌≤◌}
use native.Mathlib.Omega.{arith}
use lib.ListN.{length, take, get_or}
use borrow.Author.Tests.{ltb-false, le-ltb}
use Rattle.std.specs.Prelude.{Ok, Err}
use Rattle.token.specs.Tokens.{Tok, all_tokens}
use Rattle.token.specs.Check.{checked, Checked}
use Rattle.token.specs.CheckLaws.{refusal_numbered}
use Rattle.rules.specs.declared.event.Event.{Event}
use Rattle.rules.specs.Out.{Item, event, event_after, report, trailing_comma, stop}
use Rattle.rules.specs.Entries.{Entry, parse}
use Rattle.rules.specs.declared.options.Mode.{Mode}
use Rattle.rules.specs.declared.options.Options.{Options}
use Rattle.rules.specs.Words.{events_of, errors_of, Halt, ended, refused_level, halt_of}
use Rattle.rules.specs.Answer.{event_size, error_size, Outcome, joined, filled, refusal_by, walked, outcome_by, outcome}
use Rattle.fitting.specs.Grammar.{Parts, AnyKind}
use Rattle.fitting.specs.Quiet.{KeyIn, Quiet, QuietRun}
use Rattle.rules.proofs.BufferLaws.{word_in}
use Rattle.rules.proofs.OutcomeLaws.{events_sized, passed_outcome, events_in_buffer, events_known}

-- a quiet run of items: it goes to its end, reports nothing, and no event has an empty span
pub quiet_ended : (P : Parts) (is : List Item) → Quiet P is → halt_of is ≡ ended
quiet_ended P [] q = refl
quiet_ended P (event g a b ∷ is) q = quiet_ended P is q.1
quiet_ended P (event_after g l ∷ is) q = absurd q
quiet_ended P (report m x c u ∷ is) q = absurd q
quiet_ended P (trailing_comma head opened left start ∷ is) q = absurd q
quiet_ended P (stop n ∷ is) q = absurd q

pub quiet_errorless : (mode : Mode) (all : List Tok) (is : List Item) → Quiet AnyKind is → errors_of mode all is ≡ []
quiet_errorless mode all [] q = refl
quiet_errorless mode all (event g a b ∷ is) q = quiet_errorless mode all is q.1
quiet_errorless mode all (event_after g l ∷ is) q = absurd q
quiet_errorless mode all (report m x c u ∷ is) q = absurd q
quiet_errorless mode all (trailing_comma head opened left start ∷ is) q = absurd q
quiet_errorless mode all (stop n ∷ is) q = absurd q

-- word 2 of event i is its start, word 3 its end
abbrev pub EmptyAt : List (List ℕ) → ℕ → Type 0
EmptyAt ws i = get_or (get_or ws i []) 2 0 ≡ get_or (get_or ws i []) 3 0

pub quiet_nonempty : (all : List Tok) (is : List Item) → Quiet AnyKind is → (i : ℕ) → i < length (events_of all is) → EmptyAt (events_of all is) i → ⊥
quiet_nonempty all [] q i h e = omega arith
quiet_nonempty all (event g a b ∷ is) q zero h e = q.0.0 e
quiet_nonempty all (event g a b ∷ is) q (suc i) h e = quiet_nonempty all is q.1 i (omega arith) e
quiet_nonempty all (event_after g l ∷ is) q i h e = absurd q
quiet_nonempty all (report m x c u ∷ is) q i h e = absurd q
quiet_nonempty all (trailing_comma head opened left start ∷ is) q i h e = absurd q
quiet_nonempty all (stop n ∷ is) q i h e = absurd q

-- any kind will do
pub any_key : (g : Event) → KeyIn AnyKind g
any_key Event.StdTableOpen = tt
any_key Event.StdTableClose = tt
any_key Event.ArrayTableOpen = tt
any_key Event.ArrayTableClose = tt
any_key (Event.SimpleKey c) = tt
any_key Event.KeySep = tt
any_key Event.KeyValSep = tt
any_key (Event.Scalar c) = tt
any_key Event.ValueSep = tt
any_key Event.ArrayOpen = tt
any_key Event.ArrayClose = tt
any_key Event.InlineTableOpen = tt
any_key Event.InlineTableClose = tt
any_key Event.Whitespace = tt
any_key Event.Comment = tt
any_key Event.Newline = tt
any_key Event.Error = tt

-- and back
abbrev IsEnded : Halt → Type 0
IsEnded ended = Unit {0}
IsEnded (refused_level n) = ⊥

pub quiet_items : (mode : Mode) (all : List Tok) (is : List Item) → halt_of is ≡ ended → length (errors_of mode all is) ≡ 0 → ((i : ℕ) → i < length (events_of all is) → EmptyAt (events_of all is) i → ⊥) → Quiet AnyKind is
quiet_items mode all [] t z h = tt
quiet_items mode all (event g a b ∷ is) t z h = ((λ e. h 0 (omega arith) e, any_key g), quiet_items mode all is t z (λ i l e. h (suc i) (omega arith) e))
quiet_items mode all (event_after g l ∷ is) t z h = h 0 (omega arith) refl
quiet_items mode all (report m x c u ∷ is) t z h = omega arith
quiet_items mode all (trailing_comma head opened left start ∷ is) t z h = omega arith
quiet_items mode all (stop n ∷ is) t z h = subst IsEnded (sym t) tt

-- no refusal: the walk went to its end, and both lists fit
none_refused : (t : Halt) (short_events short_errors : Bool) → refusal_by t short_events short_errors ≡ 0 → (t ≡ ended) × (short_events ≡ false) × (short_errors ≡ false)
none_refused ended true b e = absurd (omega (arith, e))
none_refused ended false true e = absurd (omega (arith, e))
none_refused ended false false e = (refl, refl, refl)
none_refused (refused_level n) a b e = absurd (omega (arith, e))

module _ (mode : Mode) (all : List Tok) (is : List Item) (evs ers : List ℕ) where
  -- a quiet run of the outcome: its events fit
  pub quiet_fits : QuietRun (walked mode all is evs ers) → length (events_of all is) ≤ length evs / event_size
  unfolding walked
  quiet_fits q = ltb-false _ _ (none_refused (halt_of is) _ _ q.accepted).1

  -- the words of event i, in the list and in the buffer
  pub word_at : (i j : ℕ) → length (events_of all is) ≤ length evs / event_size → i < length (events_of all is) → j < event_size
      → get_or (filled event_size (events_of all is) evs) (i * event_size + j) 0 ≡ get_or (get_or (events_of all is) i []) j 0
  word_at i j h l m = word_in evs i j 0 (events_sized all is) h l m

  pub quiet_run_items : QuietRun (walked mode all is evs ers) → Quiet AnyKind is
  unfolding walked
  quiet_run_items q =
      let fits = quiet_fits q in
      quiet_items mode all is (none_refused (halt_of is) _ _ q.accepted).0 q.errorless
      (λ i l e. q.nonempty i l (word_at i 2 fits l (omega arith) ∙ e ∙ sym (word_at i 3 fits l (omega arith))))

  pub quiet_items_run : Quiet AnyKind is → length (events_of all is) ≤ length evs / event_size → QuietRun (walked mode all is evs ers)
  unfolding walked
  quiet_items_run q h =
      record {
        accepted = simp (quiet_ended AnyKind is q, quiet_errorless mode all is q, le-ltb _ _ h, le-ltb (length ers / error_size) 0 (omega arith));
        errorless = ap length (quiet_errorless mode all is q);
        nonempty = λ i l e. quiet_nonempty all is q i l (sym (word_at i 2 h l (omega arith)) ∙ e ∙ word_at i 3 h l (omega arith));
      }

-- what a quiet run of an entry is, with keys of the kinds P, said of the check, the rules' items and the room for events
pub record QuietOutcome (P : Parts) (e : Entry) (s : List ℕ) (base : ℕ) (evs : List ℕ) : Type 0 where
  pub passed : checked s base ≡ Ok tt
  pub quiet : Quiet P (parse e (all_tokens s base)).items
  pub fits : length (events_of (all_tokens s base) (parse e (all_tokens s base)).items) ≤ length evs / event_size

module _ (options : Options) (e : Entry) (s : List ℕ) (base : ℕ) (evs ers : List ℕ) where
  -- refusals 1 to 5 are no quiet run
  by_check : (c : Checked) → checked s base ≡ c → QuietRun (outcome_by c options e s base evs ers) → checked s base ≡ Ok tt
  by_check (Ok u) h q = h
  by_check (Err r) h q = absurd (refusal_numbered r.refusal q.accepted)

  pub quiet_passed : QuietRun (outcome options e s base evs ers) → checked s base ≡ Ok tt
  unfolding outcome
  quiet_passed q = by_check (checked s base) refl q

  -- nor are 6, 7 and 8: the items are quiet, with which the walk goes to its end and reports nothing, and the events fit
  pub quiet_outcome : QuietRun (outcome options e s base evs ers) → QuietOutcome AnyKind e s base evs
  quiet_outcome q =
      let p = quiet_passed q in
      let w = subst QuietRun (passed_outcome options e s base evs ers p) q in
      record { passed = p; quiet = quiet_run_items options.mode (all_tokens s base) (parse e (all_tokens s base)).items evs ers w; fits = quiet_fits options.mode (all_tokens s base) (parse e (all_tokens s base)).items evs ers w }

  pub outcome_quiet : QuietOutcome AnyKind e s base evs → QuietRun (outcome options e s base evs ers)
  outcome_quiet q =
      subst QuietRun (sym (passed_outcome options e s base evs ers q.passed))
      (quiet_items_run options.mode (all_tokens s base) (parse e (all_tokens s base)).items evs ers q.quiet q.fits)

  pub quiet_iff : QuietRun (outcome options e s base evs ers) ↔ QuietOutcome AnyKind e s base evs
  quiet_iff = (quiet_outcome, outcome_quiet)

-- the same of an outcome: the words of as many events as it counts
abbrev pub event_words_of : Outcome → List ℕ
event_words_of o = take (event_size * o.answer.events) o.events

pub events_read : (options : Options) (e : Entry) (s : List ℕ) (base : ℕ) (evs ers : List ℕ) → QuietRun (outcome options e s base evs ers)
    → event_words_of (outcome options e s base evs ers) ≡ joined (events_of (all_tokens s base) (parse e (all_tokens s base)).items)
unfolding walked
events_read options e s base evs ers q =
    let o = quiet_outcome options e s base evs ers q in
    ap event_words_of (passed_outcome options e s base evs ers o.passed) ∙ events_in_buffer (all_tokens s base) (parse e (all_tokens s base)).items evs o.fits

-- two quiet runs with the same words of events have the same events
pub same_events : (options other : Options) (e : Entry) (s t : List ℕ) (base to : ℕ) (evs ers evs' ers' : List ℕ) → QuietRun (outcome options e s base evs ers) → QuietRun (outcome other e t to evs' ers')
    → event_words_of (outcome options e s base evs ers) ≡ event_words_of (outcome other e t to evs' ers')
    → events_of (all_tokens s base) (parse e (all_tokens s base)).items ≡ events_of (all_tokens t to) (parse e (all_tokens t to)).items
same_events options other e s t base to evs ers evs' ers' q r h =
    events_known (all_tokens s base) (all_tokens t to) (parse e (all_tokens s base)).items (parse e (all_tokens t to)).items
    (sym (events_read options e s base evs ers q) ∙ h ∙ events_read other e t to evs' ers' r)
