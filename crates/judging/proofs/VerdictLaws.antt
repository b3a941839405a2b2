-- The answer of `fits`, from the run's answer and what is asked of it and of the list. Proved; nothing here needs to be believed.
use mathlib.Core.Path.{◌≡◌, refl, ap, sym, subst, ◌∙◌}
use mathlib.Core.Bool.{Bool, true, false, cond, false≢true}
use mathlib.Core.Logic.{◌↔◌}
use mathlib.Core.List.{List, []}
use Prim.Native.Nat.{ℕ, ◌/◌, ◌<◌, ◌≤◌}
use native.Mathlib.Omega.{arith}
use lib.ListN.{length}
use lib.Dec.{ltb}
use borrow.Author.Tests.{ltb-false, lt-ltb, le-ltb}
use Rattle.std.specs.Prelude.{Ok, Err}
use Rattle.token.specs.Records.{count}
use Rattle.token.specs.Tokens.{all_tokens}
use Rattle.token.specs.Check.{checked, Checked}
use Rattle.token.specs.CheckLaws.{refusal_numbered}
use Rattle.token.specs.CursorLaws.{all_length}
use Rattle.rules.specs.Limits.{max_depth}
use Rattle.rules.specs.declared.answer.Answer.{Answer}
use Rattle.rules.specs.Entries.{document_entry}
use Rattle.rules.specs.Answer.{as_crate, event_size, Outcome, outcome_by, outcome}
use Rattle.fitting.specs.Quiet.{QuietRun, NoMultiLineKey}
use Rattle.fitting.specs.Grammar.{FitsWithin}
use Rattle.fitting.specs.Premises.{Regular, Ready, document_run}
use Rattle.judging.specs.declared.verdict.Verdict.{Verdict}
use Rattle.quiet.specs.Runs.{QuietAnswer, SingleLineAnswer}
use Rattle.judging.specs.Verdicts.{Sound, Roomy, unjudged, short_of_room, refusal_of, place_of, Judges, DeterminedVerdict, Judged}
use Rattle.fitting.proofs.KeyWords.{single_line_iff}
use Rattle.fitting.proofs.OutcomeTheorems.{outcome_fits_within, roomy_fits_quiet}
use Rattle.quiet.proofs.Decided.{decided_no, decided_once}

-- both answers are what the contract says, part by part
pub determined : (s : List ℕ) (base : ℕ) (events : List ℕ) → DeterminedVerdict s base events
determined s base events x y p q =
    let fits = decided_once x.verdict.fits y.verdict.fits p.yes q.yes in
    let refusal = p.refusal ∙ sym q.refusal in
    let place = p.place ∙ sym q.place in
    let left = p.left ∙ sym q.left in
    λ i. record { verdict = record { fits = fits i; refusal = refusal i; place = place i }; events = left i }

-- of a run: it is quiet, and no key is a multi-line string
abbrev Clean : Outcome → Type 0
Clean o = QuietRun o × NoMultiLineKey o

-- what the theorems about the rules say of the run
abbrev pub FitsThenQuiet : List ℕ → ℕ → List ℕ → Type 0
FitsThenQuiet s base events =
    checked s base ≡ Ok tt → Regular (all_tokens s base) → length (all_tokens s base) ≤ length events / event_size → FitsWithin max_depth (all_tokens s base) → Clean (document_run as_crate s base events [])

record Cited (s : List ℕ) (base : ℕ) (events : List ℕ) : Type 0 where
  pub within : Ready as_crate s base events [] → Clean (document_run as_crate s base events []) ↔ FitsWithin max_depth (all_tokens s base)
  pub quiet : FitsThenQuiet s base events

theorems : (s : List ℕ) (base : ℕ) (events : List ℕ) → Cited s base events
theorems s base events =
    record {
      within = outcome_fits_within as_crate s base events [] (single_line_iff as_crate document_entry s base events []);
      quiet = roomy_fits_quiet as_crate s base events [] (single_line_iff as_crate document_entry s base events []);
    }

-- a quiet run has passed the check
passed_by_lem : (c : Checked) (s : List ℕ) (base : ℕ) (events : List ℕ) → checked s base ≡ c → QuietRun (outcome_by c as_crate document_entry s base events []) → checked s base ≡ Ok tt
passed_by_lem (Ok u) s base events h q = h
passed_by_lem (Err r) s base events h q = absurd (refusal_numbered r.refusal q.accepted)

quiet_passed : (s : List ℕ) (base : ℕ) (events : List ℕ) → QuietRun (document_run as_crate s base events []) → checked s base ≡ Ok tt
unfolding outcome
quiet_passed s base events q = passed_by_lem (checked s base) s base events refl q

-- the run is quiet without a multi-line key exactly when the list is sound, if it is regular and there is room
quiet_sound : (s : List ℕ) (base : ℕ) (events : List ℕ) → Cited s base events → Regular (all_tokens s base) → Clean (document_run as_crate s base events []) → Sound s base
quiet_sound s base events t g q =
    let p = quiet_passed s base events q.0 in
    record { passed = p; regular = g; fitting = (t.within (record { passed = p; regular = g; room = λ e. omega (arith, e, q.0.accepted) })).0 q }

sound_quiet : (s : List ℕ) (base : ℕ) (events : List ℕ) → FitsThenQuiet s base events → Sound s base → Roomy s events → Clean (document_run as_crate s base events [])
sound_quiet s base events t o h = t o.passed o.regular (omega (arith, h, all_length s base)) o.fitting

-- from here on `answer` is the run's, and `after` and `errors` the buffers behind it
module _ (s : List ℕ) (base : ℕ) (events after errors : List ℕ) (answer : Answer) (is : record { answer = answer; events = after; errors = errors } ≡ document_run as_crate s base events []) where
  abbrev run : Outcome
  run = document_run as_crate s base events []

  cited : Cited s base events
  cited = theorems s base events

  ran : answer ≡ run.answer
  ran = ap (λ (o : Outcome). o.answer) is

  -- the error words do not matter
  answer_run : (QuietAnswer answer after × SingleLineAnswer answer after) → Clean run
  answer_run q =
      let here : QuietRun (record { answer = answer; events = after; errors = errors }) = record { accepted = q.0.accepted; errorless = q.0.errorless; nonempty = q.0.nonempty } in
      subst Clean is (here, q.1)

  run_answer : Clean run → QuietAnswer answer after × SingleLineAnswer answer after
  run_answer r =
      let here : Clean (record { answer = answer; events = after; errors = errors }) = subst Clean (sym is) r in
      (record { accepted = here.0.accepted; errorless = here.0.errorless; nonempty = here.0.nonempty }, here.1)

  judged : (f not short : Bool) → (f ≡ true) ↔ (Sound s base × Roomy s events) → unjudged answer.refusal ≡ not → ltb (length events / event_size) (count s) ≡ short
      → Judges s base events after (record { fits = f; refusal = cond not answer.refusal (short_of_room short); place = cond not answer.place 0 })
  judged f not short y u h =
      record {
        yes = y;
        refusal = sym (ap (λ (a : Answer). refusal_of a (ltb (length events / event_size) (count s))) (sym ran) ∙ (λ i. cond (u i) answer.refusal (short_of_room (h i))));
        place = sym (ap place_of (sym ran) ∙ ap (λ (b : Bool). cond b answer.place 0) u);
        left = ap (λ (o : Outcome). o.events) is;
      }

  -- refusals 1 to 6
  pub not_judged : unjudged answer.refusal ≡ true → Judges s base events after (record { fits = false; refusal = answer.refusal; place = answer.place })
  not_judged u =
      judged false true (ltb (length events / event_size) (count s))
      (decided_no (λ h. false≢true (sym (ap unjudged (run_answer (sound_quiet s base events cited.quiet h.0 h.1)).0.accepted) ∙ u))) u refl

  -- too little room
  pub too_little : unjudged answer.refusal ≡ false → length events / event_size < count s → Judges s base events after (record { fits = false; refusal = 7; place = 0 })
  too_little u h = judged false false true (decided_no (λ o. omega (arith, h, o.1))) u (lt-ltb _ _ h)

  module _ (u : unjudged answer.refusal ≡ false) (room : count s ≤ length events / event_size) where
    pub irregular : (Regular (all_tokens s base) → ⊥) → Judges s base events after (record { fits = false; refusal = 0; place = 0 })
    irregular n = judged false false false (decided_no (λ o. n o.0.regular)) u (le-ltb _ _ room)

    pub by_the_run : (r : Bool) → Regular (all_tokens s base) → (r ≡ true) ↔ (QuietAnswer answer after × SingleLineAnswer answer after) → Judges s base events after (record { fits = r; refusal = 0; place = 0 })
    by_the_run r g d =
        judged r false false
        (λ t. (quiet_sound s base events cited g (answer_run (d.0 t)), room), λ o. d.1 (run_answer (sound_quiet s base events cited.quiet o.0 o.1)))
        u (le-ltb _ _ room)

-- no refusal: the list is judged, and there is room
judged_by_lem : (answer : Answer) (not short : Bool) → unjudged answer.refusal ≡ not → cond not answer.refusal (short_of_room short) ≡ 0 → (not ≡ false) × (short ≡ false)
judged_by_lem answer true short u z = absurd (false≢true (sym (ap unjudged z) ∙ u))
judged_by_lem answer false true u z = absurd (omega (arith, z))
judged_by_lem answer false false u z = (refl, refl)

pub judges_decided : (s : List ℕ) (base : ℕ) (events after : List ℕ) (v : Verdict) → FitsThenQuiet s base events → Judges s base events after v → Judged s base v
judges_decided s base events after v t j =
    let run = (document_run as_crate s base events []).answer in
    let short = ltb (length events / event_size) (count s) in
    record {
      decides = λ z. let room = ltb-false _ _ (judged_by_lem run (unjudged run.refusal) short refl (sym j.refusal ∙ z)).1 in (λ y. (j.yes.0 y).0, λ o. j.yes.1 (o, room));
      accepted = λ y.
          let o = j.yes.0 y in
          let q = (sound_quiet s base events t o.0 o.1).0 in
          j.refusal ∙ (λ i. cond (unjudged (q.accepted i)) (q.accepted i) (short_of_room (le-ltb (length events / event_size) (count s) o.1 i)));
    }
