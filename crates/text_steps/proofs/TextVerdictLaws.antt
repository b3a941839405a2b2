-- From the judgement of the records that the lexer left to that of the text. Proved; nothing here needs to be believed.
use mathlib.Core.Path.{◌≡◌, refl, ap, ap₂, sym, subst, ◌∙◌}
use mathlib.Core.Bool.{Bool, true, false, cond, false≢true}
use mathlib.Core.Logic.{◌↔◌}
use mathlib.Core.List.{List, []}
use Prim.Native.Nat.{ℕ, ◌*◌, ◌/◌, ◌<◌, ◌≤◌}
use native.Mathlib.Omega.{arith}
use lib.ListN.{length, take}
use lib.Dec.{ltb}
use borrow.Author.Tests.{eq-eqb, ne_eqb}
use Rattle.token.specs.Limits.{max_records}
use Rattle.token.specs.Records.{count}
use Rattle.token.specs.Tokens.{all_tokens}
use Rattle.token.specs.CheckLaws.{checked_passes}
use Rattle.token.specs.CursorLaws.{all_length}
use Rattle.rules.specs.Limits.{max_depth}
use Rattle.rules.specs.declared.answer.Answer.{Answer}
use Rattle.rules.specs.Answer.{as_crate, event_size, Outcome}
use Rattle.fitting.specs.Grammar.{FitsWithin}
use Rattle.fitting.specs.Premises.{document_run}
use Rattle.judging.specs.declared.verdict.Verdict.{Verdict}
use Rattle.judging.specs.Verdicts.{Sound, Roomy, Judges, Judged, refusal_of, place_of}
use Rattle.lex.specs.declared.Lexed.{Lexed}
use Rattle.scan.specs.Lexer.{tokens_of}
use Rattle.lex.specs.Lexed.{LexOutcome, lex_outcome}
use Rattle.text_rules.specs.TextOutcome.{TextOutcome, text_outcome, run_of, text_run}
use Rattle.text_rules.specs.TextPremises.{RecordRoom}
use Rattle.text_rules.specs.LexedLaws.{accepted, lexed_count}
use Rattle.text_rules.specs.TextLaws.{text_many}
use Rattle.text_rules.specs.RunLaws.{buffer_is, run_refused, refused_beyond, refusal_none, run_is, tokens_are, regular_are, few_pass}
use Rattle.text_steps.specs.TextVerdicts.{SoundText, EventRoom, text_refusal_of, text_place_of, JudgesText, DeterminedTextVerdict, TextVerdictsJudge}

-- what the lexer answered, with the record buffer after it
module _ (text records events : List ℕ) (r : Lexed) (after : List ℕ) (e : record { answer = r; buffer = after } ≡ lex_outcome text records) where
  abbrev run : Outcome
  run = text_run as_crate text records events []

  -- whether there is too little room for events
  abbrev tight : Bool
  tight = ltb (length events / event_size) (length (tokens_of text))

  lexed_is : (lex_outcome text records).answer ≡ r
  lexed_is = ap (λ (x : LexOutcome). x.answer) (sym e)

  -- a text that was refused
  pub text_unjudged : (r.refusal ≡ 0 → ⊥) → JudgesText text records events after events (record { fits = false; refusal = r.refusal; place = r.place })
  text_unjudged h =
      let b = ne_eqb r.refusal 0 h in
      record {
        yes = (λ f. absurd (false≢true f), λ x. absurd (refused_beyond text records events [] r after e h x.0.within x.1));
        refusal = ap (λ (z : Bool). cond z (refusal_of run.answer tight) r.refusal) (sym b) ∙ ap (λ (z : Lexed). text_refusal_of z run.answer tight) (sym lexed_is);
        place = ap (λ (z : Bool). cond z (place_of run.answer) r.place) (sym b) ∙ ap (λ (z : Lexed). text_place_of z run.answer) (sym lexed_is);
        records_left = buffer_is text records events [] r after e as_crate;
        events_left = ap (λ (o : Outcome). o.events) (sym (run_refused text records events [] r after e h as_crate));
      }

  -- its refusal is answered, and no yes
  pub unjudged_decided : (r.refusal ≡ 0 → ⊥) → TextVerdictsJudge text records events
  unjudged_decided h recordsAfter eventsAfter v j =
      let is : v.refusal ≡ r.refusal =
      j.refusal ∙ ap (λ (z : Lexed). text_refusal_of z run.answer tight) lexed_is
      ∙ ap (λ (z : Bool). cond z (refusal_of run.answer tight) r.refusal) (ne_eqb r.refusal 0 h) in
      record {
        decides = λ n. absurd (h (sym is ∙ n));
        accepted = λ f. let x = j.yes.0 f in absurd (refused_beyond text records events [] r after e h x.0.within x.1);
      }

  -- a text that was lexed is judged by its records
  module _ (z : r.refusal ≡ 0) where
    abbrev bytes : List ℕ
    bytes = take (6 * r.records) after

    tokens : all_tokens bytes r.base ≡ tokens_of text
    tokens = tokens_are text records events [] r after e z

    counted : count bytes ≡ length (tokens_of text)
    counted = sym (all_length bytes r.base) ∙ ap length tokens

    same_run : run ≡ document_run as_crate bytes r.base events []
    same_run = run_is text records events [] r after e z as_crate

    sound_text : Sound bytes r.base → SoundText text
    sound_text x =
        let a = accepted text records (refusal_none text records events [] r after e z) in
        let few : length (tokens_of text) ≤ max_records = omega (arith, counted, (checked_passes bytes r.base x.passed).few) in
        record { within = record { short = a.short; formed = a.formed; few = few }; fitting = subst (FitsWithin max_depth) tokens x.fitting }

    sound_records : SoundText text → Sound bytes r.base
    sound_records x =
        record {
          passed = few_pass text records events [] r after e z x.within.few;
          regular = regular_are text records events [] r after e z;
          fitting = subst (FitsWithin max_depth) (sym tokens) x.fitting;
        }

    abbrev TextYes : Type 0
    TextYes = SoundText text × RecordRoom text records × EventRoom text events

    yes_text : Sound bytes r.base × Roomy bytes events → TextYes
    yes_text x = (sound_text x.0, (accepted text records (refusal_none text records events [] r after e z)).room, subst (λ (n : ℕ). n ≤ length events / event_size) counted x.1)

    yes_records : TextYes → Sound bytes r.base × Roomy bytes events
    yes_records x = (sound_records x.0, subst (λ (n : ℕ). n ≤ length events / event_size) (sym counted) x.2)

    refusal_text : refusal_of (document_run as_crate bytes r.base events []).answer (ltb (length events / event_size) (count bytes)) ≡ text_refusal_of (lex_outcome text records).answer run.answer tight
    refusal_text =
        ap₂ refusal_of (ap (λ (o : Outcome). o.answer) (sym same_run)) (ap (ltb (length events / event_size)) counted)
        ∙ ap (λ (t : Bool). cond t (refusal_of run.answer tight) r.refusal) (sym (eq-eqb r.refusal 0 z))
        ∙ ap (λ (l : Lexed). text_refusal_of l run.answer tight) (sym lexed_is)

    place_text : place_of (document_run as_crate bytes r.base events []).answer ≡ text_place_of (lex_outcome text records).answer run.answer
    place_text =
        ap (λ (o : Outcome). place_of o.answer) (sym same_run)
        ∙ ap (λ (t : Bool). cond t (place_of run.answer) r.place) (sym (eq-eqb r.refusal 0 z))
        ∙ ap (λ (l : Lexed). text_place_of l run.answer) (sym lexed_is)

    events_text : (document_run as_crate bytes r.base events []).events ≡ (text_outcome as_crate text records events []).events
    events_text = ap (λ (o : Outcome). o.events) (sym same_run)

    pub text_judged : (eventsAfter : List ℕ) (v : Verdict) → Judges bytes r.base events eventsAfter v → JudgesText text records events after eventsAfter v
    text_judged eventsAfter v j =
        record {
          yes = (λ f. yes_text (j.yes.0 f), λ x. j.yes.1 (yes_records x));
          refusal = j.refusal ∙ refusal_text;
          place = j.place ∙ place_text;
          records_left = buffer_is text records events [] r after e as_crate;
          events_left = j.left ∙ events_text;
        }

    -- too many records: they are not judged
    pub text_many_unjudged : max_records < r.records → JudgesText text records events after events (record { fits = false; refusal = 2; place = max_records })
    text_many_unjudged many =
        let q = text_many text records events [] r after e z as_crate many in
        let b = eq-eqb r.refusal 0 z in
        let two : Answer = record { refusal = 2; place = max_records; events = 0; errors = 0 } in
        let all : r.records ≡ length (tokens_of text) = ap (λ (x : LexOutcome). x.answer.records) e ∙ lexed_count text records (refusal_none text records events [] r after e z) in
        record {
          yes = (λ f. absurd (false≢true f), λ x. absurd (omega (arith, many, all, x.0.within.few)));
          refusal =
              ap (λ (t : Bool). cond t 2 r.refusal) (sym b)
              ∙ ap (λ (l : Lexed). text_refusal_of l two tight) (sym lexed_is)
              ∙ ap (λ (o : TextOutcome). text_refusal_of (lex_outcome text records).answer (run_of o).answer tight) q;
          place =
              ap (λ (t : Bool). cond t max_records r.place) (sym b)
              ∙ ap (λ (l : Lexed). text_place_of l two) (sym lexed_is)
              ∙ ap (λ (o : TextOutcome). text_place_of (lex_outcome text records).answer (run_of o).answer) q;
          records_left = buffer_is text records events [] r after e as_crate;
          events_left = ap (λ (o : TextOutcome). o.events) q;
        }

    -- and back
    records_judged : (recordsAfter eventsAfter : List ℕ) (v : Verdict) → JudgesText text records events recordsAfter eventsAfter v → Judges bytes r.base events eventsAfter v
    records_judged recordsAfter eventsAfter v j =
        record {
          yes = (λ f. yes_records (j.yes.0 f), λ x. j.yes.1 (yes_text x));
          refusal = j.refusal ∙ sym refusal_text;
          place = j.place ∙ sym place_text;
          left = j.events_left ∙ sym events_text;
        }

    -- so an answer says of the text what it says of the records
    pub text_decided : ((eventsAfter : List ℕ) (v : Verdict) → Judges bytes r.base events eventsAfter v → Judged bytes r.base v) → TextVerdictsJudge text records events
    text_decided x recordsAfter eventsAfter v j =
        let y = x eventsAfter v (records_judged recordsAfter eventsAfter v j) in
        record {
          decides = λ n. (λ f. sound_text ((y.decides n).0 f), λ s. (y.decides n).1 (sound_records s));
          accepted = y.accepted;
        }

-- the contract says each part of the answer, and every word of both buffers
same_test : {A : Type 0} (b c : Bool) → (b ≡ true) ↔ A → (c ≡ true) ↔ A → b ≡ c
same_test true true p q = refl
same_test true false p q = absurd (false≢true (q.1 (p.0 refl)))
same_test false true p q = absurd (false≢true (p.1 (q.0 refl)))
same_test false false p q = refl

pub determined : (text records events : List ℕ) → DeterminedTextVerdict text records events
determined text records events x y p q =
    let fits = same_test x.verdict.fits y.verdict.fits p.yes q.yes in
    let refusal = p.refusal ∙ sym q.refusal in
    let place = p.place ∙ sym q.place in
    let left = p.records_left ∙ sym q.records_left in
    let written = p.events_left ∙ sym q.events_left in
    λ i. record { verdict = record { fits = fits i; refusal = refusal i; place = place i }; records = left i; events = written i }
