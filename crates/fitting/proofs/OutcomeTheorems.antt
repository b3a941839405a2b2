-- Demand 3 over what an entry answers and leaves in its event buffer: the theorems of Demand.antt, carried from the rules' items to the
-- outcome by OutcomeLaws.antt. Proved; nothing here needs to be believed.
use mathlib.Core.Path.{◌≡◌, refl, ap, sym, subst, ◌∙◌}
use mathlib.Core.Bool.{Bool, true, false}
use mathlib.Core.Logic.{◌↔◌}
use mathlib.Core.List.{List, [], ◌∷◌, ◌++◌}
use Prim.Native.Nat.{ℕ, ◌*◌, ◌/◌, ◌≤◌}
use native.Mathlib.Nat.{le_trans}
use native.Mathlib.Omega.{arith}
use lib.ListN.{length, drop}
use lib.Dec.{ltb}
use borrow.Author.Tests.{ltb-false}
use Rattle.std.specs.Prelude.{Ok}
use Rattle.token.specs.Spans.{span_after}
use Rattle.token.specs.Tokens.{Tok, all_tokens}
use Rattle.token.specs.Check.{checked}
use Rattle.token.specs.Laid.{Laid}
use Rattle.token.specs.Records.{count}
use Rattle.token.specs.CursorLaws.{all_length}
use Rattle.token.specs.CheckLaws.{checked_passes, passed_laid}
use Rattle.rules.specs.Limits.{max_depth}
use Rattle.rules.specs.Out.{Item, event, event_after, report, trailing_comma, stop}
use Rattle.rules.specs.Entries.{parse_document, document_entry}
use Rattle.rules.specs.declared.options.Options.{Options}
use Rattle.rules.specs.Words.{looked_up, event_words, events_of, errors_of, halt_of}
use Rattle.rules.specs.Answer.{event_size, error_size, joined, Outcome, refusal_by, walked}
use Rattle.bounds.proofs.Bounds.{three_events}
use Rattle.bounds.proofs.CountLaws.{room_events}
use Rattle.fitting.specs.Quiet.{Quiet, QuietRun}
use Rattle.fitting.specs.Grammar.{Parts, AnyKind, FitsBy}
use Rattle.fitting.specs.Premises.{NestedWithin, Regular, Ready, text_end, events_in, document_run, events_left, EndToEnd, Nests, SameButForCuts}
use Rattle.rules.proofs.BufferLaws.{all_fit}
use Rattle.rules.proofs.OutcomeLaws.{passed_outcome, counted_events, events_written}
use Rattle.fitting.proofs.QuietLaws.{quiet_ended, QuietOutcome, quiet_passed, quiet_outcome}
use Rattle.fitting.proofs.Demand.{quiet_fits_within, nesting_exact, quiet_ends, quiet_nests, quiet_count, quiet_same}

-- the events stand first in a buffer, and are read back from it
events_back : (all : List Tok) (is : List Item) (others : List ℕ) → events_in (length (events_of all is)) (joined (events_of all is) ++ others) ≡ events_of all is
unfolding events_in
events_back all [] others = refl
events_back all (event g a b ∷ is) others = ap (λ ws. event_words g (record { start = a; end = b }) ∷ ws) (events_back all is others)
events_back all (event_after g l ∷ is) others = ap (λ ws. event_words g (span_after (looked_up all l)) ∷ ws) (events_back all is others)
events_back all (report m x c u ∷ is) others = events_back all is others
events_back all (trailing_comma head opened left start ∷ is) others = events_back all is others
events_back all (stop n ∷ is) others = refl

module _ (options : Options) (s : List ℕ) (base : ℕ) (events errors : List ℕ) where
  abbrev tokens : List Tok
  tokens = all_tokens s base

  abbrev items : List Item
  items = (parse_document tokens).items

  laid : checked s base ≡ Ok tt → Laid base tokens
  laid p = passed_laid s base (checked_passes s base p)

  run_laid : QuietRun (document_run options s base events errors) → Laid base tokens
  run_laid r = laid (quiet_passed options document_entry s base events errors r)

  run_quiet : QuietRun (document_run options s base events errors) → Quiet AnyKind items
  run_quiet r = (quiet_outcome options document_entry s base events errors r).quiet

  -- what a quiet run leaves in its buffer is the list of its events
  run_events : QuietRun (document_run options s base events errors) → events_left (document_run options s base events errors) ≡ events_of tokens items
  run_events r =
      let o = quiet_outcome options document_entry s base events errors r in
      (λ i. events_in (counted_events options document_entry s base events errors o.passed i) (events_written options document_entry s base events errors o.passed i))
      ∙ ap (events_in (length (events_of tokens items))) (all_fit event_size (events_of tokens items) events o.fits)
      ∙ events_back tokens items (drop (length (joined (events_of tokens items))) events)

  -- the refusal of a run that passed the check
  refusal_passed : checked s base ≡ Ok tt
      → (document_run options s base events errors).answer.refusal ≡ refusal_by (halt_of items) (ltb (length events / event_size) (length (events_of tokens items))) (ltb (length errors / error_size) (length (errors_of options.mode tokens items)))
  unfolding walked
  refusal_passed p = ap (λ (o : Outcome). o.answer.refusal) (passed_outcome options document_entry s base events errors p)

  -- `Run` says of the run that it is quiet with keys of the kinds P: with any kind that it is quiet, with the kinds that the grammar allows that
  -- it is quiet without a multi-line key
  module _ {P : Parts} {Run : Type 0} (told : Run ↔ QuietOutcome P document_entry s base events) where
    -- then what it has read fits: of room and depth nothing is supposed
    pub outcome_then_fits : Regular tokens → Run → FitsBy P max_depth tokens
    outcome_then_fits g r = let o = told.0 r in (quiet_fits_within P base tokens (laid o.passed) g).0 o.quiet

    -- where 7 is not the refusal of quiet items, their events fit
    events_fit_by : (short : Bool) → ltb (length events / event_size) (length (events_of tokens items)) ≡ short → Ready options s base events errors → Quiet P items → length (events_of tokens items) ≤ length events / event_size
    events_fit_by false e r q = ltb-false _ _ e
    events_fit_by true e r q = absurd (r.room (refusal_passed r.passed ∙ simp (quiet_ended P items q, e)))

    -- exactly when the tokens fit the grammar with at most 64 arrays and inline tables open
    pub outcome_fits_within : Ready options s base events errors → Run ↔ FitsBy P max_depth tokens
    outcome_fits_within r =
        let e = quiet_fits_within P base tokens (laid r.passed) r.regular in
        (outcome_then_fits r.regular, λ d. told.1 (record { passed = r.passed; quiet = e.1 d; fits = events_fit_by _ refl r (e.1 d) }))

    -- the same, with the depth as a premise
    pub outcome_fits : Ready options s base events errors → NestedWithin max_depth tokens → Run ↔ ((n : ℕ) × FitsBy P n tokens)
    outcome_fits r shallow =
        let e = outcome_fits_within r in
        (λ q. (max_depth, e.0 q), λ f. e.1 ((nesting_exact P tokens).1 (f, shallow)))

    -- room for as many events as there are tokens is enough for a list that fits
    pub roomy_fits_quiet : checked s base ≡ Ok tt → Regular tokens → length tokens ≤ length events / event_size → FitsBy P max_depth tokens → Run
    roomy_fits_quiet p g h d =
        let q = (quiet_fits_within P base tokens (laid p) g).1 d in
        told.1 (record { passed = p; quiet = q; fits = le_trans (quiet_count P base tokens (laid p) g q) h })

  -- room for three times as many is enough for any list
  pub roomy_ready : checked s base ≡ Ok tt → Regular tokens → 3 * length tokens ≤ length events / event_size → Ready options s base events errors
  roomy_ready p g h = record { passed = p; regular = g; room = room_events options document_entry s base events errors (omega (arith, h, three_events document_entry (count s), all_length s base)) }

  -- the events in its buffer lie end to end, from the base to the end of the text
  pub outcome_ends : Regular tokens → QuietRun (document_run options s base events errors) → EndToEnd base (events_left (document_run options s base events errors)) (text_end base tokens)
  outcome_ends g r = subst (λ es. EndToEnd base es (text_end base tokens)) (sym (run_events r)) (quiet_ends AnyKind base tokens (run_laid r) g (run_quiet r))

  -- their brackets nest
  pub outcome_nests : Regular tokens → QuietRun (document_run options s base events errors) → Nests [] (events_left (document_run options s base events errors)) []
  outcome_nests g r = subst (λ es. Nests [] es []) (sym (run_events r)) (quiet_nests AnyKind base tokens (run_laid r) g (run_quiet r))

-- two quiet runs from the same base that leave the same events: the tokens are the same but for cuts
pub outcome_same : (options other : Options) (s t : List ℕ) (base : ℕ) (events errors events' errors' : List ℕ) → Regular (all_tokens s base) → Regular (all_tokens t base)
    → QuietRun (document_run options s base events errors) → QuietRun (document_run other t base events' errors')
    → events_left (document_run options s base events errors) ≡ events_left (document_run other t base events' errors')
    → SameButForCuts (events_left (document_run options s base events errors)) (all_tokens s base) (all_tokens t base)
outcome_same options other s t base events errors events' errors' g h q r e =
    let left = run_events options s base events errors q in
    subst (λ es. SameButForCuts es (all_tokens s base) (all_tokens t base)) (sym left)
    (quiet_same base (all_tokens s base) (all_tokens t base) (run_laid options s base events errors q) (run_laid other t base events' errors' r) g h
    (run_quiet options s base events errors q) (run_quiet other t base events' errors' r) (sym left ∙ e ∙ run_events other t base events' errors' r))
