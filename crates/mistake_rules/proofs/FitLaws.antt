-- From the list of mistakes of a run to the grammar: it is empty exactly when the run is quiet without a multi-line key and has no error event,
-- and a list that fits gives no error event. Proved; nothing here needs to be believed.
use mathlib.Core.Path.{◌≡◌, refl, ap, sym, subst, ◌∙◌}
use mathlib.Core.Bool.{Bool, true, false, false≢true}
use mathlib.Core.List.{List, [], ◌∷◌}
use Prim.Native.Nat.{ℕ, zero, suc, ◌+◌, ◌*◌, ◌/◌, ◌<◌, ◌≤◌}
use native.Mathlib.Omega.{arith}
use lib.ListN.{length, get_or}
use lib.Dec.{eqb}
use borrow.Author.Tests.{eqb-true, eq-eqb, ltb-false}
use Rattle.token.specs.declared.kind.Kind.{Kind}
use Rattle.std.specs.Prelude.{Ok, Err}
use Rattle.token.specs.Records.{count}
use Rattle.token.specs.Tokens.{Tok, all_tokens}
use Rattle.token.specs.Check.{checked, Checked}
use Rattle.token.specs.CheckLaws.{refusal_numbered}
use Rattle.rules.specs.Limits.{max_depth}
use Rattle.rules.specs.declared.event.Event.{Event}
use Rattle.rules.specs.declared.options.Options.{Options}
use Rattle.rules.specs.Out.{Item}
use Rattle.rules.specs.Entries.{document_entry, parse_document}
use Rattle.rules.specs.Words.{event_number, events_of, errors_of, Halt, ended, refused_level, halt_of}
use Rattle.rules.specs.Answer.{event_size, error_size, Outcome, filled, refusal_by, walked, outcome_by, outcome}
use Rattle.rules.proofs.OutcomeLaws.{passed_outcome, counted_events, counted_errors, events_written, event_room, error_room}
use Rattle.bounds.proofs.CountLaws.{counts_within, refusal_most}
use Rattle.fitting.specs.Quiet.{QuietRun, NoMultiLineKey}
use Rattle.fitting.specs.Grammar.{Parts, SingleLine, FitsWithin}
use Rattle.fitting.specs.Premises.{OpenBracket, document_run}
use Rattle.fitting.proofs.Reading.{ReadsOne, reads_dot, reads_equals, reads_comma, reads_table_open, reads_table_close, reads_array_open, reads_array_close, reads_inline_table_open, reads_inline_table_close, reads_whitespace, reads_newline, reads_comment, reads_key, reads_string, ReadsTwo, reads_array_table_open, reads_array_table_close, Reads, read_none, read_one, read_two, read_unquoted}
use Rattle.fitting.proofs.FitsQuietDocument.{document_walk}
use Rattle.fitting.proofs.QuietLaws.{word_at, quiet_outcome}
use Rattle.fitting.proofs.KeyWords.{single_line_iff}
use Rattle.fitting.proofs.OutcomeTheorems.{outcome_fits_within}
use Rattle.pieces.specs.declared.pieces.Piece.{Piece}
use Rattle.pieces.specs.Pieces.{event_at, events_from, pieces}
use Rattle.mistake_rules.specs.Mistakes.{errors_from, Mistake, merged}
use Rattle.mistake_rules.specs.declared.answer.Listed.{Listed}
use Rattle.mistake_rules.specs.Outcome.{Listing, listed, listed_held, listing}
use Rattle.mistake_rules.specs.Promises.{mistakes_of, records_of, reported_in, EmptyExactlyWhenFits, NoneExactlyWhenFits, Bounded}
use Rattle.mistake_rules.proofs.OutcomeLaws.{run_refused, records_passed, held_listed, held_counted, held_most, held_short}
use Rattle.mistake_rules.proofs.CompleteLaws.{merged_keeps, records_length, complete}
use Rattle.mistake_rules.proofs.SoundLaws.{Fine, none_fine, fine_none, none_left}

-- what reads a token is no error event
one_taken : {P : Parts} {k : Kind} {g : Event} {σ τ : List OpenBracket} → ReadsOne P k g σ τ → event_number g ≡ 17 → ⊥
one_taken reads_dot e = omega (arith, e)
one_taken reads_equals e = omega (arith, e)
one_taken reads_comma e = omega (arith, e)
one_taken reads_table_open e = omega (arith, e)
one_taken reads_table_close e = omega (arith, e)
one_taken reads_array_open e = omega (arith, e)
one_taken reads_array_close e = omega (arith, e)
one_taken reads_inline_table_open e = omega (arith, e)
one_taken reads_inline_table_close e = omega (arith, e)
one_taken reads_whitespace e = omega (arith, e)
one_taken reads_newline e = omega (arith, e)
one_taken reads_comment e = omega (arith, e)
one_taken (reads_key p) e = omega (arith, e)
one_taken (reads_string s) e = omega (arith, e)

two_taken : {k : Kind} {g : Event} {σ τ : List OpenBracket} → ReadsTwo k g σ τ → event_number g ≡ 17 → ⊥
two_taken reads_array_table_open e = omega (arith, e)
two_taken reads_array_table_close e = omega (arith, e)

reads_taken : {P : Parts} {is : List Item} {ts rest : List Tok} {σ τ : List OpenBracket} (all : List Tok) → Reads P is ts rest σ τ
    → (i : ℕ) → i < length (events_of all is) → get_or (get_or (events_of all is) i []) 0 0 ≡ 17 → ⊥
reads_taken all read_none i l e = omega (arith, l)
reads_taken all (read_one f r) zero l e = one_taken f e
reads_taken all (read_one f r) (suc i) l e = reads_taken all r i (omega (arith, l)) e
reads_taken all (read_two f r) zero l e = two_taken f e
reads_taken all (read_two f r) (suc i) l e = reads_taken all r i (omega (arith, l)) e
reads_taken all (read_unquoted d u q r) zero l e = omega (arith, e)
reads_taken all (read_unquoted d u q r) (suc i) l e = reads_taken all r i (omega (arith, l)) e

-- without a refusal both lists fit
none_short : (t : Halt) (short_events short_errors : Bool) → refusal_by t short_events short_errors ≡ 0 → (short_events ≡ false) × (short_errors ≡ false)
none_short ended true b e = absurd (omega (arith, e))
none_short ended false true e = absurd (omega (arith, e))
none_short ended false false e = (refl, refl)
none_short (refused_level n) a b e = absurd (omega (arith, e))

-- a run is clean if it is quiet and has no multi-line key
abbrev Clean : Outcome → Type 0
Clean run = QuietRun run × NoMultiLineKey run

pub no_length : {A : Type 0} (xs : List A) → length xs ≡ 0 → xs ≡ []
no_length [] h = refl
no_length (x ∷ xs) h = absurd (omega (arith, h))

no_record : (m : ℕ) (buffer : List ℕ) → errors_from m 0 buffer ≡ [] → m ≡ 0
no_record m buffer h = sym (records_length m 0 buffer) ∙ ap length h

-- without a mistake it is clean
empty_clean : (run : Outcome) → run.answer.refusal ≡ 0 → mistakes_of run ≡ [] → Clean run
empty_clean run z h =
    let ps = pieces (events_from run.answer.events 0 run.events) false in
    let records = sym (merged_keeps ps (records_of run)) ∙ ap reported_in h in
    let fine : (i : ℕ) → i < run.answer.events → Fine (event_at i run.events) =
    λ i l.
    let back : i + 0 ≡ i = omega arith in
    subst (λ (k : ℕ). Fine (event_at k run.events)) back
    (none_fine run.answer.events 0 run.events (none_left ps (ap (merged ps) (sym records) ∙ h)) i l) in
    (record { accepted = z; errorless = no_record run.answer.errors run.errors records; nonempty = λ i l. (fine i l).present }, λ i l. (fine i l).single)

-- and a clean run without an error event has no mistake
clean_empty : (run : Outcome) → Clean run → ((i : ℕ) → i < run.answer.events → get_or run.events (i * event_size) 0 ≡ 17 → ⊥) → mistakes_of run ≡ []
unfolding merged errors_from
clean_empty run c t =
    let fine : (j : ℕ) → j < run.answer.events → Fine (event_at (j + 0) run.events) =
    λ j l.
    let back : j ≡ j + 0 = omega arith in
    subst (λ (k : ℕ). Fine (event_at k run.events)) back (record { taken = t j l; present = c.0.nonempty j l; single = c.1 j l }) in
    ap (λ (m : ℕ). merged (pieces (events_from run.answer.events 0 run.events) false) (errors_from m 0 run.errors)) c.0.errorless
    ∙ ap (λ (ps : List Piece). merged ps []) (fine_none run.answer.events 0 run.events fine)

module _ (options : Options) (s : List ℕ) (base : ℕ) (events errors : List ℕ) where
  abbrev run : Outcome
  run = document_run options s base events errors

  abbrev tokens : List Tok
  tokens = all_tokens s base

  abbrev items : List Item
  items = (parse_document tokens).items

  passed_by_lem : (c : Checked) → checked s base ≡ c → (outcome_by c options document_entry s base events errors).answer.refusal ≡ 0 → checked s base ≡ Ok tt
  passed_by_lem (Ok u) h z = h
  passed_by_lem (Err r) h z = absurd (refusal_numbered r.refusal z)

  pub run_passed : run.answer.refusal ≡ 0 → checked s base ≡ Ok tt
  unfolding outcome
  run_passed z = passed_by_lem (checked s base) refl z

  -- then the buffers hold its events and its errors
  held_run : checked s base ≡ Ok tt → run.answer.refusal ≡ 0
      → (run.answer.events ≤ length run.events / event_size) × (run.answer.errors ≤ length run.errors / error_size)
  unfolding walked
  held_run p z =
      let y = none_short (halt_of items) _ _ (ap (λ (o : Outcome). o.answer.refusal) (sym (passed_outcome options document_entry s base events errors p)) ∙ z) in
      let many : length (events_of tokens items) ≤ length events / event_size = ltb-false _ _ y.0 in
      let wrong : length (errors_of options.mode tokens items) ≤ length errors / error_size = ltb-false _ _ y.1 in (
        omega (arith, many, counted_events options document_entry s base events errors p, event_room options document_entry s base events errors),
        omega (arith, wrong, counted_errors options document_entry s base events errors p, error_room options document_entry s base events errors),
      )

  -- so its mistakes are listed, and 7 and 8 do not come
  pub run_listed : (buffer : List ℕ) → run.answer.refusal ≡ 0 → listed_held tokens run buffer ≡ listed tokens (mistakes_of run) buffer
  run_listed buffer z = let h = held_run (run_passed z) z in held_listed tokens run buffer h.0 h.1

  -- an event of a run over a list that fits is no error event
  fits_taken : FitsWithin max_depth tokens → QuietRun run → (i : ℕ) → i < run.answer.events → get_or run.events (i * event_size) 0 ≡ 17 → ⊥
  fits_taken d q i l e =
      let o = quiet_outcome options document_entry s base events errors q in
      let within : i < length (events_of tokens items) = subst (λ (n : ℕ). i < n) (counted_events options document_entry s base events errors o.passed) l in
      let first : i * event_size + 0 ≡ i * event_size = omega arith in
      let word : get_or (filled event_size (events_of tokens items) events) (i * event_size) 0 ≡ get_or (get_or (events_of tokens items) i []) 0 0 =
      subst (λ (j : ℕ). get_or (filled event_size (events_of tokens items) events) j 0 ≡ get_or (get_or (events_of tokens items) i []) 0 0) first (word_at options.mode tokens items events errors i 0 o.fits within (omega arith)) in
      let written = events_written options document_entry s base events errors o.passed in
      reads_taken tokens (document_walk SingleLine max_depth tokens d).2.0 i within (sym word ∙ ap (λ (b : List ℕ). get_or b (i * event_size) 0) (sym written) ∙ e)

  pub empty_fits : EmptyExactlyWhenFits s base run
  empty_fits g z =
      let exactly = outcome_fits_within options s base events errors (single_line_iff options document_entry s base events errors)
      (record { passed = run_passed z; regular = g; room = λ r. omega (arith, z, r) }) in
      (λ h. exactly.0 (empty_clean run z h), λ d. let c = exactly.1 d in clean_empty run c (fits_taken d c.0))

  -- what `mistakes` answers for the run
  module _ (buffer : List ℕ) where
    abbrev answer : Listed
    answer = (listing s base run buffer).answer

    abbrev found : List Mistake
    found = mistakes_of run

    refused_answer : (run.answer.refusal ≡ 0 → ⊥) → answer ≡ record { refusal = run.answer.refusal; place = run.answer.place; mistakes = 0 }
    refused_answer h = ap (λ (x : Listing). x.answer) (sym (run_refused s base run buffer h))

    held_answer : run.answer.refusal ≡ 0 → answer ≡ (listed_held tokens run buffer).answer
    held_answer z = ap (λ (x : Listing). x.answer) (sym (records_passed s base run buffer z (run_passed z)))

    -- it has no refusal only where the run has none
    accepted_by : (b : Bool) → eqb run.answer.refusal 0 ≡ b → answer.refusal ≡ 0 → run.answer.refusal ≡ 0
    accepted_by true e z = eqb-true _ _ e
    accepted_by false e z = sym (ap (λ (x : Listed). x.refusal) (refused_answer (λ h. false≢true (sym e ∙ eq-eqb _ _ h)))) ∙ z

    pub none_fits : NoneExactlyWhenFits s base run buffer
    none_fits g z =
        let y = accepted_by _ refl z in
        let told = held_answer y in
        let counted : answer.mistakes ≡ length found = ap (λ (x : Listed). x.mistakes) told ∙ held_counted tokens run buffer (ap (λ (x : Listed). x.refusal) (sym told) ∙ z) in
        let exactly = empty_fits g y in
        (λ h. exactly.0 (no_length found (sym counted ∙ h)), λ d. counted ∙ ap length (exactly.1 d))

    most_found : length found ≤ 5 * count s + 1
    most_found =
        let most = counts_within options document_entry s base events errors in
        omega (arith, (complete run).few, most.0, most.1)

    bounded_by : (b : Bool) → eqb run.answer.refusal 0 ≡ b → Bounded s base run buffer
    bounded_by true e =
        let told = held_answer (eqb-true _ _ e) in
        record {
          most = omega (arith, ap (λ (x : Listed). x.mistakes) told, held_most tokens run buffer, most_found);
          enough = λ room z.
              let short = held_short tokens run buffer (ap (λ (x : Listed). x.refusal) (sym told) ∙ z) in
              omega (arith, room, short, most_found);
        }
    bounded_by false e =
        let told = refused_answer (λ h. false≢true (sym e ∙ eq-eqb _ _ h)) in
        record {
          most = omega (arith, ap (λ (x : Listed). x.mistakes) told);
          enough = λ room z. omega (arith, ap (λ (x : Listed). x.refusal) told, z, refusal_most options document_entry s base events errors);
        }

    pub bounded : Bounded s base run buffer
    bounded = bounded_by _ refl
