-- The check of a text against the grammar, and how much room it needs. Proved; nothing here needs to be believed.
use mathlib.Core.Path.{◌≡◌, refl, ap, sym, subst, ◌∙◌}
use mathlib.Core.Bool.{Bool, true, false, cond, false≢true}
use mathlib.Core.Logic.{◌↔◌}
use mathlib.Core.List.{List, []}
use Prim.Native.Nat.{ℕ, ◌+◌, ◌*◌, ◌/◌, ◌≤◌, ◌<◌}
use native.Mathlib.Omega.{arith}
use lib.ListN.{length}
use lib.Dec.{eqb, ltb}
use borrow.Author.Tests.{eqb-true, eq-eqb, ltb-true, le-ltb}
use Rattle.token.specs.Limits.{max_records, max_end}
use Rattle.token.specs.CheckLaws.{checked_passes}
use Rattle.token.specs.CursorLaws.{all_length}
use Rattle.rules.specs.Limits.{max_depth}
use Rattle.rules.specs.Entries.{document_entry}
use Rattle.rules.specs.Answer.{error_size, Outcome}
use Rattle.bounds.proofs.CountLaws.{refusal_most}
use Rattle.fitting.specs.Grammar.{FitsWithin}
use Rattle.fitting.proofs.KeyWords.{single_line_iff}
use Rattle.fitting.proofs.OutcomeTheorems.{roomy_fits_quiet}
use Rattle.scan.specs.Lexer.{tokens_of}
use Rattle.utf8_sequences.specs.Utf8.{valid_up_to}
use Rattle.lex.specs.Lexed.{LexOutcome, lex_outcome, refused, lexed}
use Rattle.text_rules.specs.TextOutcome.{reading_by, text_outcome, text_run}
use Rattle.text_rules.specs.TextPremises.{WithinLimits, RecordRoom}
use Rattle.text_rules.specs.LexedLaws.{accepted, lexed_when}
use Rattle.text_rules.specs.RunLaws.{run_is, tokens_are, regular_are, few_pass}
use Rattle.text_rules.proofs.TextBounds.{text_counts_within, text_room_records, text_room_events, text_room_errors}
use Rattle.text_steps.specs.TextVerdicts.{SoundText, EventRoom}
use Rattle.mistake_rules.specs.declared.answer.Listed.{Listed}
use Rattle.mistake_rules.specs.Outcome.{no_room_for_mistakes, unlisted, listed}
use Rattle.mistake_rules.specs.Promises.{mistakes_of}
use Rattle.mistake_rules.proofs.CompleteLaws.{complete}
use Rattle.mistake_rules.proofs.FitLaws.{no_length, empty_fits}
use Rattle.text_listing.specs.Checking.{checking, text_listing, check_outcome}
use Rattle.text_listing.specs.TextPromises.{check_of, Decides, Roomy}
use Rattle.text_listing.proofs.CheckLaws.{bytes_of, base_of, lexed_zero, run_of_lem, zero_of, tokens_of_lem, passed_of}

module _ (text records events errors mistakes : List ℕ) where
  abbrev run : Outcome
  run = text_run checking text records events errors

  abbrev told : Listed
  told = (text_listing text (text_outcome checking text records events errors) mistakes).answer

  -- refusal and mistakes are the listing's
  refusal_is : (check_of text records events errors mistakes).refusal ≡ told.refusal
  unfolding check_outcome
  refusal_is = refl

  mistakes_are : (check_of text records events errors mistakes).mistakes ≡ told.mistakes
  unfolding check_outcome
  mistakes_are = refl

  abbrev short : Bool
  short = ltb (length mistakes / error_size) (length (mistakes_of run))

  abbrev told_by : Bool → Listed
  told_by b = (cond b (listed (tokens_of text) (mistakes_of run) mistakes) (unlisted run.answer.refusal run.answer.place mistakes)).answer

  -- by whether the run was refused
  told_listed : run.answer.refusal ≡ 0 → told ≡ record { refusal = cond short no_room_for_mistakes 0; place = 0; mistakes = length (mistakes_of run) }
  told_listed z = ap told_by (eq-eqb _ 0 z)

  told_refused : (run.answer.refusal ≡ 0 → ⊥) → told ≡ record { refusal = run.answer.refusal; place = run.answer.place; mistakes = 0 }
  told_refused h = ap told_by (by (eqb run.answer.refusal 0) refl)
    where
      by : (b : Bool) → eqb run.answer.refusal 0 ≡ b → eqb run.answer.refusal 0 ≡ false
      by true q = absurd (h (eqb-true _ _ q))
      by false q = q

  run_zero_by : (b : Bool) → eqb run.answer.refusal 0 ≡ b → told.refusal ≡ 0 → run.answer.refusal ≡ 0
  run_zero_by true q z = eqb-true _ _ q
  run_zero_by false q z = sym (ap (λ (x : Listed). x.refusal) (told_refused (λ h. false≢true (sym q ∙ eq-eqb _ _ h)))) ∙ z

  run_zero : told.refusal ≡ 0 → run.answer.refusal ≡ 0
  run_zero = run_zero_by (eqb run.answer.refusal 0) refl

  -- what was read was within the limits
  within_of : run.answer.refusal ≡ 0 → WithinLimits text
  within_of z =
      let a = accepted text records (lexed_zero text records events errors z) in
      let few : length (tokens_of text) ≤ max_records =
      omega (arith, ap length (tokens_of_lem text records events errors z), all_length (bytes_of text records events errors) (base_of text records events errors), (checked_passes _ _ (passed_of text records events errors z)).few) in
      record { short = a.short; formed = a.formed; few = few }

  -- no mistake exactly when it fits
  empty_of : run.answer.refusal ≡ 0 → (mistakes_of run ≡ []) ↔ FitsWithin max_depth (tokens_of text)
  empty_of z =
      let tokens = tokens_of_lem text records events errors z in
      let same = run_of_lem text records events errors z in
      let regular = regular_are text records events errors (lex_outcome text records).answer (lex_outcome text records).buffer refl (lexed_zero text records events errors z) in
      let exactly = empty_fits checking (bytes_of text records events errors) (base_of text records events errors) events errors regular (zero_of text records events errors z) in (
        λ h. subst (FitsWithin max_depth) tokens (exactly.0 (ap mistakes_of (sym same) ∙ h)),
        λ d. ap mistakes_of same ∙ exactly.1 (subst (FitsWithin max_depth) (sym tokens) d),
      )

  judged_zero : run.answer.refusal ≡ 0 → (told.mistakes ≡ 0) ↔ SoundText text
  judged_zero z =
      let counted = ap (λ (x : Listed). x.mistakes) (told_listed z) in (
        λ h. record { within = within_of z; fitting = (empty_of z).0 (no_length (mistakes_of run) (sym counted ∙ h)) },
        λ s. counted ∙ ap length ((empty_of z).1 s.fitting),
      )

  -- a sound text with room is read
  sound_zero : RecordRoom text records → EventRoom text events → SoundText text → run.answer.refusal ≡ 0
  sound_zero room more s =
      let lexes : (lex_outcome text records).answer.refusal ≡ 0 = ap (λ (x : LexOutcome). x.answer.refusal) (lexed_when text records s.within.short s.within.formed room) in
      let out = lex_outcome text records in
      let tokens = tokens_are text records events errors out.answer out.buffer refl lexes in
      let same = run_is text records events errors out.answer out.buffer refl lexes checking in
      let quiet =
      roomy_fits_quiet checking (bytes_of text records events errors) (base_of text records events errors) events errors
      (single_line_iff checking document_entry (bytes_of text records events errors) (base_of text records events errors) events errors)
      (few_pass text records events errors out.answer out.buffer refl lexes s.within.few)
      (regular_are text records events errors out.answer out.buffer refl lexes)
      (omega (arith, ap length tokens, more))
      (subst (FitsWithin max_depth) (sym tokens) s.fitting) in
      ap (λ (o : Outcome). o.answer.refusal) same ∙ quiet.0.accepted

  -- then nothing is refused
  sound_told : run.answer.refusal ≡ 0 → SoundText text → told.refusal ≡ 0
  sound_told z s =
      let none : length (mistakes_of run) ≡ 0 = ap length ((empty_of z).1 s.fitting) in
      let fits : short ≡ false = le-ltb (length mistakes / error_size) (length (mistakes_of run)) (omega (arith, none)) in
      ap (λ (x : Listed). x.refusal) (told_listed z) ∙ ap (λ (b : Bool). cond b no_room_for_mistakes 0) fits

  pub decides : Decides text records events errors mistakes
  decides =
      record {
        judged = λ z.
            let x = judged_zero (run_zero (sym refusal_is ∙ z)) in
            (λ h. x.0 (sym mistakes_are ∙ h), λ s. mistakes_are ∙ x.1 s);
        exactly = λ room more. (
          λ x. (judged_zero (run_zero (sym refusal_is ∙ x.0))).0 (sym mistakes_are ∙ x.1),
          λ s.
              let z = sound_zero room more s in
              (refusal_is ∙ sound_told z s, mistakes_are ∙ (judged_zero z).1 s),
        );
      }

  most_found : length (mistakes_of run) ≤ 5 * length text + 6
  most_found =
      let most = text_counts_within checking text records events errors in
      omega (arith, (complete run).few, most.0, most.1)

  -- a run's refusal is at most 11
  lexed_by : (t u v : Bool) (m n : ℕ) → (cond t (refused 9 max_end 0 records) (cond u (refused 10 m 0 records) (cond v (refused 11 0 n records) (lexed text records)))).answer.refusal ≤ 11
  lexed_by true u v m n = omega arith
  lexed_by false true v m n = omega arith
  lexed_by false false true m n = omega arith
  lexed_by false false false m n = omega arith

  lexed_low : (lex_outcome text records).answer.refusal ≤ 11
  unfolding lex_outcome
  lexed_low = lexed_by (ltb max_end (length text)) (ltb (valid_up_to text) (length text)) (ltb (length records / 6) (length (tokens_of text))) (valid_up_to text) (length (tokens_of text))

  run_low_by : (b : Bool) → (reading_by checking b (lex_outcome text records) events errors).answer.refusal ≤ 11
  run_low_by true = let low = refusal_most checking document_entry (bytes_of text records events errors) (base_of text records events errors) events errors in omega (arith, low)
  run_low_by false = lexed_low

  run_low : run.answer.refusal ≤ 11
  unfolding text_outcome
  run_low = run_low_by (eqb (lex_outcome text records).answer.refusal 0)

  -- a refusal of the check is the run's, or 14
  pub record Tells : Type 0 where
    pub most : told.mistakes ≤ 5 * length text + 6
    pub own : (n : ℕ) → 1 ≤ n → n ≤ 13 → told.refusal ≡ n → run.answer.refusal ≡ n
    pub short : told.refusal ≡ no_room_for_mistakes → length mistakes / error_size < 5 * length text + 6

  none_own : (b : Bool) (n : ℕ) → 1 ≤ n → n ≤ 13 → cond b no_room_for_mistakes 0 ≡ n → ⊥
  none_own true n h g e = omega (arith, h, g, e)
  none_own false n h g e = omega (arith, h, g, e)

  short_by : (b : Bool) → cond b no_room_for_mistakes 0 ≡ no_room_for_mistakes → b ≡ true
  short_by true e = refl
  short_by false e = absurd (omega (arith, e))

  tells_by : (b : Bool) → eqb run.answer.refusal 0 ≡ b → Tells
  tells_by true q =
      let e = told_listed (eqb-true _ _ q) in
      let refusal = ap (λ (x : Listed). x.refusal) e in
      record {
        most = omega (arith, ap (λ (x : Listed). x.mistakes) e, most_found);
        own = λ n h g z. absurd (none_own short n h g (sym refusal ∙ z));
        short = λ z. let l : length mistakes / error_size < length (mistakes_of run) = ltb-true _ _ (short_by short (sym refusal ∙ z)) in omega (arith, l, most_found);
      }
  tells_by false q =
      let e = told_refused (λ h. false≢true (sym q ∙ eq-eqb _ _ h)) in
      let refusal = ap (λ (x : Listed). x.refusal) e in
      record {
        most = omega (arith, ap (λ (x : Listed). x.mistakes) e);
        own = λ n h g z. sym refusal ∙ z;
        short = λ z. absurd (omega (arith, refusal, z, run_low));
      }

  pub roomy : Roomy text records events errors mistakes
  roomy =
      let x = tells_by (eqb run.answer.refusal 0) refl in
      record {
        most = omega (arith, mistakes_are, x.most);
        eleven_never = λ room z. text_room_records checking text records events errors room (x.own 11 (omega arith) (omega arith) (sym refusal_is ∙ z));
        seven_never = λ room z. text_room_events checking text records events errors room (x.own 7 (omega arith) (omega arith) (sym refusal_is ∙ z));
        eight_never = λ room z. text_room_errors checking text records events errors room (x.own 8 (omega arith) (omega arith) (sym refusal_is ∙ z));
        fourteen_never = λ room z. let l = x.short (sym refusal_is ∙ z) in omega (arith, room, l);
      }
