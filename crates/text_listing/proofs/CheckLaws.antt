-- From the joined entry's outcome to that of the check. Proved; nothing here needs to be believed.
use mathlib.Core.Path.{◌≡◌, refl, ap, ap₂, sym, ◌∙◌}
use mathlib.Core.Bool.{Bool, true, false, cond}
use mathlib.Core.List.{List}
use Prim.Native.Nat.{ℕ, ◌+◌, ◌*◌, ◌≤◌}
use native.Mathlib.Omega.{arith}
use lib.ListN.{length, take}
use lib.Dec.{eqb}
use borrow.Author.Tests.{eqb-true, eq-eqb, ne_eqb}
use Rattle.std.specs.Prelude.{Ok}
use Rattle.token.specs.Limits.{max_end}
use Rattle.token.specs.Tokens.{Tok, all_tokens}
use Rattle.token.specs.Check.{checked}
use Rattle.rules.specs.Answer.{Outcome}
use Rattle.fitting.specs.Premises.{document_run}
use Rattle.scan.specs.Lexer.{tokens_of}
use Rattle.lex.specs.Lexed.{LexOutcome, lex_outcome}
use Rattle.text_rules.specs.declared.answer.TextAnswer.{TextAnswer}
use Rattle.text_rules.specs.TextOutcome.{TextOutcome, records_left, reading_by, text_outcome, run_of, text_run}
use Rattle.text_rules.specs.LexedLaws.{lexed_room, lexed_few}
use Rattle.text_rules.specs.RunLaws.{run_is, tokens_are}
use Rattle.mistake_rules.specs.declared.answer.Listed.{Listed}
use Rattle.mistake_rules.specs.Outcome.{Listing, unlisted, listed, listed_held}
use Rattle.mistake_rules.specs.Promises.{mistakes_of}
use Rattle.mistake_rules.proofs.FitLaws.{run_passed, run_listed}
use Rattle.text_listing.specs.declared.TextCheck.{TextCheck}
use Rattle.text_listing.specs.Checking.{checking, checked_answer, read_and_listed, text_listing, check_outcome, ChecksText, CheckDetermined}

-- a text whose run was not refused
module _ (text records events errors : List ℕ) where
  abbrev lexed : LexOutcome
  lexed = lex_outcome text records

  -- the records that were read, and where they start
  abbrev pub bytes_of : List ℕ
  bytes_of = records_left lexed

  abbrev pub base_of : ℕ
  base_of = lexed.answer.base

  lexed_by : (b : Bool) → eqb lexed.answer.refusal 0 ≡ b → (reading_by checking b lexed events errors).answer.refusal ≡ 0 → lexed.answer.refusal ≡ 0
  lexed_by true q z = eqb-true _ _ q
  lexed_by false q z = z

  pub lexed_zero : (text_run checking text records events errors).answer.refusal ≡ 0 → lexed.answer.refusal ≡ 0
  unfolding text_outcome
  lexed_zero z = lexed_by (eqb lexed.answer.refusal 0) refl z

  module _ (z : (text_run checking text records events errors).answer.refusal ≡ 0) where
    pub run_of_lem : text_run checking text records events errors ≡ document_run checking bytes_of base_of events errors
    run_of_lem = run_is text records events errors lexed.answer lexed.buffer refl (lexed_zero z) checking

    pub zero_of : (document_run checking bytes_of base_of events errors).answer.refusal ≡ 0
    zero_of = ap (λ (o : Outcome). o.answer.refusal) (sym run_of_lem) ∙ z

    pub tokens_of_lem : all_tokens bytes_of base_of ≡ tokens_of text
    tokens_of_lem = tokens_are text records events errors lexed.answer lexed.buffer refl (lexed_zero z)

    pub passed_of : checked bytes_of base_of ≡ Ok tt
    passed_of = run_passed checking bytes_of base_of events errors zero_of

    -- its mistakes are listed as those of the records
    pub listed_of : (mistakes : List ℕ) → listed_held (all_tokens bytes_of base_of) (text_run checking text records events errors) mistakes ≡ listed (tokens_of text) (mistakes_of (text_run checking text records events errors)) mistakes
    listed_of mistakes =
        ap (λ (o : Outcome). listed_held (all_tokens bytes_of base_of) o mistakes) run_of_lem
        ∙ run_listed checking bytes_of base_of events errors mistakes zero_of
        ∙ ap₂ (λ (ts : List Tok) (o : Outcome). listed ts (mistakes_of o) mistakes) tokens_of_lem (sym run_of_lem)

-- what the joined entry answered, with the buffers after it
module _ (text records events errors mistakes : List ℕ) (r : TextAnswer) (recordsAfter eventsAfter errorsAfter : List ℕ)
    (e : record { answer = r; records = recordsAfter; events = eventsAfter; errors = errorsAfter } ≡ text_outcome checking text records events errors) where
  abbrev read : TextOutcome
  read = record { answer = r; records = recordsAfter; events = eventsAfter; errors = errorsAfter }

  as_listed_lem : (l : Listing) → l ≡ text_listing text read mistakes → read_and_listed read l ≡ check_outcome text records events errors mistakes
  unfolding check_outcome
  as_listed_lem l q = ap (read_and_listed read) q ∙ ap (λ (o : TextOutcome). read_and_listed o (text_listing text o mistakes)) e

  -- a run that was refused
  pub check_refused : (c : TextCheck) → (r.refusal ≡ 0 → ⊥) → c ≡ checked_answer r (record { refusal = r.refusal; place = r.place; mistakes = 0 })
      → ChecksText text records events errors mistakes recordsAfter eventsAfter errorsAfter mistakes c
  check_refused c h q =
      ap (λ (a : TextCheck). record { answer = a; records = recordsAfter; events = eventsAfter; errors = errorsAfter; mistakes = mistakes }) q
      ∙ as_listed_lem (unlisted r.refusal r.place mistakes) (ap (λ (b : Bool). cond b (listed (tokens_of text) (mistakes_of (run_of read)) mistakes) (unlisted r.refusal r.place mistakes)) (sym (ne_eqb _ 0 h)))

  -- or not
  module _ (z : r.refusal ≡ 0) where
    zero_is : (text_run checking text records events errors).answer.refusal ≡ 0
    zero_is = ap (λ (o : TextOutcome). o.answer.refusal) (sym e) ∙ z

    lex_is : (lex_outcome text records).answer.refusal ≡ 0
    lex_is = lexed_zero text records events errors zero_is

    count_is : r.records ≡ (lex_outcome text records).answer.records
    unfolding text_outcome
    count_is = ap (λ (o : TextOutcome). o.answer.records) e

    buffer_is : recordsAfter ≡ (lex_outcome text records).buffer
    unfolding text_outcome
    buffer_is = ap (λ (o : TextOutcome). o.records) e

    base_is : r.base ≡ (lex_outcome text records).answer.base
    unfolding text_outcome
    base_is = ap (λ (o : TextOutcome). o.answer.base) e

    bytes_are : take (6 * r.records) recordsAfter ≡ bytes_of text records events errors
    bytes_are = ap₂ (λ (n : ℕ) (b : List ℕ). take (6 * n) b) count_is buffer_is

    pub check_few : r.records ≤ max_end + 1
    check_few = omega (arith, count_is, lexed_few text records lex_is)

    pub check_room : 6 * r.records ≤ length recordsAfter
    check_room = omega (arith, count_is, ap length buffer_is, lexed_room text records lex_is)

    pub check_passes : checked (take (6 * r.records) recordsAfter) r.base ≡ Ok tt
    check_passes = ap₂ checked bytes_are base_is ∙ passed_of text records events errors zero_is

    listing_is : listed_held (all_tokens (take (6 * r.records) recordsAfter) r.base) (run_of read) mistakes ≡ text_listing text read mistakes
    listing_is =
        ap₂ (λ (b : List ℕ) (n : ℕ). listed_held (all_tokens b n) (run_of read) mistakes) bytes_are base_is
        ∙ ap (λ (o : TextOutcome). listed_held (all_tokens (bytes_of text records events errors) (base_of text records events errors)) (run_of o) mistakes) e
        ∙ listed_of text records events errors zero_is mistakes
        ∙ ap (λ (o : TextOutcome). listed (tokens_of text) (mistakes_of (run_of o)) mistakes) (sym e)
        ∙ ap (λ (b : Bool). cond b (listed (tokens_of text) (mistakes_of (run_of read)) mistakes) (unlisted r.refusal r.place mistakes)) (sym (eq-eqb _ 0 z))

    pub check_listed : (c : TextCheck) (l : Listed) (after : List ℕ) → c ≡ checked_answer r l
        → record { answer = l; buffer = after } ≡ listed_held (all_tokens (take (6 * r.records) recordsAfter) r.base) (run_of read) mistakes
        → ChecksText text records events errors mistakes recordsAfter eventsAfter errorsAfter after c
    check_listed c l after q p =
        ap (λ (a : TextCheck). record { answer = a; records = recordsAfter; events = eventsAfter; errors = errorsAfter; mistakes = after }) q
        ∙ as_listed_lem (record { answer = l; buffer = after }) (p ∙ listing_is)

pub determined : (text records events errors mistakes : List ℕ) → CheckDetermined text records events errors mistakes
determined text records events errors mistakes x y p q = p ∙ sym q
