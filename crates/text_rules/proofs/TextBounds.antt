-- A text of m bytes has at most m + 1 tokens; so its counts are at most the most of a document of m + 1 records, and with room for it no refusal
-- comes for want of room. Proved; nothing here needs to be believed.
use mathlib.Core.Path.{◌≡◌, refl, ap, sym, ◌∙◌}
use mathlib.Core.Bool.{Bool, true, false, cond}
use mathlib.Core.List.{List}
use Prim.Native.Nat.{ℕ, ◌+◌, ◌*◌, ◌/◌, ◌≤◌}
use native.Mathlib.Nat.{le_trans}
use native.Mathlib.Omega.{arith}
use lib.ListN.{length}
use lib.Dec.{eqb, ltb}
use borrow.Author.Tests.{eqb-true, le-ltb}
use Rattle.token.specs.Limits.{max_end}
use Rattle.token.specs.Records.{count}
use Rattle.token.specs.WritingLaws.{records_length}
use Rattle.rules.specs.Entries.{document_entry}
use Rattle.rules.specs.declared.options.Options.{Options}
use Rattle.rules.specs.Answer.{event_size, error_size}
use Rattle.bounds.specs.Most.{most_events, most_errors}
use Rattle.bounds.proofs.Bounds.{three_events, two_errors, more_events, more_errors}
use Rattle.bounds.proofs.CountLaws.{counts_most, room_events, room_errors, refusal_most}
use Rattle.utf8_sequences.specs.Utf8.{valid_up_to}
use Rattle.scan.specs.Lexer.{tokens_of}
use Rattle.lex.specs.Lexed.{lex_outcome, refused, lexed}
use Rattle.lex.specs.TextLaws.{text_few}
use Rattle.text_rules.specs.TextOutcome.{records_left, reading_by, text_outcome}
use Rattle.text_rules.specs.LexedLaws.{lexed_records}

-- a text's own refusals are 9, 10 and 11
by_tests : (t u v : Bool) (text records : List ℕ) (m n : ℕ) → (r : ℕ) → 1 ≤ r → r ≤ 8 → (cond t (refused 9 max_end 0 records) (cond u (refused 10 m 0 records) (cond v (refused 11 0 n records) (lexed text records)))).answer.refusal ≡ r → ⊥
by_tests true u v text records m n r h k e = omega (arith, h, k, e)
by_tests false true v text records m n r h k e = omega (arith, h, k, e)
by_tests false false true text records m n r h k e = omega (arith, h, k, e)
by_tests false false false text records m n r h k e = omega (arith, h, k, e)

-- and 11 comes only where the tokens do not fit
by_room : (t u : Bool) (text records : List ℕ) (m n : ℕ) → (cond t (refused 9 max_end 0 records) (cond u (refused 10 m 0 records) (cond false (refused 11 0 n records) (lexed text records)))).answer.refusal ≡ 11 → ⊥
by_room true u text records m n e = omega (arith, e)
by_room false true text records m n e = omega (arith, e)
by_room false false text records m n e = omega (arith, e)

module _ (options : Options) (text records events errors : List ℕ) where
  lexed_own : (r : ℕ) → 1 ≤ r → r ≤ 8 → (lex_outcome text records).answer.refusal ≡ r → ⊥
  unfolding lex_outcome
  lexed_own r h k e = by_tests (ltb max_end (length text)) (ltb (valid_up_to text) (length text)) (ltb (length records / 6) (length (tokens_of text))) text records (valid_up_to text) (length (tokens_of text)) r h k e

  lexed_roomy : length text + 1 ≤ length records / 6 → (lex_outcome text records).answer.refusal ≡ 11 → ⊥
  unfolding lex_outcome
  lexed_roomy h e =
      let few : length (tokens_of text) ≤ length records / 6 = omega (arith, h, text_few text) in
      let fits : ltb (length records / 6) (length (tokens_of text)) ≡ false = le-ltb _ _ few in
      by_room (ltb max_end (length text)) (ltb (valid_up_to text) (length text)) text records (valid_up_to text) (length (tokens_of text))
      (sym (ap (λ (v : Bool). (cond (ltb max_end (length text)) (refused 9 max_end 0 records) (cond (ltb (valid_up_to text) (length text)) (refused 10 (valid_up_to text) 0 records) (cond v (refused 11 0 (length (tokens_of text)) records) (lexed text records)))).answer.refusal) fits) ∙ e)

  -- the records of a text that was lexed
  records_few : (lex_outcome text records).answer.refusal ≡ 0 → count (records_left (lex_outcome text records)) ≤ length text + 1
  records_few z = omega (arith, ap length (lexed_records text records z), records_length (tokens_of text), text_few text)

  abbrev run : Bool → ℕ × ℕ × ℕ
  run b = ((reading_by options b (lex_outcome text records) events errors).answer.events, (reading_by options b (lex_outcome text records) events errors).answer.errors, (reading_by options b (lex_outcome text records) events errors).answer.refusal)

  by_reading : (b : Bool) → eqb (lex_outcome text records).answer.refusal 0 ≡ b → ((run b).0 ≤ most_events document_entry (length text + 1)) × ((run b).1 ≤ most_errors document_entry (length text + 1))
  by_reading true q =
      let few = records_few (eqb-true _ _ q) in
      let most = counts_most options document_entry (records_left (lex_outcome text records)) (lex_outcome text records).answer.base events errors in
      (le_trans most.0 (more_events (count (records_left (lex_outcome text records))) (length text + 1) few), le_trans most.1 (more_errors (count (records_left (lex_outcome text records))) (length text + 1) few))
  by_reading false q = (omega arith, omega arith)

  pub text_counts_most : ((text_outcome options text records events errors).answer.events ≤ most_events document_entry (length text + 1)) × ((text_outcome options text records events errors).answer.errors ≤ most_errors document_entry (length text + 1))
  unfolding text_outcome
  text_counts_most = by_reading (eqb (lex_outcome text records).answer.refusal 0) refl

  pub text_counts_within : ((text_outcome options text records events errors).answer.events ≤ 3 * length text + 3) × ((text_outcome options text records events errors).answer.errors ≤ 2 * length text + 3)
  text_counts_within = (omega (arith, text_counts_most.0, three_events document_entry (length text + 1)), omega (arith, text_counts_most.1, two_errors document_entry (length text + 1)))

  seven_by : (b : Bool) → eqb (lex_outcome text records).answer.refusal 0 ≡ b → most_events document_entry (length text + 1) ≤ length events / event_size → (run b).2 ≡ 7 → ⊥
  seven_by true q h e =
      room_events options document_entry (records_left (lex_outcome text records)) (lex_outcome text records).answer.base events errors
      (le_trans (more_events (count (records_left (lex_outcome text records))) (length text + 1) (records_few (eqb-true _ _ q))) h) e
  seven_by false q h e = lexed_own 7 (omega arith) (omega arith) e

  eight_by : (b : Bool) → eqb (lex_outcome text records).answer.refusal 0 ≡ b → most_errors document_entry (length text + 1) ≤ length errors / error_size → (run b).2 ≡ 8 → ⊥
  eight_by true q h e =
      room_errors options document_entry (records_left (lex_outcome text records)) (lex_outcome text records).answer.base events errors
      (le_trans (more_errors (count (records_left (lex_outcome text records))) (length text + 1) (records_few (eqb-true _ _ q))) h) e
  eight_by false q h e = lexed_own 8 (omega arith) (omega arith) e

  eleven_by : (b : Bool) → length text + 1 ≤ length records / 6 → (run b).2 ≡ 11 → ⊥
  eleven_by true h e = omega (arith, e, refusal_most options document_entry (records_left (lex_outcome text records)) (lex_outcome text records).answer.base events errors)
  eleven_by false h e = lexed_roomy h e

  pub text_room_events : most_events document_entry (length text + 1) ≤ length events / event_size → (text_outcome options text records events errors).answer.refusal ≡ 7 → ⊥
  unfolding text_outcome
  text_room_events = seven_by (eqb (lex_outcome text records).answer.refusal 0) refl

  pub text_room_errors : most_errors document_entry (length text + 1) ≤ length errors / error_size → (text_outcome options text records events errors).answer.refusal ≡ 8 → ⊥
  unfolding text_outcome
  text_room_errors = eight_by (eqb (lex_outcome text records).answer.refusal 0) refl

  pub text_room_records : length text + 1 ≤ length records / 6 → (text_outcome options text records events errors).answer.refusal ≡ 11 → ⊥
  unfolding text_outcome
  text_room_records = eleven_by (eqb (lex_outcome text records).answer.refusal 0)
