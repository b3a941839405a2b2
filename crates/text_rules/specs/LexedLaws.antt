-- What a text that the lexer did not refuse is: its records stand first in the buffer, are read as its tokens, and pass the check unless they
-- are too many. Proved; nothing here needs to be believed.
use Rattle.std.specs.Prelude.{◌≡◌, refl, Bool, true, false, cond, List, [], ◌∷◌, ◌++◌, ℕ, zero, suc, ◌+◌, ◌*◌, ◌/◌, ◌%◌, ◌<◌, ◌≤◌, take, drop, ltb, Ok}
use Rattle.std.proofs.Common.{ap, ◌∙◌, arith, length-append, take_at}
use Rattle.std.proofs.Math.ListN.{length}
use borrow.Author.Tests.{ltb-false, lt-ltb, le-ltb, eq-eqb}
use Rattle.token.specs.declared.refusal.Refusal.{Refusal}
use Rattle.token.specs.Limits.{max_records, max_end}
use Rattle.token.specs.Records.{count}
use Rattle.token.specs.Tokens.{all_tokens}
use Rattle.token.specs.Check.{checked, refused_for}
use Rattle.token.specs.Writing.{records_of}
use Rattle.token.specs.WritingLaws.{records_length}
use Rattle.utf8_sequences.specs.Utf8.{table, sequence_of, behind_first, valid_from, valid_up_to}
use Rattle.scan.specs.Lexer.{tokens_of, base_of}
use Rattle.lex.specs.Lexed.{LexOutcome, lex_outcome, refused, lexed}
use Rattle.lex.specs.TextLaws.{text_few, text_read, text_passes}
use Rattle.text_rules.specs.TextOutcome.{records_left}

-- no more bytes are valid than there are
behind_within : (n k : ℕ) (on : ℕ → ℕ) → ((m : ℕ) → on m ≤ k) → behind_first n on ≤ suc k
behind_within zero k on h = omega arith
behind_within (suc n) k on h = omega (arith, h n)

valid_within : (inside : ℕ) (bs : List ℕ) → valid_from inside bs ≤ length bs
unfolding valid_from
valid_within zero [] = omega arith
valid_within (suc n) [] = omega arith
valid_within (suc n) (b ∷ bs) = omega (arith, valid_within n bs)
valid_within zero (b ∷ bs) = behind_within (sequence_of table (b ∷ bs)) (length bs) (λ n. valid_from n bs) (λ n. valid_within n bs)

-- the three tests say no
pub record Accepted (text records : List ℕ) : Type 0 where
  pub short : length text ≤ max_end
  pub formed : valid_up_to text ≡ length text
  pub room : length (tokens_of text) ≤ length records / 6
  pub is : lex_outcome text records ≡ lexed text records

tested : (t u v : Bool) (text records : List ℕ) (m n : ℕ)
    → (cond t (refused 9 max_end 0 records) (cond u (refused 10 m 0 records) (cond v (refused 11 0 n records) (lexed text records)))).answer.refusal ≡ 0
    → (t ≡ false) × (u ≡ false) × (v ≡ false)
tested true u v text records m n e = absurd (omega (arith, e))
tested false true v text records m n e = absurd (omega (arith, e))
tested false false true text records m n e = absurd (omega (arith, e))
tested false false false text records m n e = (refl, refl, refl)

pub accepted : (text records : List ℕ) → (lex_outcome text records).answer.refusal ≡ 0 → Accepted text records
unfolding lex_outcome
accepted text records e =
    let x = tested (ltb max_end (length text)) (ltb (valid_up_to text) (length text)) (ltb (length records / 6) (length (tokens_of text))) text records (valid_up_to text) (length (tokens_of text)) e in
    let whole : length text ≤ valid_up_to text = ltb-false _ _ x.1 in
    record { short = ltb-false _ _ x.0; formed = omega (arith, whole, valid_within 0 text); room = ltb-false _ _ x.2; is = rw (x.0, x.1, x.2) }

-- and where they do, the text is lexed
pub lexed_when : (text records : List ℕ) → length text ≤ max_end → valid_up_to text ≡ length text → length (tokens_of text) ≤ length records / 6 → lex_outcome text records ≡ lexed text records
unfolding lex_outcome
lexed_when text records short formed room =
    let whole : length text ≤ valid_up_to text = omega (arith, formed) in
    rw (le-ltb _ _ short, le-ltb _ _ whole, le-ltb _ _ room)

-- of the outcome of a text that was lexed
module _ (text records : List ℕ) (z : (lex_outcome text records).answer.refusal ≡ 0) where
  is_lexed : lex_outcome text records ≡ lexed text records
  is_lexed = (accepted text records z).is

  pub lexed_count : (lex_outcome text records).answer.records ≡ length (tokens_of text)
  lexed_count = ap (λ (o : LexOutcome). o.answer.records) is_lexed

  pub lexed_base : (lex_outcome text records).answer.base ≡ base_of text
  lexed_base = ap (λ (o : LexOutcome). o.answer.base) is_lexed

  lexed_buffer : (lex_outcome text records).buffer ≡ records_of (tokens_of text) ++ drop (6 * length (tokens_of text)) records
  lexed_buffer = ap (λ (o : LexOutcome). o.buffer) is_lexed

  pub lexed_records : records_left (lex_outcome text records) ≡ records_of (tokens_of text)
  lexed_records =
      let size : length (records_of (tokens_of text)) ≡ 6 * (lex_outcome text records).answer.records = omega (arith, records_length (tokens_of text), lexed_count) in
      ap (take (6 * (lex_outcome text records).answer.records)) lexed_buffer ∙ take_at (records_of (tokens_of text)) _ _ size

  pub lexed_room : 6 * (lex_outcome text records).answer.records ≤ length (lex_outcome text records).buffer
  lexed_room =
      omega (arith, ap length lexed_buffer, length-append (records_of (tokens_of text)) (drop (6 * length (tokens_of text)) records), records_length (tokens_of text), lexed_count)

  -- there are at most as many as bytes, and one more
  pub lexed_few : (lex_outcome text records).answer.records ≤ max_end + 1
  lexed_few = omega (arith, lexed_count, (accepted text records z).short, text_few text)

  pub lexed_tokens : all_tokens (records_left (lex_outcome text records)) (lex_outcome text records).answer.base ≡ tokens_of text
  lexed_tokens = rw (lexed_records, lexed_base) (text_read text (accepted text records z).short)

  pub lexed_passes : (lex_outcome text records).answer.records ≤ max_records → checked (records_left (lex_outcome text records)) (lex_outcome text records).answer.base ≡ Ok tt
  lexed_passes few = rw (lexed_records, lexed_base) (text_passes text (accepted text records z).short (omega (arith, few, lexed_count)))

  pub lexed_many : max_records < (lex_outcome text records).answer.records → checked (records_left (lex_outcome text records)) (lex_outcome text records).answer.base ≡ refused_for Refusal.Records max_records
  unfolding checked
  lexed_many many =
      let whole : length (records_of (tokens_of text)) % 6 ≡ 0 = omega (arith, records_length (tokens_of text)) in
      let beyond : max_records < count (records_of (tokens_of text)) = omega (arith, records_length (tokens_of text), many, lexed_count) in
      rw lexed_records (rw (eq-eqb _ _ whole, lt-ltb _ _ beyond))
