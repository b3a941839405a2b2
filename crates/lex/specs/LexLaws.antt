-- Laws of `lex`: what each way out leaves. Proved; nothing here needs to be believed.
use Rattle.std.specs.Prelude.{◌≡◌, Bool, true, false, cond, ℕ, ◌*◌, ◌/◌, ◌<◌, ◌≤◌, ltb}
use Rattle.std.proofs.Math.Path.{refl, ap}
use Rattle.std.proofs.Common.{sym, ◌∙◌, arith}
use mathlib.Core.List.{List, ◌++◌}
use Rattle.std.proofs.Math.ListN.{length, drop}
use borrow.Author.Tests.{lt-ltb, le-ltb, ltb-true, ltb-false}
use Rattle.token.specs.Limits.{max_end}
use Rattle.token.specs.Tokens.{Tok}
use Rattle.token.specs.Writing.{records_of}
use Rattle.utf8_sequences.specs.Utf8.{valid_up_to}
use Rattle.scan.specs.Lexer.{tokens_from, tokens_of, base_of}
use Rattle.scan.specs.LexerLaws.{lexer_some}
use Rattle.lex.specs.Refusals.{text_too_long, not_utf8, no_room_for_tokens}
use Rattle.lex.specs.Lexed.{refused, lex_outcome}

-- how many there are, if that is more than the room
module _ (room total n : ℕ) (e : n ≡ total) where
  pub beyond_many : room < n → n ≡ cond (ltb room total) total 0
  beyond_many h = e ∙ sym (rw (lt-ltb room total (omega (arith, e, h))))

pub beyond_few : (room total : ℕ) → total ≤ room → 0 ≡ cond (ltb room total) total 0
beyond_few room total h = sym (rw (le-ltb room total h))

-- the ways out
module _ (s l : List ℕ) where
  pub too_long : max_end < length s → lex_outcome s l ≡ refused text_too_long max_end 0 l
  unfolding lex_outcome
  too_long h = rw (lt-ltb max_end (length s) h)

  module _ (h : length s ≤ max_end) where
    pub not_utf8_lem : (n : ℕ) → n ≡ valid_up_to s → n < length s → lex_outcome s l ≡ refused not_utf8 n 0 l
    unfolding lex_outcome
    not_utf8_lem n e v = rw (le-ltb max_end (length s) h, lt-ltb (valid_up_to s) (length s) (omega (arith, e, v)), e)

    module _ (n : ℕ) (e : n ≡ valid_up_to s) (v : length s ≤ n) (base : ℕ) (b : base ≡ base_of s) where
      tokens_is : tokens_from s base ≡ tokens_of s
      unfolding tokens_of
      tokens_is = rw b

      abbrev Beyond : ℕ → Type 0
      Beyond m = m ≡ cond (ltb (length l / 6) (length (tokens_from s base))) (length (tokens_from s base)) 0

      some_tokens : 0 < length (tokens_from s base)
      some_tokens = lexer_some 0 base (drop base s)

      no_room_by : (m : ℕ) → Beyond m → 0 < m → (t : Bool) → ltb (length l / 6) (length (tokens_from s base)) ≡ t → (length l / 6 < length (tokens_from s base)) × (m ≡ length (tokens_from s base))
      no_room_by m q p true r = (ltb-true _ _ r, q ∙ rw r)
      no_room_by m q p false r = let z : m ≡ 0 = q ∙ rw r in absurd (omega (arith, z, p))

      pub no_room : (m : ℕ) → Beyond m → 0 < m → lex_outcome s l ≡ refused no_room_for_tokens 0 m l
      unfolding lex_outcome
      no_room m q p =
          let r = no_room_by m q p (ltb (length l / 6) (length (tokens_from s base))) refl in
          let k = ap length tokens_is in
          rw (le-ltb max_end (length s) h, le-ltb (valid_up_to s) (length s) (omega (arith, e, v)), lt-ltb (length l / 6) (length (tokens_of s)) (omega (arith, r.0, k)), r.1 ∙ k)

      with_room_by : (m : ℕ) → Beyond m → m ≤ 0 → (t : Bool) → ltb (length l / 6) (length (tokens_from s base)) ≡ t → length (tokens_from s base) ≤ length l / 6
      with_room_by m q p true r = let z : m ≡ length (tokens_from s base) = q ∙ rw r in absurd (omega (arith, z, p, some_tokens))
      with_room_by m q p false r = ltb-false _ _ r

      pub with_room : (m : ℕ) → Beyond m → m ≤ 0 → 6 * length (tokens_from s base) ≤ length l
      with_room m q p = let z = with_room_by m q p (ltb (length l / 6) (length (tokens_from s base))) refl in omega (arith, z)

      pub all_lexed : (m : ℕ) → Beyond m → m ≤ 0 → (k : ℕ) (l' : List ℕ) → k ≡ length (tokens_from s base) → l' ≡ records_of (tokens_from s base) ++ drop (6 * length (tokens_from s base)) l
          → record { answer = record { refusal = 0; place = 0; base = base; records = k }; buffer = l' } ≡ lex_outcome s l
      unfolding lex_outcome
      all_lexed m q p k l' i j =
          let z = with_room_by m q p (ltb (length l / 6) (length (tokens_from s base))) refl in
          let y = ap length tokens_is in
          rw (le-ltb max_end (length s) h, le-ltb (valid_up_to s) (length s) (omega (arith, e, v)), le-ltb (length l / 6) (length (tokens_of s)) (omega (arith, z, y)), i ∙ y, j ∙ ap (λ (ts : List Tok). records_of ts ++ drop (6 * length ts) l) tokens_is, b)
