-- What is read from records that were written is what was written. Proved; nothing here needs to be believed.
use Rattle.std.specs.Prelude.{◌≡◌, get_or}
use Rattle.std.proofs.Math.Path.{refl}
use Rattle.std.proofs.Common.{ap, ◌∙◌, get_or-append-add}
use mathlib.Core.List.{List, ◌∷◌, ◌++◌}
use Prim.Native.Nat.{ℕ, zero, suc, ◌+◌, ◌*◌, ◌/◌, ◌%◌, ◌<◌, ◌^◌}
use native.Mathlib.Omega.{arith}
use Rattle.token.specs.Records.{length_at, kind_number_at, kind_at}
use Rattle.token.specs.Tokens.{Tok, tok, tokens_from}
use Rattle.token.specs.Writing.{record_of}

-- a number of 32 bits is its four bytes
digits : (x : ℕ) → x < 2 ^ 32 → x % 256 + x / 256 % 256 * 256 + x / 65536 % 256 * 65536 + x / 16777216 % 256 * 16777216 ≡ x
digits x h =
    let a : x / 65536 ≡ x / 256 / 256 = omega arith in
    let b : x / 16777216 ≡ x / 65536 / 256 = omega arith in
    let e₀ : x % 256 + x / 256 * 256 ≡ x = omega arith in
    let e₁ : x / 256 % 256 + x / 65536 * 256 ≡ x / 256 = omega (arith, a) in
    let e₂ : x / 65536 % 256 + x / 16777216 * 256 ≡ x / 65536 = omega (arith, b) in
    let e₃ : x / 16777216 % 256 ≡ x / 16777216 = omega (arith, h) in
    sum (x % 256) (x / 256) (x / 65536) (x / 16777216) (x / 256 % 256) (x / 65536 % 256) (x / 16777216 % 256) x e₀ e₁ e₂ e₃
  where
    sum : (d₀ q₁ q₂ q₃ d₁ d₂ d₃ x : ℕ) → d₀ + q₁ * 256 ≡ x → d₁ + q₂ * 256 ≡ q₁ → d₂ + q₃ * 256 ≡ q₂ → d₃ ≡ q₃ → d₀ + d₁ * 256 + d₂ * 65536 + d₃ * 16777216 ≡ x
    sum d₀ q₁ q₂ q₃ d₁ d₂ d₃ x e₀ e₁ e₂ e₃ = omega arith

-- a record in front of others: itself, and the others behind it
module _ (l k : ℕ) (s : List ℕ) where
  pub first_length : l < 2 ^ 32 → length_at (record_of l k ++ s) 0 ≡ l
  unfolding length_at
  first_length h = digits l h

  pub first_kind_lem : k < 2 ^ 16 → kind_number_at (record_of l k ++ s) 0 ≡ k
  unfolding kind_number_at
  first_kind_lem h = omega arith

  skipped : (i j : ℕ) → get_or (record_of l k ++ s) (suc i * 6 + j) 0 ≡ get_or s (i * 6 + j) 0
  skipped i j = let e : suc i * 6 + j ≡ 6 + (i * 6 + j) = omega arith in ap (λ (n : ℕ). get_or (record_of l k ++ s) n 0) e ∙ get_or-append-add (record_of l k) s (i * 6 + j) 0

  starts : (i : ℕ) → get_or (record_of l k ++ s) (suc i * 6) 0 ≡ get_or s (i * 6) 0
  starts i = let e : suc i * 6 ≡ 6 + i * 6 = omega arith in ap (λ (n : ℕ). get_or (record_of l k ++ s) n 0) e ∙ get_or-append-add (record_of l k) s (i * 6) 0

  pub length_behind : (i : ℕ) → length_at (record_of l k ++ s) (suc i) ≡ length_at s i
  unfolding length_at
  length_behind i = omega (arith, starts i, skipped i 1, skipped i 2, skipped i 3)

  pub kind_behind : (i : ℕ) → kind_number_at (record_of l k ++ s) (suc i) ≡ kind_number_at s i
  unfolding kind_number_at
  kind_behind i = omega (arith, skipped i 4, skipped i 5)

  pub tokens_behind : (m i p : ℕ) → tokens_from m (record_of l k ++ s) (suc i) p ≡ tokens_from m s i p
  unfolding tokens_from
  tokens_behind zero i p = refl
  tokens_behind (suc m) i p = rw (length_behind i, kind_behind i) (ap (λ (ts : List Tok). tok (kind_at s i) p (p + length_at s i) ∷ ts) (tokens_behind m (suc i) (p + length_at s i)))
