-- A list of tokens is regular exactly when one pass over the kinds of its records says so. Proved; nothing here needs to be believed.
use mathlib.Core.Path.{◌≡◌, refl, ap, sym, subst, ◌∙◌}
use mathlib.Core.Bool.{Bool, true, false, cond, false≢true}
use mathlib.Core.Logic.{◌↔◌}
use mathlib.Core.List.{List, [], ◌∷◌}
use Prim.Native.Nat.{ℕ, zero, suc, ◌+◌, ◌-◌, ◌<◌, ◌≤◌}
use native.Mathlib.Omega.{arith}
use native.Mathlib.Numerals.{add-one}
use lib.Dec.{eqb}
use borrow.Author.Tests.{eq-eqb, ne_eqb, eqb-true, eqb-false}
use Rattle.token.specs.declared.kind.Kind.{Kind}
use Rattle.token.specs.declared.kind.Kind.TheVariants.{Dot, Equals, Comma, LeftSquareBracket, RightSquareBracket, LeftCurlyBracket, RightCurlyBracket, Whitespace, Comment, Newline, LiteralString, BasicString, MlLiteralString, MlBasicString, Atom, Eof}
use Rattle.token.specs.Records.{count, length_at, kind_at}
use Rattle.token.specs.Tokens.{Tok, tok, tokens_from, all_tokens}
use Rattle.fitting.specs.Premises.{OneEofLast, only_eof, before_eof, NoAdjacentWhitespace, no_token, one_token, not_both, Regular}
use Rattle.regular.specs.Regular.{both, is_whitespace, is_eof}

-- a kind is known by its test
eof_known : (k : Kind) → is_eof k ≡ true → k ≡ Eof
eof_known Dot e = absurd (false≢true e)
eof_known Equals e = absurd (false≢true e)
eof_known Comma e = absurd (false≢true e)
eof_known LeftSquareBracket e = absurd (false≢true e)
eof_known RightSquareBracket e = absurd (false≢true e)
eof_known LeftCurlyBracket e = absurd (false≢true e)
eof_known RightCurlyBracket e = absurd (false≢true e)
eof_known Whitespace e = absurd (false≢true e)
eof_known Comment e = absurd (false≢true e)
eof_known Newline e = absurd (false≢true e)
eof_known LiteralString e = absurd (false≢true e)
eof_known BasicString e = absurd (false≢true e)
eof_known MlLiteralString e = absurd (false≢true e)
eof_known MlBasicString e = absurd (false≢true e)
eof_known Atom e = absurd (false≢true e)
eof_known Eof e = refl

whitespace_known : (k : Kind) → is_whitespace k ≡ true → k ≡ Whitespace
whitespace_known Dot e = absurd (false≢true e)
whitespace_known Equals e = absurd (false≢true e)
whitespace_known Comma e = absurd (false≢true e)
whitespace_known LeftSquareBracket e = absurd (false≢true e)
whitespace_known RightSquareBracket e = absurd (false≢true e)
whitespace_known LeftCurlyBracket e = absurd (false≢true e)
whitespace_known RightCurlyBracket e = absurd (false≢true e)
whitespace_known Whitespace e = refl
whitespace_known Comment e = absurd (false≢true e)
whitespace_known Newline e = absurd (false≢true e)
whitespace_known LiteralString e = absurd (false≢true e)
whitespace_known BasicString e = absurd (false≢true e)
whitespace_known MlLiteralString e = absurd (false≢true e)
whitespace_known MlBasicString e = absurd (false≢true e)
whitespace_known Atom e = absurd (false≢true e)
whitespace_known Eof e = absurd (false≢true e)

abbrev is_none : List Tok → Bool
is_none [] = true
is_none (t ∷ ts) = false

-- the pass: `behind` is whether the token before is Whitespace
abbrev pub passes : Bool → List Tok → Bool
passes behind [] = false
passes behind (tok k a b ∷ ts) = cond (is_eof k) (is_none ts) (cond (both behind (is_whitespace k)) false (passes (is_whitespace k) ts))

-- the tokens ts behind a token of kind j
record RegularBehind (j : Kind) (ts : List Tok) : Type 0 where
  ends : OneEofLast ts
  apart : (a b : ℕ) → NoAdjacentWhitespace (tok j a b ∷ ts)

apart_first : {j : Kind} {a b : ℕ} (ts : List Tok) → NoAdjacentWhitespace (tok j a b ∷ ts) → NoAdjacentWhitespace ts
apart_first [] h = no_token
apart_first (tok k c d ∷ ts) (not_both n h) = h

apart_dot : (ts : List Tok) → NoAdjacentWhitespace ts → NoAdjacentWhitespace (tok Dot 0 0 ∷ ts)
apart_dot [] h = one_token
apart_dot (tok k c d ∷ ts) h = not_both (λ p q. false≢true (ap is_whitespace p)) h

-- where the pass says yes
module _ (j k : Kind) (a b : ℕ) where
  only : (us : List Tok) → is_none us ≡ true → is_eof k ≡ true → RegularBehind j (tok k a b ∷ us)
  only [] n f =
      record {
        ends = subst (λ (l : Kind). OneEofLast (tok l a b ∷ [])) (sym (eof_known k f)) only_eof;
        apart = λ c d. not_both (λ p q. false≢true (ap is_eof (sym q) ∙ f)) one_token;
      }
  only (u ∷ us) n f = absurd (false≢true n)

  after : (ts : List Tok) (t : Bool) → both (is_whitespace j) (is_whitespace k) ≡ t → is_eof k ≡ false → (passes (is_whitespace k) ts ≡ true → RegularBehind k ts)
      → cond t false (passes (is_whitespace k) ts) ≡ true → RegularBehind j (tok k a b ∷ ts)
  after ts true w f more e = absurd (false≢true e)
  after ts false w f more e =
      let r = more e in
      record {
        ends = before_eof (λ p. false≢true (sym f ∙ ap is_eof p)) r.ends;
        apart = λ c d. not_both (λ p q. false≢true (sym w ∙ ap (λ (l : Kind). both (is_whitespace l) (is_whitespace k)) p ∙ ap is_whitespace q)) (r.apart a b);
      }

  first : (ts : List Tok) (t : Bool) → is_eof k ≡ t → (passes (is_whitespace k) ts ≡ true → RegularBehind k ts)
      → cond t (is_none ts) (cond (both (is_whitespace j) (is_whitespace k)) false (passes (is_whitespace k) ts)) ≡ true → RegularBehind j (tok k a b ∷ ts)
  first ts true f more e = only ts e f
  first ts false f more e = after ts (both (is_whitespace j) (is_whitespace k)) refl f more e

passes_sound : (j : Kind) (ts : List Tok) → passes (is_whitespace j) ts ≡ true → RegularBehind j ts
passes_sound j [] e = absurd (false≢true e)
passes_sound j (tok k a b ∷ ts) e = first j k a b ts (is_eof k) refl (λ h. passes_sound k ts h) e

-- and where it must
not_eof : (k : Kind) → (k ≡ Eof → ⊥) → is_eof k ≡ false
not_eof k n = by (is_eof k) refl
  where
    by : (t : Bool) → is_eof k ≡ t → is_eof k ≡ false
    by true e = absurd (n (eof_known k e))
    by false e = e

not_twice : (j k : Kind) → (j ≡ Whitespace → k ≡ Whitespace → ⊥) → both (is_whitespace j) (is_whitespace k) ≡ false
not_twice j k n = by (is_whitespace j) (is_whitespace k) refl refl
  where
    by : (t u : Bool) → is_whitespace j ≡ t → is_whitespace k ≡ u → both (is_whitespace j) (is_whitespace k) ≡ false
    by true true e f = absurd (n (whitespace_known j e) (whitespace_known k f))
    by true false e f = ap (λ (x : Bool). both x (is_whitespace k)) e ∙ f
    by false u e f = ap (λ (x : Bool). both x (is_whitespace k)) e

passes_complete : (j : Kind) (a b : ℕ) (ts : List Tok) → OneEofLast ts → NoAdjacentWhitespace (tok j a b ∷ ts) → passes (is_whitespace j) ts ≡ true
passes_complete j a b [] x n = elim x [ ]
passes_complete j a b (tok k c d ∷ []) only_eof n = refl
passes_complete j a b (tok k c d ∷ ts) (before_eof e r) (not_both n h) = simp (not_eof k e, not_twice j k n) (passes_complete k c d ts r h)

-- the same over the records: n of them from record i on
abbrev pub passes_from : ℕ → List ℕ → ℕ → Bool → Bool
passes_from zero s i behind = false
passes_from (suc n) s i behind =
    cond (is_eof (kind_at s i)) (eqb n 0) (cond (both behind (is_whitespace (kind_at s i))) false (passes_from n s (suc i) (is_whitespace (kind_at s i))))

none_left : (n : ℕ) (s : List ℕ) (i p : ℕ) → is_none (tokens_from n s i p) ≡ eqb n 0
unfolding tokens_from
none_left zero s i p = refl
none_left (suc n) s i p = sym (ne_eqb (suc n) 0 (λ e. omega (arith, e)))

passes_records : (n : ℕ) (s : List ℕ) (i p : ℕ) (behind : Bool) → passes behind (tokens_from n s i p) ≡ passes_from n s i behind
unfolding tokens_from
passes_records zero s i p behind = refl
passes_records (suc n) s i p behind = rw (none_left n s (suc i) (p + length_at s i), passes_records n s (suc i) (p + length_at s i) (is_whitespace (kind_at s i)))

pub regular_decided : (s : List ℕ) (base : ℕ) (r : Bool) → r ≡ passes_from (count s) s 0 false → (r ≡ true) ↔ Regular (all_tokens s base)
unfolding all_tokens
regular_decided s base r e =
    let w : r ≡ passes false (tokens_from (count s) s 0 base) = e ∙ sym (passes_records (count s) s 0 base false) in (
      λ t. let g = passes_sound Dot (tokens_from (count s) s 0 base) (sym w ∙ t) in record { ends = g.ends; apart = apart_first (tokens_from (count s) s 0 base) (g.apart 0 0) },
      λ g. w ∙ passes_complete Dot 0 0 (tokens_from (count s) s 0 base) g.ends (apart_dot (tokens_from (count s) s 0 base) g.apart),
    )

-- the loop over the records: from record i on, `behind` a Whitespace or not
same_tests : (a b c d : ℕ) → (a ≡ b → c ≡ d) → (c ≡ d → a ≡ b) → eqb a b ≡ eqb c d
same_tests a b c d f g = by (eqb a b) refl
  where
    by : (t : Bool) → eqb a b ≡ t → eqb a b ≡ eqb c d
    by true e = e ∙ sym (eq-eqb c d (f (eqb-true a b e)))
    by false e = e ∙ sym (ne_eqb c d (λ q. eqb-false a b e (g q)))

module _ (s : List ℕ) (i : ℕ) (behind : Bool) (left : i < count s) where
  one_more : count s - i ≡ suc (count s - (i + 1))
  one_more = omega arith

  pub at_eof_lem : is_eof (kind_at s i) ≡ true → eqb (i + 1) (count s) ≡ passes_from (count s - i) s i behind
  at_eof_lem e = rw (one_more, e) (same_tests (i + 1) (count s) (count s - (i + 1)) 0 (λ q. omega (arith, q)) (λ q. omega (arith, q)))

  pub at_second : is_eof (kind_at s i) ≡ false → both behind (is_whitespace (kind_at s i)) ≡ true → false ≡ passes_from (count s - i) s i behind
  at_second e w = rw (one_more, e, w)

  pub at_other : is_eof (kind_at s i) ≡ false → both behind (is_whitespace (kind_at s i)) ≡ false → passes_from (count s - (i + 1)) s (i + 1) (is_whitespace (kind_at s i)) ≡ passes_from (count s - i) s i behind
  at_other e w = rw (one_more, e, w, add-one)

pub at_end : (s : List ℕ) (i : ℕ) (behind : Bool) → count s ≤ i → false ≡ passes_from (count s - i) s i behind
at_end s i behind h = let e : count s - i ≡ 0 = omega arith in rw e
