-- The sets of bytes that end whitespace and an atom, by the arms of a match. Proved; nothing here needs to be believed.
use mathlib.Core.Path.{◌≡◌, refl, sym, ap, ◌∙◌}
use mathlib.Core.Bool.{Bool, true, false, cond, not}
use mathlib.Core.List.{List, [], ◌∷◌, map}
use mathlib.Core.Logic.{inl, inr}
use Prim.Native.Nat.{ℕ}
use lib.ListN.{get_or, drop}
use lib.Dec.{eqb}
use borrow.Author.Tests.{ne_eqb}
use types.Run.{OneOf}
use Rattle.scan.specs.declared.start.Start.{Start}
use Rattle.scan.specs.Lexer.{start_of, token_start, wschar, ends_whitespace, ends_atom}

-- whether the byte is of the set is v, if that of each byte of the arm is
module _ (set : ℕ → Bool) (v : Bool) where
  abbrev Each : List ℕ → Type 0
  Each ns = map (λ (n : ℕ). v) ns ≡ map set ns

  at_byte : (n : ℕ) (ns : List ℕ) (b : ℕ) → Each (n ∷ ns) → b ≡ n → v ≡ set b
  at_byte n ns b q e = ap (λ (vs : List Bool). get_or vs 0 v) q ∙ ap set (sym e)

  pub by_byte : (ns : List ℕ) (b : ℕ) → Each ns → OneOf ns b → v ≡ set b
  by_byte [] b q w = absurd w
  by_byte (n ∷ []) b q w = at_byte n [] b q w
  by_byte (n ∷ m ∷ ns) b q (inl e) = at_byte n (m ∷ ns) b q e
  by_byte (n ∷ m ∷ ns) b q (inr w) = by_byte (m ∷ ns) b (ap (drop 1) q) w

-- either of two classes
either : (f : Start → Bool) (v t : Bool) (x y : Start) → f x ≡ v → f y ≡ v → f (cond t x y) ≡ v
either f v true x y p q = p
either f v false x y p q = q

abbrev Blank : List ℕ
Blank = 9 ∷ 32 ∷ []

pub past_blank : (b : ℕ) → (OneOf Blank b → ⊥) → true ≡ ends_whitespace b
unfolding start_of
past_blank b n =
    let or : (t : Bool) (x y : Start) → not (wschar x) ≡ true → not (wschar y) ≡ true → not (wschar (cond t x y)) ≡ true = either (λ x. not (wschar x)) true in
    sym (
    or (eqb b 46) _ _ refl
    (or (eqb b 61) _ _ refl
    (or (eqb b 44) _ _ refl
    (or (eqb b 91) _ _ refl
    (or (eqb b 93) _ _ refl
    (or (eqb b 123) _ _ refl
    (or (eqb b 125) _ _ refl
    (rw (ne_eqb b 32 (λ e. n (inr e)), ne_eqb b 9 (λ e. n (inl e)))
    (or (eqb b 35) _ _ refl (or (eqb b 13) _ _ refl (or (eqb b 10) _ _ refl (or (eqb b 39) _ _ refl (or (eqb b 34) _ _ refl refl))))))))))))
    )

abbrev Single : List ℕ
Single = 44 ∷ 46 ∷ 61 ∷ 91 ∷ 93 ∷ 123 ∷ 125 ∷ []

abbrev Line : List ℕ
Line = 10 ∷ 13 ∷ 35 ∷ []

pub in_atom : (b : ℕ) → (OneOf Single b → ⊥) → (OneOf Blank b → ⊥) → (OneOf Line b → ⊥) → false ≡ ends_atom b
unfolding start_of
in_atom b s n l =
    rw (
      ne_eqb b 44 (λ e. s (inl e)),
      ne_eqb b 46 (λ e. s (inr (inl e))),
      ne_eqb b 61 (λ e. s (inr (inr (inl e)))),
      ne_eqb b 91 (λ e. s (inr (inr (inr (inl e))))),
      ne_eqb b 93 (λ e. s (inr (inr (inr (inr (inl e)))))),
      ne_eqb b 123 (λ e. s (inr (inr (inr (inr (inr (inl e))))))),
      ne_eqb b 125 (λ e. s (inr (inr (inr (inr (inr (inr e))))))),
      ne_eqb b 9 (λ e. n (inl e)),
      ne_eqb b 32 (λ e. n (inr e)),
      ne_eqb b 10 (λ e. l (inl e)),
      ne_eqb b 13 (λ e. l (inr (inl e))),
      ne_eqb b 35 (λ e. l (inr (inr e))),
    )
    (sym (either token_start false (eqb b 39) _ _ refl (either token_start false (eqb b 34) _ _ refl refl)))
