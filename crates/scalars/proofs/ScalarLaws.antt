-- The rule of an unquoted scalar, a token at a time. Assumes nothing.
use mathlib.Core.Path.{◌≡◌, refl, ap, sym, ◌∙◌}
use mathlib.Core.Bool.{false, false≢true}
use mathlib.Core.List.{List, [], ◌∷◌}
use Prim.Native.Nat.{ℕ, ◌≤◌}
use native.Mathlib.Omega.{arith}
use denote.Enum.Declared.{tag_of}
use types.Run.{OneOf, miss}
use Rattle.token.specs.Tokens.{Tok, tok, tokens_at, Good, Took, starts_with}
use Rattle.token.specs.declared.kind.Kind.{Kind}
use Rattle.token.specs.declared.kind.Kind.TheVariants.{Dot, Equals, Comma, LeftSquareBracket, RightSquareBracket, LeftCurlyBracket, RightCurlyBracket, Whitespace, Comment, Newline, LiteralString, BasicString, MlLiteralString, MlBasicString, Atom, Eof}
use Rattle.token.specs.declared.cursor.Token.{Token}
use Rattle.token.specs.declared.cursor.Cursor.{Cursor}
use Rattle.rules.specs.declared.scalar.InScalar.{InScalar}
use Rattle.rules.specs.declared.scalar.Starting.{Starting}
use Rattle.rules.specs.contracts.scalar.InScalar as in-scalar
use Rattle.rules.specs.Out.{Out}
use Rattle.rules.specs.Scalar.{in_scalar, starting_of, unquoted, behind_space, unquoted_step, scalar_by}
use Rattle.scalars.specs.ScalarWalks.{Reached, scalar_over}
use Rattle.output.specs.WalkLaws.{rule_at, rule_end}

-- behind a whitespace comes no Atom
no_atom : (k : Kind) (c d : ℕ) (ts here : List Tok) (a b : ℕ) → starts_with Atom (tok k c d ∷ ts) ≡ false → behind_space (tok k c d ∷ ts) here a b ≡ scalar_over a b here
no_atom Dot c d ts here a b e = refl
no_atom Equals c d ts here a b e = refl
no_atom Comma c d ts here a b e = refl
no_atom LeftSquareBracket c d ts here a b e = refl
no_atom RightSquareBracket c d ts here a b e = refl
no_atom LeftCurlyBracket c d ts here a b e = refl
no_atom RightCurlyBracket c d ts here a b e = refl
no_atom Whitespace c d ts here a b e = refl
no_atom Comment c d ts here a b e = refl
no_atom Newline c d ts here a b e = refl
no_atom LiteralString c d ts here a b e = refl
no_atom BasicString c d ts here a b e = refl
no_atom MlLiteralString c d ts here a b e = refl
no_atom MlBasicString c d ts here a b e = refl
no_atom Atom c d ts here a b e = absurd (false≢true (sym e))
no_atom Eof c d ts here a b e = refl

space_stop : (ts here : List Tok) (a b : ℕ) → starts_with Atom ts ≡ false → behind_space ts here a b ≡ scalar_over a b here
space_stop [] here a b e = refl
space_stop (tok k c d ∷ ts) here a b e = no_atom k c d ts here a b e

-- what the arm tells that takes a Dot or an Atom: the scalar goes on with it
abbrev More : InScalar → Type 0
More x = OneOf (0 ∷ 1 ∷ []) (tag_of in-scalar.the_type x)

more_step : (x : InScalar) (more space stop : Out) → More x → unquoted_step x more space stop ≡ more
more_step InScalar.Dot more space stop w = refl
more_step InScalar.Atom more space stop w = refl
more_step InScalar.Whitespace more space stop w = absurd (miss (0 ∷ 1 ∷ []) 2 tt w)
more_step InScalar.Other more space stop w = absurd (miss (0 ∷ 1 ∷ []) 3 tt w)

-- the loop: the rule from here is the rule from its start
pub record Runs (s : List ℕ) (e : ℕ) (cur : Cursor) (e₀ : ℕ) (cur₀ : Cursor) : Type 0 where
  pub same : (a : ℕ) → unquoted (tokens_at s cur₀) a e₀ ≡ unquoted (tokens_at s cur) a e
  pub good : Good s cur
  pub on : cur₀.at ≤ cur.at
  pub base : cur.base ≡ cur₀.base

module _ {s : List ℕ} {e : ℕ} {cur : Cursor} {e₀ : ℕ} {cur₀ : Cursor} (inv : Runs s e cur e₀ cur₀) where
  -- the scalar ends here
  ends : ((a : ℕ) → unquoted (tokens_at s cur) a e ≡ scalar_over a e (tokens_at s cur)) → Reached s cur₀ e₀ (record { cur = cur; end = e })
  ends h = record { is = λ a. inv.same a ∙ h a; good = inv.good; on = inv.on; base = inv.base }

  pub run_end : tokens_at s cur ≡ [] → Reached s cur₀ e₀ (record { cur = cur; end = e })
  run_end h = ends (λ a. rule_end s cur (λ ts. unquoted ts a e) (scalar_over a e) h refl)

  module _ {d : Cursor} (t : Token) (k : Took s cur t d) (x y : InScalar) (p : x ≡ in_scalar t.kind) (q : x ≡ y) where
    step_at : (a : ℕ) → unquoted (tokens_at s cur) a e ≡ unquoted_step y (unquoted (tokens_at s d) a t.end) (behind_space (tokens_at s d) (tokens_at s cur) a e) (scalar_over a e (tokens_at s cur))
    step_at a =
        rule_at s cur d t (λ ts. unquoted ts a e) in_scalar (λ z. unquoted_step z (unquoted (tokens_at s d) a t.end) (behind_space (tokens_at s d) (tok t.kind t.start t.end ∷ tokens_at s d) a e) (scalar_over a e (tok t.kind t.start t.end ∷ tokens_at s d))) x y k refl p q
        ∙ ap (λ (ts : List Tok). unquoted_step y (unquoted (tokens_at s d) a t.end) (behind_space (tokens_at s d) ts a e) (scalar_over a e ts)) (sym k.seen)

    by_class : (z : InScalar) → y ≡ z → (a : ℕ) → unquoted (tokens_at s cur) a e ≡ unquoted_step z (unquoted (tokens_at s d) a t.end) (behind_space (tokens_at s d) (tokens_at s cur) a e) (scalar_over a e (tokens_at s cur))
    by_class z h a = step_at a ∙ ap (λ (w : InScalar). unquoted_step w (unquoted (tokens_at s d) a t.end) (behind_space (tokens_at s d) (tokens_at s cur) a e) (scalar_over a e (tokens_at s cur))) h

    onto : ((a : ℕ) → unquoted (tokens_at s cur) a e ≡ unquoted (tokens_at s d) a t.end) → Runs s t.end d e₀ cur₀
    onto h = record { same = λ a. inv.same a ∙ h a; good = k.good; on = omega (arith, k.on, inv.on); base = k.base ∙ inv.base }

    pub more_on : More y → Runs s t.end d e₀ cur₀
    more_on w = onto (λ a. step_at a ∙ more_step y _ _ _ w)

    pub other_ends : y ≡ InScalar.Other → Reached s cur₀ e₀ (record { cur = cur; end = e })
    other_ends h = ends (by_class InScalar.Other h)

    pub space_ends : y ≡ InScalar.Whitespace → starts_with Atom (tokens_at s d) ≡ false → Reached s cur₀ e₀ (record { cur = cur; end = e })
    space_ends h n = ends (λ a. by_class InScalar.Whitespace h a ∙ space_stop (tokens_at s d) (tokens_at s cur) a e n)

    pub space_on : y ≡ InScalar.Whitespace → {f : Cursor} (u : Token) → (u.kind ≡ Atom) × Took s d u f → Runs s u.end f e₀ cur₀
    space_on h {f} u j =
        record {
          same = λ a. inv.same a ∙ by_class InScalar.Whitespace h a
              ∙ ap (λ (ts : List Tok). behind_space ts (tokens_at s cur) a e) j.1.seen
              ∙ ap (λ (i : Kind). behind_space (tok i u.start u.end ∷ tokens_at s f) (tokens_at s cur) a e) j.0;
          good = j.1.good;
          on = omega (arith, k.on, j.1.on, inv.on);
          base = j.1.base ∙ k.base ∙ inv.base;
        }

-- on_scalar by how the scalar starts
pub scalar_by_lem : (k : Kind) (a b : ℕ) (ts : List Tok) (x y : Starting) → x ≡ starting_of k → x ≡ y → scalar_by (starting_of k) a b ts ≡ scalar_by y a b ts
scalar_by_lem k a b ts x y p q = ap (λ (z : Starting). scalar_by z a b ts) (sym p ∙ q)
