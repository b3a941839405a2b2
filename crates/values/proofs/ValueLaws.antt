-- Laws of values, a token at a time. Assumes nothing.
use mathlib.Core.Path.{◌≡◌, refl, ap, sym, subst, ◌∙◌}
use mathlib.Core.List.{List, [], ◌∷◌}
use Prim.Native.Nat.{ℕ, ◌≤◌}
use native.Mathlib.Omega.{arith}
use denote.Enum.Declared.{tag_of}
use types.Run.{OneOf, miss}
use Rattle.token.specs.Tokens.{Tok, tok, all_tokens, tokens_at, Took}
use Rattle.token.specs.declared.kind.Kind.{Kind}
use Rattle.token.specs.declared.cursor.Token.{Token}
use Rattle.token.specs.declared.cursor.Cursor.{Cursor}
use Rattle.rules.specs.declared.value.InValue.{InValue}
use Rattle.rules.specs.contracts.value.InValue as in-value
use Rattle.rules.specs.Out.{Out, done}
use Rattle.rules.specs.Value.{in_value, value, value_step}
use Rattle.output.specs.Pour.{Bufs, pour}
use Rattle.output.specs.Walks.{End, run}
use Rattle.output.specs.WalkLaws.{Looped, rule_at, by_rule}
use Rattle.flat_values.specs.Flat.{flat_value}
use Rattle.nest.specs.Nested.{NestWalk, walk_of, is_stopped, out_of, Nested}

module _ (s : List ℕ) (c d : Cursor) (t : Token) (k : Took s c t d) (x y : InValue) (p : x ≡ in_value t.kind) (q : x ≡ y) where
  -- a value, by what the kind is where one is wanted
  pub value_is : (levels : ℕ) → value levels (tokens_at s c) ≡ value_step y levels t.kind t.start t.end (tokens_at s d) (done (tokens_at s c)) (value levels (tokens_at s d))
  value_is levels =
      rule_at s c d t (value levels) in_value (λ z. value_step z levels t.kind t.start t.end (tokens_at s d) (done (tok t.kind t.start t.end ∷ tokens_at s d)) (value levels (tokens_at s d))) x y k refl p q
      ∙ ap (λ (ts : List Tok). value_step y levels t.kind t.start t.end (tokens_at s d) (done ts) (value levels (tokens_at s d))) (sym k.seen)

  pub value_at : (all : List Tok) (o : Bufs) (levels : ℕ) → run all (value levels (tokens_at s c)) o ≡ run all (value_step y levels t.kind t.start t.end (tokens_at s d) (done (tokens_at s c)) (value levels (tokens_at s d))) o
  value_at all o levels = by_rule all o _ _ (value_is levels)

-- what the arm tells that takes all that opens no bracket and is not `=`
abbrev Rest : List ℕ
Rest = 0 ∷ 3 ∷ 5 ∷ 6 ∷ []

flat_step : (x : InValue) (levels : ℕ) (k : Kind) (a b : ℕ) (ts : List Tok) (here again : Out) → OneOf Rest (tag_of in-value.the_type x) → value_step x levels k a b ts here again ≡ flat_value x k a b ts here
flat_step InValue.Nothing levels k a b ts here again w = refl
flat_step InValue.Equals levels k a b ts here again w = absurd (miss Rest 1 tt w)
flat_step InValue.OpenCurly levels k a b ts here again w = absurd (miss Rest 2 tt w)
flat_step InValue.CloseCurly levels k a b ts here again w = refl
flat_step InValue.OpenSquare levels k a b ts here again w = absurd (miss Rest 4 tt w)
flat_step InValue.CloseSquare levels k a b ts here again w = refl
flat_step InValue.Scalar levels k a b ts here again w = refl

pub value_flat : (s : List ℕ) (c d : Cursor) (t : Token) → Took s c t d → (x : InValue) → x ≡ in_value t.kind → OneOf Rest (tag_of in-value.the_type x) → (all : List Tok) (o : Bufs) (levels : ℕ)
    → run all (value levels (tokens_at s c)) o ≡ run all (flat_value x t.kind t.start t.end (tokens_at s d) (done (tokens_at s c))) o
value_flat s c d t k x p w all o levels = by_rule all o _ _ (value_is s c d t k x x p refl levels ∙ flat_step x levels t.kind t.start t.end (tokens_at s d) (done (tokens_at s c)) (value levels (tokens_at s d)) w)

-- the end of a loop by a walk that may be refused
pub finish_nested : {s : List ℕ} {now start : Out} {o o₀ : Bufs} {cur cur₀ : Cursor} (inv : Looped s now start o o₀ cur cur₀) {r : Out} {o' : Bufs} {cur' : Cursor} {a b : List ℕ} {v : NestWalk}
    → run (all_tokens s cur₀.base) now o ≡ run (all_tokens s cur₀.base) r o' → cur.at ≤ cur'.at → cur'.base ≡ cur.base → Nested s r cur' o' a b v → Nested s start cur₀ o₀ a b v
unfolding run
finish_nested {s} {start = start} {o₀ = o₀} {cur₀ = cur₀} inv {a = a} {b} {v} e h q y =
    record {
      wrote = λ base p. subst (λ (u : ℕ). out_of (is_stopped v) s a b (walk_of v).n (walk_of v).cur ≡ pour (all_tokens s u) start.items o₀) p (y.wrote cur₀.base (q ∙ inv.base) ∙ ap (λ (x : End). x.out) (sym e ∙ inv.same));
      rest = λ f. y.rest f ∙ ap (λ (x : End). x.rest) (sym e ∙ inv.same);
      good = y.good;
      on = omega (arith, h, y.on, inv.on);
      base = y.base ∙ q ∙ inv.base;
    }
