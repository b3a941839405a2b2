-- Laws of the document loop: a turn is a walk, after which the loop goes on unless it is over. Assumes nothing.
use mathlib.Core.Path.{◌≡◌, refl, ap, sym, subst, ◌∙◌}
use mathlib.Core.Bool.{true, false, false≢true}
use mathlib.Core.List.{List, [], ◌∷◌}
use Prim.Native.Nat.{ℕ, ◌+◌, ◌-◌, ◌≤◌}
use native.Mathlib.Omega.{arith}
use denote.Enum.Declared.{tag_of}
use types.Run.{OneOf, miss}
use Rattle.token.specs.KindLaws.{every_kind}
use Rattle.token.specs.Tokens.{Tok, all_tokens, tokens_at, Took}
use Rattle.token.specs.declared.kind.Kind.{Kind}
use Rattle.token.specs.declared.kind.Kind.TheVariants.{Dot, Equals}
use Rattle.token.specs.declared.cursor.Token.{Token}
use Rattle.token.specs.declared.cursor.Cursor.{Cursor}
use Rattle.rules.specs.declared.document.InDocument.{InDocument}
use Rattle.rules.specs.contracts.document.InDocument as in-document
use Rattle.rules.specs.Out.{Out, ◌then◌}
use Rattle.rules.specs.Turns.{turns}
use Rattle.rules.specs.Document.{in_document, document_step, document_turn}
use Rattle.output.specs.Pour.{Bufs, bufs, pour}
use Rattle.output.specs.Walks.{End, run}
use Rattle.output.specs.WalkLaws.{rule_at, then_on}
use Rattle.output.specs.TurnLaws.{Turns, onward, turn_same, fewer_left}
use Rattle.keyless_turns.specs.Keyless.{keyless}
use Rattle.nest.specs.Nested.{NestWalk, walk_of, is_stopped, out_of, Nested}
use Rattle.nest.specs.NestedLaws.{out_on, nested_stop}
use Rattle.std.specs.Prelude.{Ok, Err}
use Rattle.std.specs.declared.ops.ControlFlow.TheVariants.{Continue, Break}
use Rattle.output.specs.declared.emitting.Walk.{Walk}
use Rattle.documents.specs.Documents.{DocumentTurn, walk, over, turn_of, Stepped}

-- a turn at the token that was read
pub document_at : (s : List ℕ) (c d : Cursor) (t : Token) → Took s c t d → (x y : InDocument) → x ≡ in_document t.kind → x ≡ y → (levels : ℕ) (loop : Unit {0} → List Tok → Out)
    → document_turn levels loop tt (tokens_at s c) ≡ document_step y levels (loop tt) t.start t.end (tokens_at s d)
document_at s c d t k x y p q levels loop = rule_at s c d t (document_turn levels loop tt) in_document (λ z. document_step z levels (loop tt) t.start t.end (tokens_at s d)) x y k refl p q

-- what the arm tells at which no key starts, and the document does not end
abbrev Rest : List ℕ
Rest = 0 ∷ 1 ∷ 5 ∷ 6 ∷ 7 ∷ 8 ∷ []

keyless_step : (x : InDocument) (levels : ℕ) (loop : List Tok → Out) (a b : ℕ) (ts : List Tok) → OneOf Rest (tag_of in-document.the_type x) → document_step x levels loop a b ts ≡ (keyless x a b ts then loop)
keyless_step InDocument.OpenSquare levels loop a b ts w = refl
keyless_step InDocument.CloseSquare levels loop a b ts w = refl
keyless_step (InDocument.Key e) levels loop a b ts w = absurd (miss Rest 2 tt w)
keyless_step InDocument.Equals levels loop a b ts w = absurd (miss Rest 3 tt w)
keyless_step InDocument.Dot levels loop a b ts w = absurd (miss Rest 4 tt w)
keyless_step InDocument.Stray levels loop a b ts w = refl
keyless_step InDocument.Whitespace levels loop a b ts w = refl
keyless_step InDocument.Newline levels loop a b ts w = refl
keyless_step InDocument.Comment levels loop a b ts w = refl
keyless_step InDocument.Eof levels loop a b ts w = absurd (miss Rest 9 tt w)

pub document_keyless : (s : List ℕ) (c d : Cursor) (t : Token) → Took s c t d → (x : InDocument) → x ≡ in_document t.kind → OneOf Rest (tag_of in-document.the_type x) → (levels : ℕ) (loop : Unit {0} → List Tok → Out)
    → document_turn levels loop tt (tokens_at s c) ≡ (keyless x t.start t.end (tokens_at s d) then loop tt)
document_keyless s c d t k x p w levels loop = document_at s c d t k x x p refl levels loop ∙ keyless_step x levels (loop tt) t.start t.end (tokens_at s d) w

-- a turn that goes on, unless a level was refused in it
module _ {s : List ℕ} {rule : (Unit {0} → List Tok → Out) → Out} {c : Cursor} {o : Bufs} {a b : List ℕ} (g : Out) (goes_on : (loop : Unit {0} → List Tok → Out) → rule loop ≡ (g then loop tt)) where
  stepped : (v : NestWalk) → Nested s g c o a b v → c.at + 1 ≤ (walk_of v).cur.at → Stepped s rule c o a b (turn_of v)
  stepped (Ok w) x f = record { g = g; walked = x; goes_on = λ q. goes_on; ends = λ q. absurd (false≢true q); further = λ q. f }
  stepped (Err e) x f = record { g = g; walked = x; goes_on = λ q. goes_on; ends = λ q. absurd (false≢true q); further = λ q. f }

  pub stepped_on : (v : NestWalk) {d : DocumentTurn} → d ≡ turn_of v → Nested s g c o a b v → c.at + 1 ≤ (walk_of v).cur.at → Stepped s rule c o a b d
  stepped_on v e x f = subst (λ (z : DocumentTurn). Stepped s rule c o a b z) (sym e) (stepped v x f)

module _ (levels : ℕ) {s : List ℕ} {start : Out} {o o₀ : Bufs} {cur cur₀ : Cursor} (inv : Turns s (λ k. turns (document_turn levels) k tt (tokens_at s cur)) start o o₀ cur cur₀)
    {a b : List ℕ} (d : DocumentTurn) (t : Stepped s (λ loop. document_turn levels loop tt (tokens_at s cur)) cur o a b d) where
  abbrev All : List Tok
  All = all_tokens s cur₀.base

  abbrev Loop : Unit {0} → List Tok → Out
  Loop = onward (document_turn levels) (λ f g w. refl) tt inv

  same : run All (document_turn levels Loop tt (tokens_at s cur)) o ≡ run All start o₀
  same = turn_same (document_turn levels) (λ f g w. refl) tt inv

  -- what was walked is the rest of the loop
  ends_by : (r : Out) → document_turn levels Loop tt (tokens_at s cur) ≡ r → Nested s r cur o a b (walk d) → Nested s start cur₀ o₀ a b (walk d)
  unfolding run
  ends_by r e y =
      let q : run All r o ≡ run All start o₀ = ap (λ (x : Out). run All x o) (sym e) ∙ same in
      record {
        wrote = λ base p. subst (λ (u : ℕ). out_of (is_stopped (walk d)) s a b (walk_of (walk d)).n (walk_of (walk d)).cur ≡ pour (all_tokens s u) start.items o₀) p (y.wrote cur₀.base inv.base ∙ ap (λ (x : End). x.out) q);
        rest = λ f. y.rest f ∙ ap (λ (x : End). x.rest) q;
        good = y.good;
        on = omega (arith, y.on, inv.on);
        base = y.base ∙ inv.base;
      }

  step_over : over d ≡ true → Nested s start cur₀ o₀ a b (walk d)
  step_over e = ends_by t.g (t.ends e Loop) t.walked

  step_stop : over d ≡ false → is_stopped (walk d) ≡ true → Nested s start cur₀ o₀ a b (walk d)
  step_stop e f = ends_by (t.g then Loop tt) (t.goes_on e Loop) (nested_stop (Loop tt) t.walked f)

  -- a turn that breaks off is the end, over or refused; one that does not, goes on
  ended : (v : NestWalk) → d ≡ Break v → Nested s start cur₀ o₀ a b (walk d)
  ended (Ok w) e = step_over (ap over e)
  ended (Err x) e = step_stop (ap over e) (ap (λ (z : DocumentTurn). is_stopped (walk z)) e)

  pub step_break : (v : NestWalk) → d ≡ Break v → Nested s start cur₀ o₀ a b v
  step_break v e = subst (λ (z : DocumentTurn). Nested s start cur₀ o₀ a b (walk z)) e (ended v e)

  step_again : over d ≡ false → is_stopped (walk d) ≡ false → Turns s (λ k. turns (document_turn levels) k tt (tokens_at s (walk_of (walk d)).cur)) start (bufs a b (walk_of (walk d)).n) o₀ (walk_of (walk d)).cur cur₀
  unfolding run
  step_again e f =
      let y = t.walked in
      let z : bufs a b (walk_of (walk d)).n ≡ pour All t.g.items o = out_on s a b (walk_of (walk d)).n (walk_of (walk d)).cur _ (is_stopped (walk d)) f (y.wrote cur₀.base inv.base) in
      let p : run All (t.g then Loop tt) o ≡ run All (Loop tt (tokens_at s (walk_of (walk d)).cur)) (bufs a b (walk_of (walk d)).n) = then_on All t.g (Loop tt) o s a b (record { cur = (walk_of (walk d)).cur; n = (walk_of (walk d)).n }) (λ i. record { out = z i; rest = y.rest f i }) in
      record {
        fuel = inv.fuel - 1;
        enough = fewer_left (document_turn levels) (λ f g w. refl) tt inv (walk_of (walk d)).cur (t.further e) y.good;
        same = sym p ∙ ap (λ (x : Out). run All x o) (sym (t.goes_on e Loop)) ∙ same;
        good = y.good;
        on = omega (arith, y.on, inv.on);
        base = y.base ∙ inv.base;
      }

  pub step_continue : (w : Walk) → d ≡ Continue w → Turns s (λ k. turns (document_turn levels) k tt (tokens_at s w.cur)) start (bufs a b w.n) o₀ w.cur cur₀
  step_continue w e =
      subst (λ (z : DocumentTurn). Turns s (λ k. turns (document_turn levels) k tt (tokens_at s (walk_of (walk z)).cur)) start (bufs a b (walk_of (walk z)).n) o₀ (walk_of (walk z)).cur cur₀) e
      (step_again (ap over e) (ap (λ (z : DocumentTurn). is_stopped (walk z)) e))

  pub step_further : (w : Walk) → d ≡ Continue w → cur.at + 1 ≤ w.cur.at
  step_further w e = subst (λ (z : DocumentTurn). cur.at + 1 ≤ (walk_of (walk z)).cur.at) e (t.further (ap over e))

-- a kind that the loop takes for a dot or `=` is one
abbrev KindIs : InDocument → Kind → Type 0
KindIs InDocument.OpenSquare k = Unit {0}
KindIs InDocument.CloseSquare k = Unit {0}
KindIs (InDocument.Key e) k = Unit {0}
KindIs InDocument.Equals k = k ≡ Equals
KindIs InDocument.Dot k = k ≡ Dot
KindIs InDocument.Stray k = Unit {0}
KindIs InDocument.Whitespace k = Unit {0}
KindIs InDocument.Newline k = Unit {0}
KindIs InDocument.Comment k = Unit {0}
KindIs InDocument.Eof k = Unit {0}

kind_is : (k : Kind) → KindIs (in_document k) k
kind_is = every_kind (λ (k : Kind). KindIs (in_document k) k) refl refl tt tt tt tt tt tt tt tt tt tt tt tt tt tt

pub document_dot_lem : (k : Kind) (x : InDocument) → x ≡ in_document k → x ≡ InDocument.Dot → k ≡ Dot
document_dot_lem k x p q = subst (λ (z : InDocument). KindIs z k) (sym p ∙ q) (kind_is k)

pub document_equals_lem : (k : Kind) (x : InDocument) → x ≡ in_document k → x ≡ InDocument.Equals → k ≡ Equals
document_equals_lem k x p q = subst (λ (z : InDocument). KindIs z k) (sym p ∙ q) (kind_is k)
