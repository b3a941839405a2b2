-- Laws that every walk uses: what is emitted first is poured first, a loop's turns, and what a read tells a rule.
-- Proved; nothing here needs to be believed.
use Rattle.std.specs.Prelude.{◌≡◌, refl, false, Option, Some, None, List, [], ◌∷◌, ◌++◌, ℕ, ◌≤◌}
use Rattle.std.proofs.Common.{ap, sym, subst, ◌∙◌, arith}
use Rattle.token.specs.Tokens.{Tok, tok, all_tokens, tokens_at, Good, Took, Next, NextIf, starts_with}
use Rattle.token.specs.declared.kind.Kind.{Kind}
use Rattle.token.specs.declared.cursor.Token.{Token}
use Rattle.token.specs.declared.cursor.Cursor.{Cursor}
use Rattle.rules.specs.Out.{Item, Out, done, ◌▹◌, ◌▸◌, ◌then◌}
use Rattle.output.specs.declared.emitting.Counts.{Counts}
use Rattle.output.specs.declared.emitting.Walk.{Walk}
use Rattle.output.specs.Pour.{Bufs, bufs, put, pour}
use Rattle.output.specs.Walks.{End, run, end_of, Goes}

-- what is emitted first is poured first
pub first_item : (all : List Tok) (r : Out) (i : Item) (o o₁ : Bufs) → o₁ ≡ put all i o → run all (i ▹ r) o ≡ run all r o₁
unfolding run
first_item all r i o o₁ p = ap (run all r) (sym p)

pub pour_append : (all : List Tok) (is js : List Item) (o : Bufs) → pour all (is ++ js) o ≡ pour all js (pour all is o)
pour_append all [] js o = refl
pour_append all (i ∷ is) js o = pour_append all is js (put all i o)

run_items : (all : List Tok) (is : List Item) (r : Out) (o : Bufs) → run all (is ▸ r) o ≡ run all r (pour all is o)
unfolding run
run_items all is r o = ap (λ (b : Bufs). record { out = b; rest = r.rest }) (pour_append all is r.items o)

pub first_items : (all : List Tok) (is : List Item) (r : Out) (o o₁ : Bufs) → o₁ ≡ pour all is o → run all (is ▸ r) o ≡ run all r o₁
first_items all is r o o₁ p = run_items all is r o ∙ ap (run all r) (sym p)

-- on from where a walk ended
pub then_on : (all : List Tok) (g : Out) (f : List Tok → Out) (o : Bufs) (s a b : List ℕ) (w : Walk) → end_of s a b w ≡ run all g o → run all (g then f) o ≡ run all (f (tokens_at s w.cur)) (bufs a b w.n)
unfolding run
then_on all g f o s a b w e = run_items all g.items (f g.rest) o ∙ ap (λ (x : End). run all (f x.rest) x.out) (sym e)

-- the walk is over
pub run_done : (all : List Tok) (s a b : List ℕ) (n : Counts) (c : Cursor) → run all (done (tokens_at s c)) (bufs a b n) ≡ end_of s a b (record { cur = c; n = n })
unfolding run
run_done all s a b n c = refl

-- a loop: what the rules still do from here, `now` on o, gives what they do from its start, `start` on o₀
pub record Looped (s : List ℕ) (now start : Out) (o o₀ : Bufs) (cur cur₀ : Cursor) : Type 0 where
  pub same : run (all_tokens s cur₀.base) now o ≡ run (all_tokens s cur₀.base) start o₀
  pub good : Good s cur
  pub on : cur₀.at ≤ cur.at
  pub base : cur.base ≡ cur₀.base

pub begun : (s : List ℕ) (r : Out) (o : Bufs) (cur : Cursor) → Good s cur → Looped s r r o o cur cur
begun s r o cur g = record { same = refl; good = g; on = omega arith; base = refl }

module _ {s : List ℕ} {now start : Out} {o o₀ : Bufs} {cur cur₀ : Cursor} (inv : Looped s now start o o₀ cur cur₀) where
  -- a turn
  pub again : (next : Out) (o' : Bufs) (cur' : Cursor) → run (all_tokens s cur₀.base) now o ≡ run (all_tokens s cur₀.base) next o' → cur.at ≤ cur'.at → cur'.base ≡ cur.base → Good s cur' → Looped s next start o' o₀ cur' cur₀
  again next o' cur' e h b g = record { same = sym e ∙ inv.same; good = g; on = omega (arith, inv.on); base = b ∙ inv.base }

  -- the end: what the walk promises
  pub finish : (a b : List ℕ) (w : Walk) → run (all_tokens s cur₀.base) now o ≡ end_of s a b w → cur.at ≤ w.cur.at → w.cur.base ≡ cur.base → Good s w.cur → Goes s start cur₀ o₀ a b w
  finish a b w e h q g =
      record { is = λ base p. subst (λ (x : ℕ). end_of s a b w ≡ run (all_tokens s x) start o₀) p (sym e ∙ inv.same); good = g; on = omega (arith, inv.on); base = q ∙ inv.base }

  -- the end by another walk
  pub finish_by : {r : Out} {o' : Bufs} {cur' : Cursor} {a b : List ℕ} {w : Walk} → run (all_tokens s cur₀.base) now o ≡ run (all_tokens s cur₀.base) r o' → cur.at ≤ cur'.at → cur'.base ≡ cur.base → Goes s r cur' o' a b w → Goes s start cur₀ o₀ a b w
  finish_by {a = a} {b} {w} e h q g = finish a b w (e ∙ sym (g.is cur₀.base (q ∙ inv.base))) (omega (arith, h, g.on)) (g.base ∙ q) g.good

-- what a read tells
pub told : (s : List ℕ) (c : Cursor) (st : Option (Token × Cursor)) (t : Token) (d : Cursor) → Next s c st → st ≡ Some (t, d) → Took s c t d
told s c st t d n e = subst (Next s c) e n

pub told_done : (s : List ℕ) (c : Cursor) (st : Option (Token × Cursor)) → Next s c st → st ≡ None → tokens_at s c ≡ []
told_done s c st n e = subst (Next s c) e n

pub told_if : (s : List ℕ) (c : Cursor) (k : Kind) (st : Option (Token × Cursor)) (t : Token) (d : Cursor) → NextIf s c k st → st ≡ Some (t, d) → (t.kind ≡ k) × Took s c t d
told_if s c k st t d n e = subst (NextIf s c k) e n

pub told_none : (s : List ℕ) (c : Cursor) (k : Kind) (st : Option (Token × Cursor)) → NextIf s c k st → st ≡ None → starts_with k (tokens_at s c) ≡ false
told_none s c k st n e = subst (NextIf s c k) e n

-- a rule at the token that was read, by what its kind is to the rule; and at the end of the list
pub rule_at : {A : Type 0} (s : List ℕ) (c d : Cursor) (t : Token) (rule : List Tok → Out) (class : Kind → A) (step : A → Out) (x y : A)
    → Took s c t d → rule (tok t.kind t.start t.end ∷ tokens_at s d) ≡ step (class t.kind) → x ≡ class t.kind → x ≡ y
    → rule (tokens_at s c) ≡ step y
rule_at s c d t rule class step x y k e p q = ap rule k.seen ∙ e ∙ ap step (sym p ∙ q)

pub at_token : {A : Type 0} (all : List Tok) (o : Bufs) (s : List ℕ) (c d : Cursor) (t : Token) (rule : List Tok → Out) (class : Kind → A) (step : A → Out) (x y : A)
    → Took s c t d → rule (tok t.kind t.start t.end ∷ tokens_at s d) ≡ step (class t.kind) → x ≡ class t.kind → x ≡ y
    → run all (rule (tokens_at s c)) o ≡ run all (step y) o
at_token all o s c d t rule class step x y k e p q = ap (λ (r : Out). run all r o) (rule_at s c d t rule class step x y k e p q)

pub rule_end : (s : List ℕ) (c : Cursor) (rule rule' : List Tok → Out) → tokens_at s c ≡ [] → rule [] ≡ rule' [] → rule (tokens_at s c) ≡ rule' (tokens_at s c)
rule_end s c rule rule' e q = ap rule e ∙ q ∙ ap rule' (sym e)

pub at_end : (all : List Tok) (o : Bufs) (s : List ℕ) (c : Cursor) (rule rule' : List Tok → Out) → tokens_at s c ≡ [] → rule [] ≡ rule' [] → run all (rule (tokens_at s c)) o ≡ run all (rule' (tokens_at s c)) o
at_end all o s c rule rule' e q = ap (λ (r : Out). run all r o) (rule_end s c rule rule' e q)

-- the same rule, otherwise written
pub by_rule : (all : List Tok) (o : Bufs) (r r' : Out) → r ≡ r' → run all r o ≡ run all r' o
by_rule all o r r' e = ap (λ (x : Out). run all x o) e

-- a walk after one item
pub after_item : {s : List ℕ} {r : Out} {c : Cursor} {o₁ : Bufs} {a b : List ℕ} {w : Walk} (i : Item) (o : Bufs) → ((all : List Tok) → o₁ ≡ put all i o) → Goes s r c o₁ a b w → Goes s (i ▹ r) c o a b w
after_item {r = r} {o₁ = o₁} i o p g = record { is = λ base q. g.is base q ∙ sym (first_item _ r i o o₁ (p _)); good = g.good; on = g.on; base = g.base }

-- a walk without a loop
pub goes_by : {s : List ℕ} (r : Out) (c : Cursor) (o : Bufs) (a b : List ℕ) (w : Walk) → ((base : ℕ) → c.base ≡ base → run (all_tokens s base) r o ≡ end_of s a b w) → Good s w.cur → c.at ≤ w.cur.at → w.cur.base ≡ c.base → Goes s r c o a b w
goes_by r c o a b w e g h q = record { is = λ base p. sym (e base p); good = g; on = h; base = q }

-- a walk on from where another ended
pub goes_on_lem : {s : List ℕ} {g : Out} {c : Cursor} {o : Bufs} {a b a' b' : List ℕ} {w w' : Walk} (f : List Tok → Out) → Goes s g c o a b w → Goes s (f (tokens_at s w.cur)) w.cur (bufs a b w.n) a' b' w' → Goes s (g then f) c o a' b' w'
goes_on_lem {s} {g} {o = o} {a} {b} {w = w} f x y = record { is = λ base q. y.is base (x.base ∙ q) ∙ sym (then_on _ g f o s a b w (x.is base q)); good = y.good; on = omega (arith, x.on, y.on); base = y.base ∙ x.base }

-- a walk by a rule is a walk by an equal rule
pub goes_as : {s : List ℕ} {r r' : Out} {c : Cursor} {o : Bufs} {a b : List ℕ} {w : Walk} → r ≡ r' → Goes s r c o a b w → Goes s r' c o a b w
goes_as {s} {c = c} {o} {a} {b} {w} e g = subst (λ (x : Out). Goes s x c o a b w) e g

-- a walk at a cursor past the token: the token was read before
pub goes_past : {s : List ℕ} {r : Out} {c d : Cursor} {t : Token} {o : Bufs} {a b : List ℕ} {w : Walk} → Took s c t d → Goes s r d o a b w → Goes s r c o a b w
goes_past k g = record { is = λ base q. g.is base (k.base ∙ q); good = g.good; on = omega (arith, k.on, g.on); base = g.base ∙ k.base }

-- the tokens that a walk leaves
pub goes_rest : {s : List ℕ} {r : Out} {c : Cursor} {o : Bufs} {a b : List ℕ} {w : Walk} → Goes s r c o a b w → tokens_at s w.cur ≡ r.rest
unfolding run
goes_rest {c = c} g = ap (λ (x : End). x.rest) (g.is c.base refl)

-- on with the loop from where a walk ended
pub then_goes : {s : List ℕ} {g : Out} {d : Cursor} {o : Bufs} {a b : List ℕ} {w : Walk} (f : List Tok → Out) → Goes s g d o a b w → (base : ℕ) → d.base ≡ base → run (all_tokens s base) (g then f) o ≡ run (all_tokens s base) (f (tokens_at s w.cur)) (bufs a b w.n)
then_goes {s} {g} {d} {o} {a} {b} {w} f x base q = then_on (all_tokens s base) g f o s a b w (x.is base q)
