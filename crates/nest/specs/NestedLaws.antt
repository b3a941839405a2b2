-- Laws of walks that may be refused one more level. Proved; nothing here needs to be believed.
use Rattle.std.specs.Prelude.{◌≡◌, refl, Bool, true, false, List, [], ◌∷◌, ℕ, suc, ◌≤◌, length, Ok, Err, IsErrAnd}
use Rattle.std.proofs.Common.{ap, sym, subst, ◌∙◌, arith}
use Rattle.std.proofs.lemmas.Bool.{false≢true}
use Rattle.token.specs.Tokens.{Tok, all_tokens, tokens_at, Good, Took}
use Rattle.token.specs.declared.cursor.Token.{Token}
use Rattle.token.specs.declared.cursor.Cursor.{Cursor}
use Rattle.rules.specs.Out.{Item, Out, done, ◌▹◌, ◌then◌}
use Rattle.output.specs.declared.emitting.Counts.{Counts}
use Rattle.output.specs.declared.emitting.Walk.{Walk}
use Rattle.output.specs.Pour.{Bufs, bufs, refused, put, pour}
use Rattle.output.specs.Walks.{End, run, Goes}
use Rattle.output.specs.WalkLaws.{pour_append, then_on, goes_rest}
use Rattle.nest.specs.declared.nest.TooDeep.{TooDeep}
use Rattle.nest.specs.Nested.{NestWalk, walk_of, is_stopped, out_of, Nested}

-- nothing is poured after a refusal
pub pour_refused : (all : List Tok) (is : List Item) (a b : List ℕ) (n : Counts) (k : ℕ) → pour all is (refused a b n k) ≡ refused a b n k
unfolding put refused
pour_refused all [] a b n k = refl
pour_refused all (i ∷ is) a b n k = pour_refused all is a b n k

pub pour_stopped : (s : List ℕ) (all : List Tok) (y : Bool) → y ≡ true → (a b : List ℕ) (n : Counts) (c : Cursor) (is : List Item) → pour all is (out_of y s a b n c) ≡ out_of y s a b n c
pour_stopped s all true e a b n c is = pour_refused all is a b n (suc (length (tokens_at s c)))
pour_stopped s all false e a b n c is = absurd (false≢true e)

-- the buffers of a walk that was not refused
pub out_on : (s a b : List ℕ) (n : Counts) (c : Cursor) (z : Bufs) (y : Bool) → y ≡ false → out_of y s a b n c ≡ z → bufs a b n ≡ z
out_on s a b n c z true e h = absurd (false≢true (sym e))
out_on s a b n c z false e h = h

-- a walk that cannot be refused
pub nested_goes : {s : List ℕ} {r : Out} {c : Cursor} {o : Bufs} {a b : List ℕ} {w : Walk} → Goes s r c o a b w → Nested s r c o a b (Ok w)
unfolding run
nested_goes g = record { wrote = λ base q. ap (λ (x : End). x.out) (g.is base q); rest = λ e. goes_rest g; good = g.good; on = g.on; base = g.base }

-- an answer that is made by a function
pub nested_same : {s : List ℕ} {r : Out} {c : Cursor} {o : Bufs} {a b : List ℕ} {v v' : NestWalk} → v ≡ v' → Nested s r c o a b v' → Nested s r c o a b v
nested_same {s} {r} {c} {o} {a} {b} e g = subst (λ (x : NestWalk). Nested s r c o a b x) (sym e) g

-- what `?` hands on: the walk of one that was not refused, and the refusal as it is
pub nested_ok : {s : List ℕ} {r : Out} {c : Cursor} {o : Bufs} {a b : List ℕ} {v : NestWalk} {w : Walk} → Nested s r c o a b v → v ≡ Ok w → Nested s r c o a b (Ok w)
nested_ok x e = nested_same (sym e) x

err_is : (v : NestWalk) (e : TooDeep) → IsErrAnd v (λ x. x ≡ e) → v ≡ Err e
err_is (Ok w) e q = absurd q
err_is (Err x) e q = ap Err q

pub nested_err : {s : List ℕ} {r : Out} {c : Cursor} {o : Bufs} {a b : List ℕ} {v v' : NestWalk} {e : TooDeep} → Nested s r c o a b v → v ≡ Err e → IsErrAnd v' (λ x. x ≡ e) → Nested s r c o a b v'
nested_err {v' = v'} {e} x p q = nested_same (err_is v' e q ∙ sym p) x

-- after one item; by an equal rule; past a token that was read
pub nested_item : {s : List ℕ} {r : Out} {c : Cursor} {o₁ : Bufs} {a b : List ℕ} {v : NestWalk} (i : Item) (o : Bufs) → ((all : List Tok) → o₁ ≡ put all i o) → Nested s r c o₁ a b v → Nested s (i ▹ r) c o a b v
nested_item {s} {r} i o p g = record { wrote = λ base q. g.wrote base q ∙ ap (pour (all_tokens s base) r.items) (p (all_tokens s base)); rest = g.rest; good = g.good; on = g.on; base = g.base }

pub nested_as : {s : List ℕ} {r r' : Out} {c : Cursor} {o : Bufs} {a b : List ℕ} {v : NestWalk} → r ≡ r' → Nested s r c o a b v → Nested s r' c o a b v
nested_as {s} {c = c} {o} {a} {b} {v} e g = subst (λ (x : Out). Nested s x c o a b v) e g

pub nested_past : {s : List ℕ} {r : Out} {c d : Cursor} {t : Token} {o : Bufs} {a b : List ℕ} {v : NestWalk} → Took s c t d → Nested s r d o a b v → Nested s r c o a b v
nested_past k g = record { wrote = λ base q. g.wrote base (k.base ∙ q); rest = g.rest; good = g.good; on = omega (arith, k.on, g.on); base = g.base ∙ k.base }

-- on from where a walk ended that was not refused; and one that was
pub nested_on : {s : List ℕ} {g : Out} {c : Cursor} {o : Bufs} {a b a' b' : List ℕ} {v v' : NestWalk} (f : List Tok → Out) → Nested s g c o a b v → (is_stopped v) ≡ false → Nested s (f (tokens_at s (walk_of v).cur)) (walk_of v).cur (bufs a b (walk_of v).n) a' b' v' → Nested s (g then f) c o a' b' v'
nested_on {s} {g} {o = o} {a} {b} {v = v} {v'} f x e y =
    record {
      wrote = λ base q.
          y.wrote base (x.base ∙ q)
          ∙ ap (λ (ts : List Tok). pour (all_tokens s base) (f ts).items (bufs a b (walk_of v).n)) (x.rest e)
          ∙ ap (pour (all_tokens s base) (f g.rest).items) (out_on s a b (walk_of v).n (walk_of v).cur _ (is_stopped v) e (x.wrote base q))
          ∙ sym (pour_append (all_tokens s base) g.items (f g.rest).items o);
      rest = λ h. y.rest h ∙ ap (λ (ts : List Tok). (f ts).rest) (x.rest e);
      good = y.good;
      on = omega (arith, x.on, y.on);
      base = y.base ∙ x.base;
    }

pub nested_stop : {s : List ℕ} {g : Out} {c : Cursor} {o : Bufs} {a b : List ℕ} {v : NestWalk} (f : List Tok → Out) → Nested s g c o a b v → (is_stopped v) ≡ true → Nested s (g then f) c o a b v
nested_stop {s} {g} {o = o} {a} {b} {v} f x e =
    record {
      wrote = λ base q.
          sym (pour_stopped s (all_tokens s base) (is_stopped v) e a b (walk_of v).n (walk_of v).cur (f g.rest).items)
          ∙ ap (pour (all_tokens s base) (f g.rest).items) (x.wrote base q)
          ∙ sym (pour_append (all_tokens s base) g.items (f g.rest).items o);
      rest = λ h. absurd (false≢true (sym h ∙ e));
      good = x.good;
      on = x.on;
      base = x.base;
    }

-- on from where a walk ended that cannot be refused
pub nested_after : {s : List ℕ} {g : Out} {c : Cursor} {o : Bufs} {a b a' b' : List ℕ} {w : Walk} {v : NestWalk} (f : List Tok → Out) → Goes s g c o a b w → Nested s (f (tokens_at s w.cur)) w.cur (bufs a b w.n) a' b' v → Nested s (g then f) c o a' b' v
nested_after f x y = nested_on f (nested_goes x) refl y

-- nothing more is walked
pub nested_done : {s : List ℕ} (c : Cursor) (a b : List ℕ) (n : Counts) → Good s c → Nested s (done (tokens_at s c)) c (bufs a b n) a b (Ok (record { cur = c; n = n }))
nested_done c a b n g = record { wrote = λ base q. refl; rest = λ e. refl; good = g; on = omega arith; base = refl }

-- a rule that goes on after a walk that was not refused goes on from where the walk ended
pub then_nested : {s : List ℕ} {g : Out} {c : Cursor} {o : Bufs} {a b : List ℕ} {v : NestWalk} (f : List Tok → Out) (base : ℕ) → c.base ≡ base → Nested s g c o a b v → (is_stopped v) ≡ false → run (all_tokens s base) (g then f) o ≡ run (all_tokens s base) (f (tokens_at s (walk_of v).cur)) (bufs a b (walk_of v).n)
unfolding run
then_nested {s} {g} {o = o} {a} {b} {v} f base q x e =
    let z : bufs a b (walk_of v).n ≡ pour (all_tokens s base) g.items o = out_on s a b (walk_of v).n (walk_of v).cur _ (is_stopped v) e (x.wrote base q) in
    then_on (all_tokens s base) g f o s a b (record { cur = (walk_of v).cur; n = (walk_of v).n }) (λ i. record { out = z i; rest = x.rest e i })

-- a walk by a rule that gives on o what another gives on o₀, from an earlier cursor
pub nested_from : {s : List ℕ} {r start : Out} {c c₀ : Cursor} {o o₀ : Bufs} {a b : List ℕ} {v : NestWalk} → run (all_tokens s c₀.base) r o ≡ run (all_tokens s c₀.base) start o₀ → c₀.at ≤ c.at → c.base ≡ c₀.base → Nested s r c o a b v → Nested s start c₀ o₀ a b v
unfolding run
nested_from {s} {start = start} {o₀ = o₀} {a} {b} {v} q h e x =
    record {
      wrote = λ base p. subst (λ (u : ℕ). out_of (is_stopped v) s a b (walk_of v).n (walk_of v).cur ≡ pour (all_tokens s u) start.items o₀) p (x.wrote _ e ∙ ap (λ (k : End). k.out) q);
      rest = λ f. x.rest f ∙ ap (λ (k : End). k.rest) q;
      good = x.good;
      on = omega (arith, h, x.on);
      base = x.base ∙ e;
    }
