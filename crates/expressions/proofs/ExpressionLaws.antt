-- Laws of expressions: what comes before `=`. Assumes nothing.
use Rattle.std.specs.Prelude.{Ok, Err}
use mathlib.Core.Path.{◌≡◌, refl, ap, sym, subst, ◌∙◌}
use mathlib.Core.Bool.{Bool, true, false, false≢true}
use mathlib.Core.List.{List, [], ◌∷◌}
use mathlib.Core.Logic.{◌⊎◌, ⊎_elim}
use Prim.Native.Nat.{ℕ, ◌+◌, ◌≤◌}
use native.Mathlib.Omega.{arith}
use lib.ListN.{length}
use borrow.Author.Tests.{eqb-true}
use Rattle.token.specs.Kinds.{number_of}
use Rattle.token.specs.KindLaws.{same_kind}
use Rattle.token.specs.Tokens.{Tok, tok, tokens_at, Good, Took, starts_with}
use Rattle.token.specs.declared.kind.Kind.{Kind}
use Rattle.token.specs.declared.kind.Kind.TheVariants.{Dot, Equals}
use Rattle.token.specs.declared.cursor.Token.{Token}
use Rattle.token.specs.declared.cursor.Cursor.{Cursor}
use Rattle.rules.specs.Out.{Out, done, ◌then◌}
use Rattle.rules.specs.Keys.{opt_whitespace, opt_dot_keys, dot_keys}
use Rattle.output.specs.declared.emitting.Counts.{Counts}
use Rattle.output.specs.declared.emitting.Walk.{Walk}
use Rattle.output.specs.Pour.{Bufs, bufs}
use Rattle.output.specs.Walks.{Goes}
use Rattle.output.specs.MeetLaws.{met_at}
use Rattle.output.specs.WalkLaws.{by_rule, run_done, goes_by, goes_on_lem, goes_rest}
use Rattle.nest.specs.Nested.{NestWalk, walk_of, is_stopped, Nested}
use Rattle.key_dots.specs.DotLaws.{beyond_dot}
use Rattle.key_dots.specs.SpaceLaws.{keys_from}

-- what is read before `=` is looked for: the rest of the key, and whitespace behind it
pub record Before (s : List ℕ) (c : Cursor) (o : Bufs) (a b : List ℕ) (w : Walk) : Type 0 where
  pub goes : Goes s (opt_dot_keys (tokens_at s c) then opt_whitespace) c o a b w
  pub dotted : starts_with Dot (tokens_at s c) ≡ true → c.at + 1 ≤ w.cur.at

-- by three walks
pub before_dots : {s : List ℕ} {c : Cursor} {o : Bufs} {a b a' b' a'' b'' : List ℕ} {w w' w'' : Walk} → Good s c → Goes s (opt_whitespace (tokens_at s c)) c o a b w
    → Goes s (dot_keys (tokens_at s w.cur)) w.cur (bufs a b w.n) a' b' w' → Goes s (opt_whitespace (tokens_at s w'.cur)) w'.cur (bufs a' b' w'.n) a'' b'' w'' → Before s c o a'' b'' w''
before_dots {s} {c} g x y z = record { goes = goes_on_lem opt_whitespace (keys_from x y) z; dotted = λ e. omega (arith, beyond_dot s c g (keys_from x y) e, z.on) }

-- by one, if `=` comes at once: there are no dots, and no more whitespace
stays : {s a b : List ℕ} {n : Counts} (c d : Cursor) (t : Token) (f : List Tok → Out) → Good s c → (t.kind ≡ Equals) × Took s c t d → ((x y : ℕ) (ts : List Tok) → f (tok Equals x y ∷ ts) ≡ done (tok Equals x y ∷ ts))
    → Goes s (f (tokens_at s c)) c (bufs a b n) a b (record { cur = c; n = n })
stays {s} c d t f g k h =
    let e : tokens_at s c ≡ tok Equals t.start t.end ∷ tokens_at s d = k.1.seen ∙ ap (λ (j : Kind). tok j t.start t.end ∷ tokens_at s d) k.0 in
    goes_by _ _ _ _ _ _ (λ base q. by_rule _ _ _ _ (ap f e ∙ h t.start t.end (tokens_at s d) ∙ ap done (sym e)) ∙ run_done _ _ _ _ _ _) g (omega arith) refl

pub before_equals : {s : List ℕ} {c d : Cursor} {t : Token} {o : Bufs} {a b : List ℕ} {w : Walk} → Good s c → Goes s (opt_whitespace (tokens_at s c)) c o a b w → (t.kind ≡ Equals) × Took s w.cur t d → Before s c o a b w
before_equals {d = d} {t} {w = w} g x k = before_dots g x (stays w.cur d t dot_keys x.good k (λ x y ts. refl)) (stays w.cur d t opt_whitespace x.good k (λ x y ts. refl))

-- where the two ways meet; the buffers are as long as they were
abbrev pub Met : List ℕ → Cursor → Bufs → List ℕ → List ℕ → Walk → ℕ → ℕ → Type 0
Met s c o a b w k l = Before s c o a b w × (length a ≡ k) × (length b ≡ l)

pub meet : {s : List ℕ} {c cur : Cursor} {n : Counts} {o : Bufs} {a b a' b' : List ℕ} {k l : ℕ} (w : Walk) → a' ≡ a → b' ≡ b → cur ≡ w.cur → n ≡ w.n → Met s c o a b w k l → Met s c o a' b' (record { cur = cur; n = n }) k l
meet {s} {c} {o = o} {k = k} {l} w u v p q x = met_at (λ (a b : List ℕ) (cur : Cursor) (n : Counts). Met s c o a b (record { cur = cur; n = n }) k l) u v p q x

pub either : {A B : Type 0} (P : Type 0) → A ⊎ B → (A → P) → (B → P) → P
either P x f g = ⊎_elim f g x

-- `=` at the start is still there
first_equals : (ts : List Tok) → starts_with Equals ts ≡ true → (opt_dot_keys ts then opt_whitespace).rest ≡ ts
first_equals [] e = refl
first_equals (tok k a b ∷ ts) e = subst (λ (j : Kind). (opt_dot_keys (tok j a b ∷ ts) then opt_whitespace).rest ≡ tok j a b ∷ ts) (sym (same_kind k Equals (eqb-true (number_of k) (number_of Equals) e))) refl

pub equals_first : {s : List ℕ} {c : Cursor} {o : Bufs} {a b : List ℕ} {w : Walk} → Before s c o a b w → starts_with Equals (tokens_at s w.cur) ≡ false → starts_with Equals (tokens_at s c) ≡ true → ⊥
equals_first {s} {c} x h e = false≢true (sym h ∙ ap (starts_with Equals) (goes_rest x.goes ∙ first_equals (tokens_at s c) e) ∙ e)
