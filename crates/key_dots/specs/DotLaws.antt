-- Laws of a key that begins with a dot, which is read again after a step back. Proved; nothing here needs to be believed.
use Rattle.std.specs.Prelude.{◌≡◌, true, List, [], ◌∷◌, ℕ, suc, ◌+◌, ◌≤◌, length}
use Rattle.std.proofs.Common.{ap, ◌∙◌, arith, eqb-true}
use Rattle.std.proofs.lemmas.Bool.{false≢true}
use Rattle.token.specs.Tokens.{Tok, tok, tokens_at, Good, Took, Back, starts_with}
use Rattle.token.specs.Kinds.{number_of}
use Rattle.token.specs.KindLaws.{same_kind}
use Rattle.token.specs.CursorLaws.{back_past, left_length}
use Rattle.token.specs.declared.kind.Kind.{Kind}
use Rattle.token.specs.declared.kind.Kind.TheVariants.{Dot}
use Rattle.token.specs.declared.cursor.Token.{Token}
use Rattle.token.specs.declared.cursor.Cursor.{Cursor}
use Rattle.rules.specs.Costs.{not_back}
use Rattle.rules.proofs.KeyCosts.{after_dot_costs}
use Rattle.rules.specs.Keys.{opt_dot_keys, after_dot}
use Rattle.output.specs.declared.emitting.Walk.{Walk}
use Rattle.output.specs.Pour.{Bufs}
use Rattle.output.specs.Walks.{Goes}
use Rattle.output.specs.WalkLaws.{goes_as, goes_rest}
use Rattle.key_dots.specs.KeyWalks.{ReadDot}

-- what follows a dot gives no tokens back
after_dot_short : (ts : List Tok) (d : ℕ) → length (after_dot ts d).rest ≤ length ts
after_dot_short ts d = not_back 1 (omega arith) (after_dot_costs ts d)

-- a key that begins with the dot that was read goes past it
pub past_dot : (s : List ℕ) (c : Cursor) (t : Token) (d e : Cursor) {o : Bufs} {a b : List ℕ} {w : Walk} → Good s c → Took s c t d → Back s d e → t.kind ≡ Dot → Goes s (opt_dot_keys (tokens_at s e)) e o a b w → c.at + 1 ≤ w.cur.at
past_dot s c t d e {w = w} g k h i x =
    let z : tokens_at s e ≡ tok Dot t.start t.end ∷ tokens_at s d = ap (tokens_at s) (back_past s c t d e g k h) ∙ k.seen ∙ ap (λ (j : Kind). tok j t.start t.end ∷ tokens_at s d) i in
    let l : length (tokens_at s w.cur) ≤ length (tokens_at s d) = rw (goes_rest x, z) (after_dot_short (tokens_at s d) t.end) in
    omega (arith, l, left_length s w.cur, left_length s d, x.good.low, k.on, k.left, k.good.low)

-- and gives what the rule says from the dot on
pub from_dot : (s : List ℕ) (c : Cursor) (t : Token) (d e : Cursor) → Good s c → Took s c t d → Back s d e → opt_dot_keys (tokens_at s e) ≡ opt_dot_keys (tok t.kind t.start t.end ∷ tokens_at s d)
from_dot s c t d e g k h = ap opt_dot_keys (ap (tokens_at s) (back_past s c t d e g k h) ∙ k.seen)

-- so that it is a walk from behind the dot on
pub dot_goes : {s : List ℕ} {t : Token} {c d : Cursor} {o : Bufs} {a b : List ℕ} {w : Walk} → ReadDot s t c → Back s c d → Goes s (opt_dot_keys (tokens_at s d)) d o a b w → Goes s (opt_dot_keys (tok t.kind t.start t.end ∷ tokens_at s c)) c o a b w
dot_goes {s} {t} {c} {d} r h x =
    let y = goes_as (from_dot s r.from t c d r.good r.took h) x in
    record {
      is = λ base q. y.is base (h.base ∙ q);
      good = x.good;
      on = omega (arith, past_dot s r.from t c d r.good r.took h r.dot x, r.took.on);
      base = x.base ∙ h.base;
    }

-- where the list starts with a dot, the key goes past it
pub beyond_dot : (s : List ℕ) (c : Cursor) {o : Bufs} {a b : List ℕ} {w : Walk} → Good s c → Goes s (opt_dot_keys (tokens_at s c)) c o a b w → starts_with Dot (tokens_at s c) ≡ true → c.at + 1 ≤ w.cur.at
beyond_dot s c {w = w} g x e =
    let l : length (tokens_at s w.cur) + 1 ≤ length (tokens_at s c) = rw (goes_rest x) (dotted (tokens_at s c) e) in
    omega (arith, l, left_length s w.cur, left_length s c, x.good.low, g.low)
  where
    by_kind : (k : Kind) (a b : ℕ) (ts : List Tok) → k ≡ Dot → length (opt_dot_keys (tok k a b ∷ ts)).rest + 1 ≤ suc (length ts)
    by_kind k a b ts q = rw q (omega (arith, after_dot_short ts b))

    dotted : (ts : List Tok) → starts_with Dot ts ≡ true → length (opt_dot_keys ts).rest + 1 ≤ length ts
    dotted [] q = absurd (false≢true q)
    dotted (tok k a b ∷ ts) q = by_kind k a b ts (same_kind k Dot (eqb-true (number_of k) (number_of Dot) q))
