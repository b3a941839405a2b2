-- Laws of cursors and of the tokens that are left. Proved; nothing here needs to be believed.
use Rattle.std.specs.Prelude.{◌≡◌, refl, List, [], ◌∷◌, ℕ, zero, suc, ◌+◌, ◌-◌, ◌<◌, ◌≤◌, length}
use Rattle.std.proofs.Common.{ap, sym, ◌∙◌, arith, zero-add, suc-add, add-one}
use Rattle.token.specs.declared.kind.Kind.{Kind}
use Rattle.token.specs.declared.cursor.Token.{Token}
use Rattle.token.specs.declared.cursor.Cursor.{Cursor}
use Rattle.token.specs.Limits.{max_end}
use Rattle.token.specs.Records.{count, length_at, kind_at, start_at}
use Rattle.token.specs.Tokens.{tok, tokens_from, all_tokens, tokens_at, Good, Took, Back}

-- later records start later
starts_up : (s : List ℕ) (b k i : ℕ) → start_at s b i ≤ start_at s b (k + i)
unfolding start_at
starts_up s b zero i = rw zero-add (omega arith)
starts_up s b (suc k) i = rw (suc-add k i) (omega (arith, starts_up s b k i))

pub starts_rise : (s : List ℕ) (b i j : ℕ) → i ≤ j → start_at s b i ≤ start_at s b j
starts_rise s b i j h = let e : j - i + i ≡ j = omega arith in rw e at (starts_up s b (j - i) i)

pub start_next : (s : List ℕ) (b i : ℕ) → start_at s b (i + 1) ≡ start_at s b i + length_at s i
unfolding start_at
start_next s b i = rw add-one

-- the next token's end is within the limit, and the length of the one before fits
pub next_fits : (s : List ℕ) (c : Cursor) → Good s c → c.at < count s → c.place + length_at s c.at ≤ max_end
next_fits s c g h = omega (arith, g.here, g.most, start_next s c.base c.at, starts_rise s c.base (c.at + 1) (count s) (omega arith))

pub back_fits : (s : List ℕ) (c : Cursor) → Good s c → 0 < c.at → length_at s (c.at - 1) ≤ c.place
back_fits s c g h =
    let e : c.at - 1 + 1 ≡ c.at = omega arith in
    omega (arith, g.here, rw e at (start_next s c.base (c.at - 1)))

-- the tokens that are left, one by one
tokens_cons : (s : List ℕ) (i p : ℕ) → i < count s → tokens_from (count s - i) s i p ≡ tok (kind_at s i) p (p + length_at s i) ∷ tokens_from (count s - (i + 1)) s (i + 1) (p + length_at s i)
unfolding tokens_from
tokens_cons s i p h =
    let e : count s - i ≡ suc (count s - (i + 1)) = omega arith in
    rw (e, add-one)

pub tokens_none : (s : List ℕ) (c : Cursor) → count s ≤ c.at → tokens_at s c ≡ []
unfolding tokens_at tokens_from
tokens_none s c h = let e : count s - c.at ≡ 0 = omega arith in rw e

from_length : (n : ℕ) (s : List ℕ) (i p : ℕ) → length (tokens_from n s i p) ≡ n
unfolding tokens_from
from_length zero s i p = refl
from_length (suc n) s i p = ap suc (from_length n s (suc i) (p + length_at s i))

pub left_length : (s : List ℕ) (c : Cursor) → length (tokens_at s c) ≡ count s - c.at
unfolding tokens_at
left_length s c = from_length (count s - c.at) s c.at c.place

pub all_length : (s : List ℕ) (b : ℕ) → length (all_tokens s b) ≡ count s
unfolding all_tokens
all_length s b = from_length (count s) s 0 b

-- at the start all tokens are left
pub at_start : (s : List ℕ) (c : Cursor) (b : ℕ) → c.at ≡ 0 → c.place ≡ b → tokens_at s c ≡ all_tokens s b
unfolding tokens_at all_tokens
at_start s c b p q = let e : count s - 0 ≡ count s = omega arith in rw (p, q, e)

-- what `next` reads
pub took : (s : List ℕ) (c : Cursor) (len : ℕ) (k : Kind) → Good s c → c.at < count s → len ≡ length_at s c.at → k ≡ kind_at s c.at
    → Took s c (record { kind = k; start = c.place; end = c.place + len }) (record { base = c.base; at = c.at + 1; place = c.place + len })
unfolding tokens_at
took s c len k g h el ek =
    rw (el, ek)
    (record { seen = tokens_cons s c.at c.place h; left = h; on = refl; base = refl; good = record { low = omega arith; here = omega (arith, g.here, start_next s c.base c.at); most = g.most } })

-- what `back` answers
pub backed : (s : List ℕ) (c : Cursor) (len : ℕ) → Good s c → 0 < c.at → len ≡ length_at s (c.at - 1) → Back s c (record { base = c.base; at = c.at - 1; place = c.place - len })
backed s c len g h el =
    let e : c.at - 1 + 1 ≡ c.at = omega arith in
    record { on = e; base = refl; good = record { low = omega (arith, g.low); here = omega (arith, g.here, el, rw e at (start_next s c.base (c.at - 1))); most = g.most } }

-- a cursor is known by its base and its index
same_cursor : (s : List ℕ) (c d : Cursor) → Good s c → Good s d → c.base ≡ d.base → c.at ≡ d.at → c ≡ d
same_cursor s c d g h p q = let r : c.place ≡ d.place = (g.here ∙ (rw (p, q))) ∙ sym h.here in (λ i. record { base = p i; at = q i; place = r i })

-- back from past a token is where it was read
pub back_past : (s : List ℕ) (c : Cursor) (t : Token) (d e : Cursor) → Good s c → Took s c t d → Back s d e → e ≡ c
back_past s c t d e g k b = same_cursor s e c b.good g (b.base ∙ k.base) (omega (arith, b.on, k.on))
