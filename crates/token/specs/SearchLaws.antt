-- Laws of the search backward, which goes by records from the cursor down. Proved; nothing here needs to be believed.
use Rattle.std.specs.Prelude.{◌≡◌, refl, true, false, cond, List, [], ◌∷◌, ◌++◌, ℕ, zero, suc, ◌+◌, ◌-◌, ◌<◌, ◌≤◌, length, take, drop}
use Rattle.std.proofs.Common.{ap, sym, ◌∙◌, arith, add-zero, not-suc-le-zero, le_trans, length-take, drop_of_length-le}
use Rattle.std.proofs.Math.Nat.{min-le_left, min-eq_left}
use Rattle.std.proofs.lemmas.List.{drop-append-le}
use Rattle.token.specs.declared.kind.Kind.{Kind}
use Rattle.token.specs.declared.span.Span.{Span}
use Rattle.token.specs.declared.cursor.Cursor.{Cursor}
use Rattle.token.specs.declared.cursor.Sought.{Sought}
use Rattle.token.specs.Records.{count, length_at, kind_at, start_at}
use Rattle.token.specs.Tokens.{Tok, tok, tokens_from, all_tokens, tokens_at, Good}
use Rattle.token.specs.Search.{is_sought, nearest, nearest_between}
use Rattle.token.specs.CursorLaws.{backed, all_length, left_length}

-- one more token at the end of a list
nearest_snoc : (what : Sought) (none : Span) (ts : List Tok) (k : Kind) (a b : ℕ) → nearest what none (ts ++ (tok k a b ∷ [])) ≡ cond (is_sought what k) (record { start = a; end = b }) (nearest what none ts)
nearest_snoc what none [] k a b = refl
nearest_snoc what none (tok j x y ∷ ts) k a b = nearest_snoc what (cond (is_sought what j) (record { start = x; end = y }) none) ts k a b

take_snoc : (n : ℕ) (s : List ℕ) (b j i : ℕ) → i < n → take (suc i) (tokens_from n s j (start_at s b j)) ≡ take i (tokens_from n s j (start_at s b j)) ++ (tok (kind_at s (j + i)) (start_at s b (j + i)) (start_at s b (suc (j + i))) ∷ [])
unfolding tokens_from start_at
take_snoc zero s b j i h = absurd (omega arith)
take_snoc (suc n) s b j zero h = rw (add-zero j)
take_snoc (suc n) s b j (suc i) h =
    let e : j + suc i ≡ suc j + i = omega arith in
    rw e (ap (λ (l : List Tok). tok (kind_at s j) (start_at s b j) (start_at s b (suc j)) ∷ l) (take_snoc n s b (suc j) i (omega arith)))

all_snoc : (s : List ℕ) (b i : ℕ) → suc i ≤ count s → take (suc i) (all_tokens s b) ≡ take i (all_tokens s b) ++ (tok (kind_at s i) (start_at s b i) (start_at s b (suc i)) ∷ [])
unfolding start_at all_tokens
all_snoc s b i h = let e : 0 + i ≡ i = omega arith in (rw e at (take_snoc (count s) s b 0 i h))

-- one record more, behind the first that counts
pub nearest_step : (s : List ℕ) (b first i : ℕ) (what : Sought) (none : Span) → first ≤ i → suc i ≤ count s
    → nearest_between what none first (suc i) (all_tokens s b) ≡ cond (is_sought what (kind_at s i)) (record { start = start_at s b i; end = start_at s b (suc i) }) (nearest_between what none first i (all_tokens s b))
nearest_step s b first i what none f h =
    let l : i ≤ count s = omega (arith, h) in
    let few : first ≤ length (take i (all_tokens s b)) = rw (length-take i (all_tokens s b), all_length s b, min-eq_left l) f in
    ap (λ (ts : List Tok). nearest what none (drop first ts)) (all_snoc s b i h)
    ∙ ap (nearest what none) (drop-append-le first (take i (all_tokens s b)) _ few)
    ∙ nearest_snoc what none (drop first (take i (all_tokens s b))) (kind_at s i) (start_at s b i) (start_at s b (suc i))

-- no record counts
pub nearest_none : (s : List ℕ) (b first at : ℕ) (what : Sought) (none : Span) → at ≤ first → nearest_between what none first at (all_tokens s b) ≡ none
nearest_none s b first at what none h =
    let few : length (take at (all_tokens s b)) ≤ first = rw (length-take at (all_tokens s b)) (le_trans (min-le_left at (length (all_tokens s b))) h) in
    ap (nearest what none) (drop_of_length-le (take at (all_tokens s b)) few)

-- the record before the place is not what is sought
pub nearest_miss : (s : List ℕ) (b first at : ℕ) (what : Sought) (none : Span) → first < at → at ≤ count s → is_sought what (kind_at s (at - 1)) ≡ false
    → nearest_between what none first at (all_tokens s b) ≡ nearest_between what none first (at - 1) (all_tokens s b)
nearest_miss s b first zero what none h l e = absurd (not-suc-le-zero h)
nearest_miss s b first (suc i) what none h l e = let q : suc i - 1 ≡ i = omega arith in rw q (nearest_step s b first i what none (omega (arith, h)) l ∙ rw (rw q at e))

-- it is: its span, where its record is len long
pub nearest_hit : (s : List ℕ) (b first at place len : ℕ) (what : Sought) (none : Span) → Good s (record { base = b; at = at; place = place }) → first < at → len ≡ length_at s (at - 1) → is_sought what (kind_at s (at - 1)) ≡ true
    → record { start = place - len; end = place } ≡ nearest_between what none first at (all_tokens s b)
nearest_hit s b first zero place len what none g h el e = absurd (not-suc-le-zero h)
nearest_hit s b first (suc i) place len what none g h el e =
    let q : suc i - 1 ≡ i = omega arith in
    let p : place - len ≡ start_at s b i = rw q at (backed s (record { base = b; at = suc i; place = place }) len g (omega arith) el).good.here in
    (λ j. record { start = p j; end = g.here j }) ∙ sym (nearest_step s b first i what none (omega (arith, h)) g.low ∙ rw (rw q at e))

-- the record of a cursor, by the tokens that are left there
pub at_left : (s : List ℕ) (c : Cursor) → Good s c → c.at ≡ length (all_tokens s c.base) - length (tokens_at s c)
at_left s c g = omega (arith, all_length s c.base, left_length s c, g.low)
