-- Laws of points where the lines are counted: at the start, on past a token, and where a place or a record is reached. Proved; nothing here needs to be believed.
use Rattle.std.specs.Prelude.{◌≡◌, refl, Bool, true, false, cond, List, [], ◌∷◌, ℕ, zero, suc, ◌+◌, ◌-◌, ◌<◌, ◌≤◌, length, take, drop, eqb}
use Rattle.std.proofs.Common.{ap, ap₂, sym, subst, ◌∙◌, arith, add-one, add_assoc, add_comm, add-zero, not-suc-le-zero, le_of_suc-le-suc, le-leb}
use Rattle.std.proofs.lemmas.Bool.{lt-leb}
use Rattle.token.specs.declared.kind.Kind.{Kind}
use Rattle.token.specs.declared.kind.Kind.TheVariants.{Newline}
use Rattle.token.specs.declared.cursor.Token.{Token}
use Rattle.token.specs.declared.cursor.Cursor.{Cursor}
use Rattle.token.specs.declared.cursor.Sought.{Sought}
use Rattle.token.specs.Limits.{max_end}
use Rattle.token.specs.Kinds.{number_of, width_of}
use Rattle.token.specs.Records.{count, length_at, kind_at, start_at}
use Rattle.token.specs.Tokens.{Tok, tok, tokens_from, all_tokens, tokens_at, At, Good, Took}
use Rattle.token.specs.CursorLaws.{at_start, start_next, took, all_length, left_length}
use Rattle.token.specs.Laid.{Spans, Laid, laid_token}
use Rattle.token.specs.Search.{nearest}
use Rattle.rules.specs.Lines.{newlines, newlines_by, line_of}
use Rattle.rules.specs.Words.{comma_between}
use Rattle.line_points.specs.declared.points.LinePoint.{LinePoint}
use Rattle.line_points.specs.Points.{Begins, newlines_to, Counted, Toward, Numbered, Reached}

-- the start of the list
start_good : (s : List ℕ) (base : ℕ) (c : Cursor) → start_at s base (count s) ≤ max_end → At c base 0 base → Good s c
unfolding start_at
start_good s base c h a =
    record {
      low = omega (arith, a.at);
      here = a.place ∙ sym (ap₂ (start_at s) a.base a.at);
      most = subst (λ (b : ℕ). start_at s b (count s) ≤ max_end) (sym a.base) h;
    }

start_here : (s : List ℕ) (base at : ℕ) (p : LinePoint) → Begins base p → line_of (all_tokens s base) at ≡ p.line + newlines_by at (tokens_at s p.cur)
unfolding line_of
start_here s base at p b =
    add_comm (newlines_by at (all_tokens s base)) 1
    ∙ ap₂ (λ (n : ℕ) (ts : List Tok). n + newlines_by at ts) (sym b.line) (sym (at_start s p.cur base b.at.at b.at.place))

pub counted_begun : (s : List ℕ) (base : ℕ) (p : LinePoint) → start_at s base (count s) ≤ max_end → Laid base (all_tokens s base) → Begins base p → Counted s base p
unfolding newlines_to
counted_begun s base p h l b =
    record {
      good = start_good s base p.cur h b.at;
      based = b.at.base;
      counted = λ at q. start_here s base at p b;
      sum = b.line ∙ sym (ap (λ (i : ℕ). newlines_to i s + 1) b.at.at);
      whole = l;
      laid = subst (λ (i : ℕ). Laid i (tokens_at s p.cur)) (sym b.at.place) (subst (Laid base) (sym (at_start s p.cur base b.at.at b.at.place)) l);
    }

-- the start, where another point of the list is known
pub counted_again : {s : List ℕ} {base : ℕ} {p : LinePoint} (q : LinePoint) → Counted s base p → Begins base q → Counted s base q
counted_again {s} {base} {p} q x b = counted_begun s base q (subst (λ (i : ℕ). start_at s i (count s) ≤ max_end) x.based x.good.most) x.whole b

pub toward_begun : {s : List ℕ} {base : ℕ} {p : LinePoint} (at : ℕ) (q : LinePoint) → Counted s base p → Begins base q → Toward s base at q
toward_begun {s} {base} at q x b = record { point = counted_again q x b; here = start_here s base at q b }

-- a list has no more tokens than it has
take_all : (ts : List Tok) (n : ℕ) → length ts ≤ n → take n ts ≡ ts
take_all [] zero h = refl
take_all [] (suc n) h = refl
take_all (t ∷ ts) zero h = absurd (not-suc-le-zero h)
take_all (t ∷ ts) (suc n) h = ap (λ (us : List Tok). t ∷ us) (take_all ts n (le_of_suc-le-suc h))

-- a token that was read ends where the cursor past it stands
abbrev first_end : List Tok → ℕ
first_end [] = 0
first_end (tok k a b ∷ ts) = b

pub took_end : (s : List ℕ) (c : Cursor) (t : Token) (d : Cursor) → Good s c → Took s c t d → t.end ≡ c.place + length_at s c.at
took_end s c t d g k = ap first_end (sym k.seen ∙ (took s c (length_at s c.at) (kind_at s c.at) g k.left refl refl).seen)

pub took_place : (s : List ℕ) (c : Cursor) (t : Token) (d : Cursor) → Good s c → Took s c t d → d.place ≡ t.end
took_place s c t d g k =
    let e : start_at s d.base d.at ≡ start_at s c.base (c.at + 1) = ap₂ (start_at s) k.base k.on in
    let f = start_next s c.base c.at in
    omega (arith, k.good.here, e, f, g.here, took_end s c t d g k)

-- tokens that start behind a place do not count
none_from : (n : ℕ) (s : List ℕ) (i p at : ℕ) → at < p → newlines_by at (tokens_from n s i p) ≡ 0
unfolding tokens_from
none_from zero s i p at h = refl
none_from (suc n) s i p at h =
    let l : at < p + length_at s i = omega (arith, h) in
    ap₂ (λ (t : Bool) (m : ℕ). cond t (newlines (kind_at s i)) 0 + m) (lt-leb (p + length_at s i) at l) (none_from n s (suc i) (p + length_at s i) at l)

none_at : (s : List ℕ) (c : Cursor) (at : ℕ) → at < c.place → newlines_by at (tokens_at s c) ≡ 0
unfolding tokens_at
none_at s c at h = none_from (count s - c.at) s c.at c.place at h

-- one token, which ends at or before the place, or behind it
first_counts : (s : List ℕ) (c d : Cursor) (t : Token) (at : ℕ) → Took s c t d → t.end ≤ at → newlines_by at (tokens_at s c) ≡ newlines t.kind + newlines_by at (tokens_at s d)
first_counts s c d t at k h = ap (newlines_by at) k.seen ∙ ap (λ (b : Bool). cond b (newlines t.kind) 0 + newlines_by at (tokens_at s d)) (le-leb t.end at h)

pub first_behind : (s : List ℕ) (c d : Cursor) (t : Token) (at : ℕ) → Good s c → Took s c t d → at < t.end → newlines_by at (tokens_at s c) ≡ 0
first_behind s c d t at g k h =
    ap (newlines_by at) k.seen
    ∙ ap₂ (λ (b : Bool) (m : ℕ). cond b (newlines t.kind) 0 + m) (lt-leb t.end at h) (none_at s d at (subst (λ (n : ℕ). at < n) (sym (took_place s c t d g k)) h))

one_newline : (b : Bool) → cond b 1 0 ≤ 1
one_newline true = omega arith
one_newline false = omega arith

pub newlines_small : (k : Kind) → newlines k ≤ 1
newlines_small k = one_newline (eqb (number_of k) (number_of Newline))

-- one record more; there are no more Newlines than records
pub newlines_next : (s : List ℕ) (i : ℕ) → newlines_to (i + 1) s ≡ newlines_to i s + newlines (kind_at s i)
unfolding newlines_to
newlines_next s i = rw add-one

few_newlines : (i : ℕ) (s : List ℕ) → newlines_to i s ≤ i
unfolding newlines_to
few_newlines zero s = omega arith
few_newlines (suc i) s = let h = few_newlines i s in let n = newlines_small (kind_at s i) in omega (arith, h, n)

-- the token that was read is that of the cursor's record
abbrev first_kind : List Tok → Kind
first_kind [] = Kind.Eof
first_kind (tok k a b ∷ ts) = k

module _ {s : List ℕ} {c d : Cursor} {t : Token} (g : Good s c) (k : Took s c t d) where
  itself : tokens_at s c ≡ tok (kind_at s c.at) c.place (c.place + length_at s c.at) ∷ tokens_at s (record { base = c.base; at = c.at + 1; place = c.place + length_at s c.at })
  itself = (took s c (length_at s c.at) (kind_at s c.at) g k.left refl refl).seen

  pub took_kind : kind_at s c.at ≡ t.kind
  took_kind = ap first_kind (sym itself ∙ k.seen)

-- tokens that lie end to end: the first, and the others
first_spans : {p : ℕ} {kind : Kind} {a b : ℕ} {ts : List Tok} → Laid p (tok kind a b ∷ ts) → Spans (width_of kind) a b × Laid b ts
first_spans (laid_token h l) = (h, l)

module _ {s : List ℕ} {base : ℕ} {c d : Cursor} {line : ℕ} {t : Token} (x : Counted s base (record { cur = c; line = line })) (k : Took s c t d) where
  pub laid_here : Spans (width_of t.kind) t.start t.end × Laid t.end (tokens_at s d)
  laid_here = first_spans (subst (Laid c.place) k.seen x.laid)

  on_line : (n : ℕ) → n ≡ newlines t.kind → (to : ℕ) → t.end ≤ to → line_of (all_tokens s base) to ≡ line + newlines_by to (tokens_at s c) → line_of (all_tokens s base) to ≡ (line + n) + newlines_by to (tokens_at s d)
  on_line n e to h q = q ∙ ap (λ (i : ℕ). line + i) (first_counts s c d t to k h ∙ ap (λ (i : ℕ). i + newlines_by to (tokens_at s d)) (sym e)) ∙ sym (add_assoc line n (newlines_by to (tokens_at s d)))

  on_sum : (n : ℕ) → n ≡ newlines t.kind → line + n ≡ newlines_to d.at s + 1
  on_sum n e =
      let a : newlines_to d.at s ≡ newlines_to (c.at + 1) s = ap (λ (i : ℕ). newlines_to i s) k.on in
      let b = newlines_next s c.at in
      let f : n ≡ newlines (kind_at s c.at) = e ∙ ap newlines (sym (took_kind x.good k)) in
      omega (arith, a, b, f, x.sum)

  -- on past a token
  pub counted_on : (n : ℕ) → n ≡ newlines t.kind → Counted s base (record { cur = d; line = line + n })
  counted_on n e =
      let p = took_place s c t d x.good k in
      let l = took_end s c t d x.good k in
      record {
        good = k.good;
        based = k.base ∙ x.based;
        counted = λ to h. on_line n e to (omega (arith, p, h)) (x.counted to (omega (arith, p, h, l)));
        sum = on_sum n e;
        whole = x.whole;
        laid = subst (λ (i : ℕ). Laid i (tokens_at s d)) (sym p) laid_here.1;
      }

  -- there is room for one line more
  pub line_fits : (n : ℕ) → n ≡ newlines t.kind → line + n ≤ count s + 1
  line_fits n e = omega (arith, x.sum, few_newlines c.at s, k.left, e, newlines_small t.kind)

module _ {s : List ℕ} {base at : ℕ} {c d : Cursor} {line : ℕ} {t : Token} (x : Toward s base at (record { cur = c; line = line })) (k : Took s c t d) where
  -- on past a token that ends at or before the place
  pub toward_on : (n : ℕ) → n ≡ newlines t.kind → t.end ≤ at → Toward s base at (record { cur = d; line = line + n })
  toward_on n e h = record { point = counted_on x.point k n e; here = on_line x.point k n e at h x.here }

  -- the next token ends behind the place
  pub toward_behind : at < t.end → Numbered s base at (record { cur = c; line = line })
  toward_behind h = record { point = x.point; line = sym (x.here ∙ ap (λ (n : ℕ). line + n) (first_behind s c d t at x.point.good k h) ∙ add-zero line) }

-- the base of a list is that of every point of it
pub counted_own : {s : List ℕ} {base : ℕ} {p : LinePoint} → Counted s base p → Counted s p.cur.base p
counted_own {s} {p = p} x = subst (λ (b : ℕ). Counted s b p) (sym x.based) x

-- toward a record: a counted point that is not past it
pub record Before (s : List ℕ) (base past : ℕ) (p : LinePoint) : Type 0 where
  pub point : Counted s base p
  pub low : p.cur.at ≤ past

pub before_on : {s : List ℕ} {base past : ℕ} {c d : Cursor} {line : ℕ} {t : Token} → Before s base past (record { cur = c; line = line }) → Took s c t d → c.at < past → (n : ℕ) → n ≡ newlines t.kind
    → Before s base past (record { cur = d; line = line + n })
before_on x k h n e = record { point = counted_on x.point k n e; low = omega (arith, k.on, h) }

-- no token is left, so the record is beyond the list
pub reached_end : {s : List ℕ} {base past : ℕ} {p : LinePoint} → Before s base past p → tokens_at s p.cur ≡ [] → Reached s base past p
unfolding comma_between
reached_end {s} {base} {past} {p} x e =
    let none : count s - p.cur.at ≡ 0 = sym (left_length s p.cur) ∙ ap length e in
    let all : p.cur.at ≡ length (all_tokens s base) = omega (arith, none, x.point.good.low, all_length s base) in
    let here : take p.cur.at (all_tokens s base) ≡ all_tokens s base = ap (λ (n : ℕ). take n (all_tokens s base)) all ∙ take_all (all_tokens s base) (length (all_tokens s base)) (omega arith) in
    let there : take past (all_tokens s base) ≡ all_tokens s base = take_all (all_tokens s base) past (omega (arith, all, x.low)) in
    record {
      point = x.point;
      same = λ first start. ap (λ (ts : List Tok). nearest Sought.Comma (record { start = start; end = start }) (drop first ts)) (there ∙ sym here);
    }
