-- Laws of the last comma before a record: none at first, and found by looking back from a counted point. Proved; nothing here needs to be believed.
use Rattle.std.specs.Prelude.{◌≡◌, Bool, cond, List, ltb}
use Rattle.std.proofs.Math.Path.{refl, sym, subst}
use Rattle.std.proofs.Common.{ap, ◌∙◌, add-zero}
use Rattle.std.proofs.Math.Bool.{true, false}
use Rattle.std.proofs.lemmas.Bool.{false≢true}
use Prim.Native.Nat.{ℕ, zero, suc, ◌+◌, ◌-◌, ◌<◌, ◌≤◌}
use native.Mathlib.Omega.{arith}
use borrow.Author.Tests.{le-ltb, ltb-true, ltb-false}
use Rattle.token.specs.declared.kind.Kind.{Kind}
use Rattle.token.specs.declared.kind.InSearch.{InSearch}
use Rattle.token.specs.declared.cursor.Sought.{Sought}
use Rattle.token.specs.Limits.{max_end}
use Rattle.token.specs.Kinds.{in_search, Width, one_byte, width_of}
use Rattle.token.specs.KindLaws.{every_kind}
use Rattle.token.specs.Records.{count, length_at, kind_at, start_at}
use Rattle.token.specs.Tokens.{all_tokens, Good}
use Rattle.token.specs.CursorLaws.{took, back_fits, backed}
use Rattle.token.specs.Search.{is_sought, stops_at}
use Rattle.token.specs.SearchLaws.{nearest_none, nearest_miss, nearest_hit}
use Rattle.token.specs.Laid.{Spans, Laid}
use Rattle.rules.specs.Lines.{newlines, line_of}
use Rattle.rules.specs.Words.{comma_between}
use Rattle.blamed_commas.specs.declared.commas.Comma.{Comma}
use Rattle.line_points.specs.declared.points.LinePoint.{LinePoint}
use Rattle.line_points.specs.Points.{newlines_to, Counted}
use Rattle.blamed_commas.specs.Commas.{Known}
use Rattle.line_points.specs.PointLaws.{counted_begun, counted_on, newlines_next, first_behind, laid_here}

-- before the first record there is no comma
pub none_known : (s : List ℕ) (base : ℕ) (comma : Comma) → (comma.upto ≡ 0) × (comma.behind ≡ 0) → Known s base comma
unfolding comma_between
none_known s base comma (u, b) =
    record {
      behind = omega (arith, b);
      last = λ first start.
          nearest_none s base first comma.upto Sought.Comma (record { start = start; end = start }) (omega (arith, u))
          ∙ sym (ap (λ (t : Bool). cond t (record { start = comma.start; end = comma.end }) (record { start = start; end = start })) (le-ltb first comma.behind (omega (arith, b))));
      lined = λ z. absurd (omega (arith, b, z));
    }

-- of all kinds only a Comma is one to the search; it has one byte, and ends no line
abbrev OneByte : InSearch → Kind → Type 0
OneByte InSearch.Comma kind = (width_of kind ≡ one_byte) × (newlines kind ≡ 0)
OneByte InSearch.Whitespace kind = Unit {0}
OneByte InSearch.Trivia kind = Unit {0}
OneByte InSearch.Other kind = Unit {0}

one_byte_lem : (kind : Kind) → OneByte (in_search kind) kind
one_byte_lem = every_kind (λ (kind : Kind). OneByte (in_search kind) kind) tt tt (refl, refl) tt tt tt tt tt tt tt tt tt tt tt tt tt

by_class : (y : InSearch) (kind : Kind) → OneByte y kind → stops_at Sought.Comma y ≡ true → (width_of kind ≡ one_byte) × (newlines kind ≡ 0)
by_class InSearch.Comma kind o e = o
by_class InSearch.Whitespace kind o e = absurd (false≢true e)
by_class InSearch.Trivia kind o e = absurd (false≢true e)
by_class InSearch.Other kind o e = absurd (false≢true e)

comma_is : (kind : Kind) → is_sought Sought.Comma kind ≡ true → (width_of kind ≡ one_byte) × (newlines kind ≡ 0)
comma_is kind e = by_class (in_search kind) kind (one_byte_lem kind) e

module _ (s : List ℕ) (base : ℕ) (most : start_at s base (count s) ≤ max_end) (whole : Laid base (all_tokens s base)) where
  abbrev point_at : ℕ → LinePoint
  point_at i = record { cur = record { base = base; at = i; place = start_at s base i }; line = newlines_to i s + 1 }

  -- a counted point stands at every record
  counted_at : (i : ℕ) → i ≤ count s → Counted s base (point_at i)
  unfolding start_at newlines_to
  counted_at zero h = counted_begun s base (point_at zero) most whole (record { at = record { base = refl; at = refl; place = refl }; line = refl })
  counted_at (suc i) h =
      let x = counted_at i (omega (arith, h)) in
      let k = took s (point_at i).cur (length_at s i) (kind_at s i) x.good (omega (arith, h)) refl refl in
      let a : i + 1 ≡ suc i = omega arith in
      let n : (newlines_to i s + 1) + newlines (kind_at s i) ≡ newlines_to (suc i) s + 1 = omega arith in
      subst (λ (l : ℕ). Counted s base (record { cur = (point_at (suc i)).cur; line = l })) n
      (subst (λ (j : ℕ). Counted s base (record { cur = record { base = base; at = j; place = start_at s base (suc i) }; line = (newlines_to i s + 1) + newlines (kind_at s i) })) a (counted_on x k (newlines (kind_at s i)) refl))

  -- the line of a comma is that of its place
  line_at : (i : ℕ) → i < count s → is_sought Sought.Comma (kind_at s i) ≡ true → newlines_to i s + 1 ≡ line_of (all_tokens s base) (start_at s base i)
  line_at i h e =
      let x = counted_at i (omega (arith, h)) in
      let k = took s (point_at i).cur (length_at s i) (kind_at s i) x.good h refl refl in
      let w : start_at s base i + length_at s i ≡ suc (start_at s base i) = subst (λ (y : Width). Spans y (start_at s base i) (start_at s base i + length_at s i)) (comma_is (kind_at s i) e).0 (laid_here x k).0 in
      let p = first_behind s (point_at i).cur _ _ (start_at s base i) x.good k (omega (arith, w)) in
      sym (x.counted (start_at s base i) (omega arith) ∙ ap (λ (n : ℕ). (newlines_to i s + 1) + n) p ∙ add-zero (newlines_to i s + 1))

-- looking back from the record `upto`: from the record `at` on there is no comma, and the lines are counted back to it
pub record Back (s : List ℕ) (base upto at end line : ℕ) : Type 0 where
  pub good : Good s (record { base = base; at = at; place = end })
  pub high : at ≤ upto
  pub same : (first start : ℕ) → comma_between (all_tokens s base) first upto start ≡ comma_between (all_tokens s base) first at start
  pub sum : line ≡ newlines_to at s + 1

module _ {s : List ℕ} {base upto at end line : ℕ} (x : Back s base upto at end line) (z : 0 < at) where
  -- the length of the record before is taken off
  pub back_length : {len : ℕ} → len ≡ length_at s (at - 1) → len ≤ end
  back_length l = omega (arith, l, back_fits s (record { base = base; at = at; place = end }) x.good z)

  before_this : {kind : Kind} → kind ≡ kind_at s (at - 1) → newlines_to at s ≡ newlines_to (at - 1) s + newlines kind
  before_this q = let e : at - 1 + 1 ≡ at = omega (arith, z) in ap (λ (i : ℕ). newlines_to i s) (sym e) ∙ newlines_next s (at - 1) ∙ ap (λ (k : Kind). newlines_to (at - 1) s + newlines k) (sym q)

  module _ {len : ℕ} {kind : Kind} (l : len ≡ length_at s (at - 1)) (q : kind ≡ kind_at s (at - 1)) where
    missed : is_sought Sought.Comma kind ≡ false → (first start : ℕ) (b : Bool) → ltb first at ≡ b → comma_between (all_tokens s base) first at start ≡ comma_between (all_tokens s base) first (at - 1) start
    unfolding comma_between
    missed e first start true b = nearest_miss s base first at Sought.Comma (record { start = start; end = start }) (ltb-true _ _ b) x.good.low (ap (is_sought Sought.Comma) (sym q) ∙ e)
    missed e first start false b =
        let h : at ≤ first = ltb-false _ _ b in
        nearest_none s base first at Sought.Comma (record { start = start; end = start }) h
        ∙ sym (nearest_none s base first (at - 1) Sought.Comma (record { start = start; end = start }) (omega (arith, h)))

    -- on past a record that is no comma
    pub back_on : is_sought Sought.Comma kind ≡ false → (n : ℕ) → n ≡ newlines kind → Back s base upto (at - 1) (end - len) (line - n)
    back_on e n f =
        record {
          good = (backed s (record { base = base; at = at; place = end }) len x.good z l).good;
          high = omega (arith, x.high);
          same = λ first start. x.same first start ∙ missed e first start (ltb first at) refl;
          sum = omega (arith, f, x.sum, before_this q);
        }

    hit : is_sought Sought.Comma kind ≡ true → (first start : ℕ) (b : Bool) → ltb first at ≡ b
        → comma_between (all_tokens s base) first at start ≡ cond b (record { start = end - len; end = end }) (record { start = start; end = start })
    unfolding comma_between
    hit e first start true b = sym (nearest_hit s base first at end len Sought.Comma (record { start = start; end = start }) x.good (ltb-true _ _ b) l (ap (is_sought Sought.Comma) (sym q) ∙ e))
    hit e first start false b = nearest_none s base first at Sought.Comma (record { start = start; end = start }) (ltb-false _ _ b)

    -- the record is a comma
    pub back_found : Laid base (all_tokens s base) → is_sought Sought.Comma kind ≡ true → Known s base (record { upto = upto; behind = at; start = end - len; end = end; line = line })
    back_found whole e =
        let here : end - len ≡ start_at s base (at - 1) = (backed s (record { base = base; at = at; place = end }) len x.good z l).good.here in
        let own = line_at s base x.good.most whole (at - 1) (omega (arith, z, x.good.low)) (ap (is_sought Sought.Comma) (sym q) ∙ e) in
        let none = (comma_is kind e).1 in
        let lines : line ≡ newlines_to (at - 1) s + 1 = omega (arith, none, x.sum, before_this q) in
        record {
          behind = x.high;
          last = λ first start. x.same first start ∙ hit e first start (ltb first at) refl;
          lined = λ h. lines ∙ own ∙ ap (line_of (all_tokens s base)) (sym here);
        }
