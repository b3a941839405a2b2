-- Laws of the check of a list: a turn at a time, and what it lets through. Proved; nothing here needs to be believed.
use Rattle.std.specs.Prelude.{◌≡◌, refl, Bool, true, false, cond, List, ℕ, zero, suc, ◌+◌, ◌-◌, ◌*◌, ◌%◌, ◌<◌, ◌≤◌, length, eqb, ltb, leb, Option, Some, None, Ok, Err}
use Rattle.std.specs.Option.{is_none}
use Rattle.std.proofs.Common.{ap, sym, subst, ◌∙◌, arith, add-one, add-zero, ltb-true, ltb-false, leb-true, leb-false, eqb-true, eq-eqb, le-ltb}
use Rattle.std.proofs.lemmas.Bool.{false≢true}
use Rattle.token.specs.declared.refusal.Refusal.{Refusal}
use Rattle.token.specs.declared.cursor.Cursor.{Cursor}
use Rattle.token.specs.Refusals.{refusal_number}
use Rattle.token.specs.Limits.{max_records, max_end}
use Rattle.token.specs.Kinds.{Width, one_byte, no_byte, some_bytes, kind_of, width_of, width_fits}
use Rattle.token.specs.Records.{count, length_at, kind_number_at, kind_at, start_at}
use Rattle.token.specs.Tokens.{tokens_from, all_tokens, Good, At}
use Rattle.token.specs.Check.{Checked, refused_for, record_refusal, refused_at, checked_from, passed, checked}
use Rattle.token.specs.Laid.{Spans, Laid, laid_none, laid_token}

-- what the check says of record i
abbrev refusal_at : List ℕ → ℕ → ℕ → Option Refusal
refusal_at s i p = record_refusal (kind_number_at s i) (length_at s i) (p + length_at s i)

-- the check from record i on: its record passes, or is refused
from_cons : (s : List ℕ) (i p : ℕ) → i < count s → checked_from (count s - i) s i p ≡ refused_at (refusal_at s i p) i (checked_from (count s - (i + 1)) s (i + 1) (p + length_at s i))
unfolding checked_from
from_cons s i p h = let e : count s - i ≡ suc (count s - (i + 1)) = omega arith in rw (e, add-one)

from_refusal : (s : List ℕ) (i p : ℕ) (r : Option Refusal) → i < count s → r ≡ refusal_at s i p → checked_from (count s - i) s i p ≡ refused_at r i (checked_from (count s - (i + 1)) s (i + 1) (p + length_at s i))
from_refusal s i p r h e = from_cons s i p h ∙ ap (λ (x : Option Refusal). refused_at x i (checked_from (count s - (i + 1)) s (i + 1) (p + length_at s i))) (sym e)

pub from_passed : (s : List ℕ) (i p : ℕ) → i < count s → refusal_at s i p ≡ None → checked_from (count s - i) s i p ≡ checked_from (count s - (i + 1)) s (i + 1) (p + length_at s i)
from_passed s i p h e = from_refusal s i p None h (sym e)

pub from_refused : (s : List ℕ) (i p : ℕ) (r : Refusal) → i < count s → refusal_at s i p ≡ Some r → checked_from (count s - i) s i p ≡ refused_for r i
from_refused s i p r h e = from_refusal s i p (Some r) h (sym e)

pub from_end : (s : List ℕ) (i p : ℕ) → count s ≤ i → checked_from (count s - i) s i p ≡ Ok tt
unfolding checked_from
from_end s i p h = let e : count s - i ≡ 0 = omega arith in rw e

-- a record that is not refused is as long as its kind allows and ends within the limit
abbrev IsNoRefusal : Option Refusal → Type 0
IsNoRefusal None = Unit {0}
IsNoRefusal (Some r) = ⊥

by_end : (t : Bool) (e : ℕ) → ltb max_end e ≡ t → IsNoRefusal (cond t (Some Refusal.Bytes) None) → e ≤ max_end
by_end true e q z = absurd z
by_end false e q z = ltb-false _ _ q

by_width : (t : Bool) (e : ℕ) → IsNoRefusal (cond t (cond (ltb max_end e) (Some Refusal.Bytes) None) (Some Refusal.Length)) → (t ≡ true) × (e ≤ max_end)
by_width true e z = (refl, by_end (ltb max_end e) e refl z)
by_width false e z = absurd z

by_low : (t u : Bool) (w : Bool) (e : ℕ) → IsNoRefusal (cond t (Some Refusal.Kind) (cond u (Some Refusal.Kind) (cond w (cond (ltb max_end e) (Some Refusal.Bytes) None) (Some Refusal.Length)))) → (w ≡ true) × (e ≤ max_end)
by_low true u w e z = absurd z
by_low false true w e z = absurd z
by_low false false w e z = by_width w e z

pub record_passed : (k n e : ℕ) → record_refusal k n e ≡ None → (width_fits (width_of (kind_of k)) n ≡ true) × (e ≤ max_end)
record_passed k n e z = by_low (ltb k 1) (ltb 16 k) (width_fits (width_of (kind_of k)) n) e (subst IsNoRefusal (sym z) tt)

spans : (w : Width) (p n : ℕ) → width_fits w n ≡ true → Spans w p (p + n)
spans one_byte p n e = omega (arith, eqb-true n 1 e)
spans no_byte p n e = omega (arith, eqb-true n 0 e)
spans some_bytes p n e = omega (arith, leb-true 1 n e)

-- what passes is no refusal
abbrev IsPassed : Checked → Type 0
IsPassed (Ok u) = Unit {0}
IsPassed (Err e) = ⊥

passed_none : (r : Option Refusal) (i : ℕ) (rest : Checked) → refused_at r i rest ≡ Ok tt → (r ≡ None) × (rest ≡ Ok tt)
passed_none None i rest e = (refl, e)
passed_none (Some r) i rest e = absurd (subst IsPassed (sym e) tt)

from_laid : (n : ℕ) (s : List ℕ) (i p : ℕ) → checked_from n s i p ≡ Ok tt → Laid p (tokens_from n s i p)
unfolding checked_from tokens_from
from_laid zero s i p e = laid_none
from_laid (suc n) s i p e =
    let q = passed_none (refusal_at s i p) i (checked_from n s (suc i) (p + length_at s i)) e in
    let r = record_passed (kind_number_at s i) (length_at s i) (p + length_at s i) q.0 in
    laid_token (spans (width_of (kind_at s i)) p (length_at s i) r.0) (from_laid n s (suc i) (p + length_at s i) q.1)

from_most : (n : ℕ) (s : List ℕ) (b i : ℕ) → start_at s b i ≤ max_end → checked_from n s i (start_at s b i) ≡ Ok tt → start_at s b (i + n) ≤ max_end
unfolding checked_from start_at
from_most zero s b i h e = rw (add-zero i) h
from_most (suc n) s b i h e =
    let q = passed_none (refusal_at s i (start_at s b i)) i (checked_from n s (suc i) (start_at s b i + length_at s i)) e in
    let r = record_passed (kind_number_at s i) (length_at s i) (start_at s b i + length_at s i) q.0 in
    let z : suc i + n ≡ i + suc n = omega arith in
    rw z at (from_most n s b (suc i) r.1 q.1)

-- within the limit a record's end does not matter
cond_end : (t : Bool) (e : ℕ) → e ≤ max_end → cond t (cond (ltb max_end e) (Some Refusal.Bytes) None) (Some Refusal.Length) ≡ cond t (cond (ltb max_end 0) (Some Refusal.Bytes) None) (Some Refusal.Length)
cond_end true e h = simp (le-ltb _ _ h)
cond_end false e h = refl

end_within : (k n e : ℕ) → e ≤ max_end → record_refusal k n e ≡ record_refusal k n 0
end_within k n e h = ap (λ (x : Option Refusal). cond (ltb k 1) (Some Refusal.Kind) (cond (ltb 16 k) (Some Refusal.Kind) x)) (cond_end (width_fits (width_of (kind_of k)) n) e h)

-- record i, asked without regard to its end: what it tells of the check from there on
module _ (s : List ℕ) (i p : ℕ) (h : i < count s) where
  on_within : record_refusal (kind_number_at s i) (length_at s i) 0 ≡ None → p + length_at s i ≤ max_end → checked_from (count s - i) s i p ≡ checked_from (count s - (i + 1)) s (i + 1) (p + length_at s i)
  on_within z l = from_passed s i p h (end_within (kind_number_at s i) (length_at s i) (p + length_at s i) l ∙ z)

  not_passed : (refusal_at s i p ≡ None → ⊥) → passed (checked_from (count s - i) s i p) ≡ false
  not_passed z = by (refusal_at s i p) refl
    where
      by : (r : Option Refusal) → refusal_at s i p ≡ r → passed (checked_from (count s - i) s i p) ≡ false
      by None e = absurd (z e)
      by (Some r) e = ap passed (from_refused s i p r h e)

  on_beyond : max_end < p + length_at s i → passed (checked_from (count s - i) s i p) ≡ false
  on_beyond l = not_passed (λ z. omega (arith, l, (record_passed (kind_number_at s i) (length_at s i) (p + length_at s i) z).1))

  on_refused : (record_refusal (kind_number_at s i) (length_at s i) 0 ≡ None → ⊥) → passed (checked_from (count s - i) s i p) ≡ false
  on_refused z =
      not_passed
      (λ y.
      z
      (sym (end_within (kind_number_at s i) (length_at s i) (p + length_at s i) (record_passed (kind_number_at s i) (length_at s i) (p + length_at s i) y).1)
      ∙ y))

-- the records before i passed without regard to their ends, and the last of them ends at `end`
pub record Summed (s : List ℕ) (end₀ i₀ end i : ℕ) : Type 0 where
  pub within : end ≤ max_end → checked_from (count s - i) s i end ≡ checked_from (count s - i₀) s i₀ end₀
  pub beyond : max_end < end → passed (checked_from (count s - i₀) s i₀ end₀) ≡ false
  pub small : end ≤ max_end + i * 4294967296

pub summed_begun : (s : List ℕ) (end : ℕ) → end ≤ max_end → Summed s end 0 end 0
summed_begun s end h = record { within = λ l. refl; beyond = λ l. absurd (omega (arith, h, l)); small = omega (arith, h) }

module _ {s : List ℕ} {end₀ i₀ end i : ℕ} (x : Summed s end₀ i₀ end i) where
  -- what is false of the check from here, if the end is within the limit, is false of it from the start
  still_false : (t : Bool) → ltb max_end end ≡ t → passed (checked_from (count s - i) s i end) ≡ false → passed (checked_from (count s - i₀) s i₀ end₀) ≡ false
  still_false true q z = x.beyond (ltb-true _ _ q)
  still_false false q z = ap passed (sym (x.within (ltb-false _ _ q))) ∙ z

  module _ (h : i < count s) where
    pub summed_on : record_refusal (kind_number_at s i) (length_at s i) 0 ≡ None → length_at s i < 4294967296 → Summed s end₀ i₀ (end + length_at s i) (i + 1)
    summed_on z b =
        record {
          within = λ l. sym (on_within s i end h z l) ∙ x.within (omega (arith, l));
          beyond = λ l. still_false (ltb max_end end) refl (on_beyond s i end h l);
          small = omega (arith, x.small, b);
        }

    pub summed_refused : (record_refusal (kind_number_at s i) (length_at s i) 0 ≡ None → ⊥) → passed (checked_from (count s - i₀) s i₀ end₀) ≡ false
    summed_refused z = still_false (ltb max_end end) refl (on_refused s i end h z)

  pub summed_end : count s ≤ i → (t : Bool) → leb end max_end ≡ t → t ≡ passed (checked_from (count s - i₀) s i₀ end₀)
  summed_end h true q = sym (ap passed (sym (x.within (leb-true _ _ q)) ∙ from_end s i end h))
  summed_end h false q = sym (x.beyond (leb-false _ _ q))

pub from_start : (s : List ℕ) (p : ℕ) → checked_from (count s - 0) s 0 p ≡ checked_from (count s) s 0 p
from_start s p = let z : count s - 0 ≡ count s = omega arith in rw z

pub passed_is : (x : Checked) → passed x ≡ true → x ≡ Ok tt
passed_is (Ok u) e = refl
passed_is (Err r) e = absurd (false≢true e)

-- the widths of the kinds, by their numbers
pub width_by : (k : ℕ) → 0 < k → width_of (kind_of k) ≡ cond (ltb k 8) one_byte (cond (ltb k 16) some_bytes no_byte)
unfolding kind_of
width_by zero h = absurd (omega (arith, h))
width_by (suc zero) h = refl
width_by (suc (suc zero)) h = refl
width_by (suc (suc (suc zero))) h = refl
width_by (suc (suc (suc (suc zero)))) h = refl
width_by (suc (suc (suc (suc (suc zero))))) h = refl
width_by (suc (suc (suc (suc (suc (suc zero)))))) h = refl
width_by (suc (suc (suc (suc (suc (suc (suc zero))))))) h = refl
width_by (suc (suc (suc (suc (suc (suc (suc (suc zero)))))))) h = refl
width_by (suc (suc (suc (suc (suc (suc (suc (suc (suc zero))))))))) h = refl
width_by (suc (suc (suc (suc (suc (suc (suc (suc (suc (suc zero)))))))))) h = refl
width_by (suc (suc (suc (suc (suc (suc (suc (suc (suc (suc (suc zero))))))))))) h = refl
width_by (suc (suc (suc (suc (suc (suc (suc (suc (suc (suc (suc (suc zero)))))))))))) h = refl
width_by (suc (suc (suc (suc (suc (suc (suc (suc (suc (suc (suc (suc (suc zero))))))))))))) h = refl
width_by (suc (suc (suc (suc (suc (suc (suc (suc (suc (suc (suc (suc (suc (suc zero)))))))))))))) h = refl
width_by (suc (suc (suc (suc (suc (suc (suc (suc (suc (suc (suc (suc (suc (suc (suc zero))))))))))))))) h = refl
width_by (suc (suc (suc (suc (suc (suc (suc (suc (suc (suc (suc (suc (suc (suc (suc (suc n)))))))))))))))) h =
    let low : 8 ≤ (suc (suc (suc (suc (suc (suc (suc (suc (suc (suc (suc (suc (suc (suc (suc (suc n)))))))))))))))) = omega arith in
    let high : 16 ≤ (suc (suc (suc (suc (suc (suc (suc (suc (suc (suc (suc (suc (suc (suc (suc (suc n)))))))))))))))) = omega arith in
    sym (simp (le-ltb _ _ low, le-ltb _ _ high))

-- a record of a kind's number is refused, its end aside, exactly for its length
fits_bool : (b : Bool) → is_none (cond b (cond (ltb max_end 0) (Some Refusal.Bytes) None) (Some Refusal.Length)) ≡ b
fits_bool true = refl
fits_bool false = refl

pub fits_by : (k n : ℕ) → 1 ≤ k → k ≤ 16 → is_none (record_refusal k n 0) ≡ width_fits (width_of (kind_of k)) n
fits_by k n h l = simp (le-ltb _ _ h, le-ltb _ _ l) (fits_bool (width_fits (width_of (kind_of k)) n))

-- what passes: whole records, not too many, a base within the limit, and then every record
pub record Passes (s : List ℕ) (base : ℕ) : Type 0 where
  pub whole : length s % 6 ≡ 0
  pub few : count s ≤ max_records
  pub low : base ≤ max_end
  pub each : checked_from (count s) s 0 base ≡ Ok tt

base_passed : (t : Bool) (s : List ℕ) (base : ℕ) → ltb max_end base ≡ t → cond t (refused_for Refusal.Bytes 0) (checked_from (count s) s 0 base) ≡ Ok tt → (base ≤ max_end) × (checked_from (count s) s 0 base ≡ Ok tt)
base_passed true s base q e = absurd (subst IsPassed (sym e) tt)
base_passed false s base q e = (ltb-false _ _ q, e)

count_passed : (t : Bool) (s : List ℕ) (rest : Checked) → ltb max_records (count s) ≡ t → cond t (refused_for Refusal.Records max_records) rest ≡ Ok tt → (count s ≤ max_records) × (rest ≡ Ok tt)
count_passed true s rest q e = absurd (subst IsPassed (sym e) tt)
count_passed false s rest q e = (ltb-false _ _ q, e)

whole_passed : (t : Bool) (n c : ℕ) (rest : Checked) → eqb n 0 ≡ t → cond t rest (refused_for Refusal.PartialRecord c) ≡ Ok tt → (n ≡ 0) × (rest ≡ Ok tt)
whole_passed true n c rest q e = (eqb-true n 0 q, e)
whole_passed false n c rest q e = absurd (subst IsPassed (sym e) tt)

pub checked_passes : (s : List ℕ) (base : ℕ) → checked s base ≡ Ok tt → Passes s base
unfolding checked
checked_passes s base e =
    let a = whole_passed (eqb (length s % 6) 0) (length s % 6) (count s) _ refl e in
    let b = count_passed (ltb max_records (count s)) s _ refl a.1 in
    let d = base_passed (ltb max_end base) s base refl b.1 in
    record { whole = a.0; few = b.0; low = d.0; each = d.1 }

-- then the tokens lie end to end, and a cursor at the start is good
pub passed_laid : (s : List ℕ) (base : ℕ) → Passes s base → Laid base (all_tokens s base)
unfolding all_tokens
passed_laid s base p = from_laid (count s) s 0 base p.each

pub passed_good : (s : List ℕ) (base : ℕ) (c : Cursor) → Passes s base → At c base 0 base → Good s c
unfolding start_at
passed_good s base c p a =
    record {
      low = omega (arith, a.at);
      here = a.place ∙ sym a.base ∙ ap (start_at s c.base) (sym a.at);
      most = rw a.base (let z : 0 + count s ≡ count s = omega arith in rw z at (from_most (count s) s base 0 p.low p.each));
    }

-- where 1, 2 and the base do not refuse, the records decide
pub checked_records : (s : List ℕ) (base p : ℕ) → length s % 6 ≡ 0 → count s ≤ max_records → p ≤ max_end → p ≡ base → checked_from (count s) s 0 p ≡ checked s base
unfolding checked
checked_records s base p h k l e =
    let l' : base ≤ max_end = omega (arith, l, e) in
    sym (simp (eq-eqb _ _ h, le-ltb _ _ k, le-ltb _ _ l') (rw e))

-- a refusal has a number other than 0
pub refusal_numbered : (r : Refusal) → refusal_number r ≡ 0 → ⊥
refusal_numbered Refusal.PartialRecord e = omega (arith, e)
refusal_numbered Refusal.Records e = omega (arith, e)
refusal_numbered Refusal.Kind e = omega (arith, e)
refusal_numbered Refusal.Length e = omega (arith, e)
refusal_numbered Refusal.Bytes e = omega (arith, e)
refusal_numbered Refusal.Depth e = omega (arith, e)
refusal_numbered Refusal.Events e = omega (arith, e)
refusal_numbered Refusal.Errors e = omega (arith, e)
refusal_numbered Refusal.TextTooLong e = omega (arith, e)
refusal_numbered Refusal.NotUtf8 e = omega (arith, e)
refusal_numbered Refusal.Tokens e = omega (arith, e)
refusal_numbered Refusal.NotQuiet e = omega (arith, e)
refusal_numbered Refusal.Index e = omega (arith, e)
refusal_numbered Refusal.Mistakes e = omega (arith, e)
refusal_numbered Refusal.Mode e = omega (arith, e)
