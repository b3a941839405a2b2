-- Laws of stretches of records: record by record, and what they tell of the check. Proved; nothing here needs to be believed.
use mathlib.Core.Path.{◌≡◌, refl, sym, ap, ◌∙◌}
use mathlib.Core.Bool.{Bool, true, false, cond, false≢true}
use mathlib.Core.List.{List}
use Prim.Native.Nat.{ℕ, zero, suc, ◌+◌, ◌-◌, ◌*◌, ◌<◌, ◌≤◌}
use native.Mathlib.Omega.{arith}
use native.Mathlib.Numerals.{add-one}
use native.Mathlib.Nat.{add-zero, zero-add, suc-add}
use Rattle.std.specs.Prelude.{Option, Some, None}
use Rattle.std.specs.Option.{is_none}
use Rattle.token.specs.Records.{count, length_at}
use Rattle.token.specs.Check.{checked_from, passed}
use Rattle.token.specs.CheckLaws.{Summed, summed_on, summed_refused}
use Rattle.record_checks.specs.Stretches.{fits_at, all_fit, lengths_of, Narrow}

-- a stretch, record by record
module _ (s : List ℕ) (i : ℕ) where
  pub one_fits : (k : ℕ) → all_fit k s i ≡ true → fits_at s (i + k) ≡ true → all_fit (k + 1) s i ≡ true
  one_fits k a e = rw (add-one, a, e) refl

  stays : (d k : ℕ) → all_fit k s i ≡ false → all_fit (d + k) s i ≡ false
  stays zero k e = rw (zero-add k) e
  stays (suc d) k e = rw (suc-add d k, stays d k e) refl

  pub one_does_not : (n k : ℕ) → k < n → all_fit k s i ≡ true → fits_at s (i + k) ≡ false → all_fit n s i ≡ false
  one_does_not n k h a e =
      let z : (n - suc k) + suc k ≡ n = omega (arith, h) in
      rw z at (stays (n - suc k) (suc k) (rw a e))

-- the sum of k lengths from record i on
pub record Added (s : List ℕ) (i k sum : ℕ) : Type 0 where
  pub is : sum ≡ lengths_of k s i
  pub each : Narrow k s i
  pub small : sum ≤ k * 4294967296

pub added_none : (s : List ℕ) (i : ℕ) → Added s i 0 0
added_none s i = record { is = refl; each = tt; small = omega arith }

pub one_added : {s : List ℕ} {i k sum length : ℕ} → Added s i k sum → length ≡ length_at s (i + k) → length < 4294967296 → Added s i (k + 1) (sum + length)
one_added {s} {i} {k} x e b =
    record { is = rw (add-one, x.is, e) refl; each = rw (add-one, sym e) (x.each, b); small = omega (arith, x.small, b) }

both : (a b : Bool) → cond a b false ≡ true → (a ≡ true) × (b ≡ true)
both true b e = (refl, e)
both false b e = absurd (false≢true e)

none_is : {A : Type 0} (r : Option A) → is_none r ≡ true → r ≡ None
none_is None e = refl
none_is (Some x) e = absurd (false≢true e)

-- if the records before a stretch are summed, so are those up to its end; or the list is refused
module _ {s : List ℕ} {end₀ i₀ end i : ℕ} (x : Summed s end₀ i₀ end i) where
  pub summed_by : (k : ℕ) → i + k ≤ count s → Narrow k s i → all_fit k s i ≡ true → Summed s end₀ i₀ (end + lengths_of k s i) (i + k)
  summed_by zero h b e = rw (add-zero end, add-zero i) x
  summed_by (suc k) h b e =
      let f = both (all_fit k s i) (fits_at s (i + k)) e in
      let ends : end + lengths_of k s i + length_at s (i + k) ≡ end + (lengths_of k s i + length_at s (i + k)) = omega arith in
      let next : i + k + 1 ≡ i + suc k = omega arith in
      rw (ends, next) at (summed_on (summed_by k (omega (arith, h)) b.0 f.0) (omega (arith, h)) (none_is _ f.1) b.1)

  refused_last : (t : Bool) (k : ℕ) → all_fit k s i ≡ t → i + suc k ≤ count s → Narrow k s i → cond t (fits_at s (i + k)) false ≡ false → (all_fit k s i ≡ false → passed (checked_from (count s - i₀) s i₀ end₀) ≡ false) → passed (checked_from (count s - i₀) s i₀ end₀) ≡ false
  refused_last true k q h b e on = summed_refused (summed_by k (omega (arith, h)) b q) (omega (arith, h)) (λ z. false≢true (sym e ∙ ap is_none z))
  refused_last false k q h b e on = on q

  pub refused_by : (k : ℕ) → i + k ≤ count s → Narrow k s i → all_fit k s i ≡ false → passed (checked_from (count s - i₀) s i₀ end₀) ≡ false
  refused_by zero h b e = absurd (false≢true (sym e))
  refused_by (suc k) h b e = refused_last (all_fit k s i) k refl h b.0 e (refused_by k (omega (arith, h)) b.0)
