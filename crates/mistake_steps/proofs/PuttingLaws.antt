-- Laws of putting error records down, one after the other. Proved; nothing here needs to be believed.
use mathlib.Core.Path.{◌≡◌, refl, ap, ap₂, sym, ◌∙◌}
use mathlib.Core.List.{List}
use Prim.Native.Nat.{ℕ, suc, ◌+◌, ◌-◌, ◌<◌, ◌≤◌}
use native.Mathlib.Omega.{arith}
use lib.ListN.{length, take, drop, length-drop}
use borrow.Rule.Slice.PartMut.{put_mid}
use lib.Seq.{sets-eq, sets, drop-drop, length-take-le}
use mathlib.Core.List.{append_assoc}
use Rattle.mistake_rules.specs.Mistakes.{error_at}
use Rattle.mistake_rules.specs.Sheets.{put_at, put_all}
use Rattle.mistake_steps.specs.Steps.{errors_left}
use Rattle.mistake_steps.proofs.RecordLaws.{errors_on, errors_end}

-- records from r up to j, of which those before record i were put
pub record Putting (j : ℕ) (errors : List ℕ) (r k : ℕ) (before : List ℕ) (i : ℕ) (now : List ℕ) : Type 0 where
  pub same : put_all (errors_left j i errors) (record { count = k + (i - r); buffer = now }) ≡ put_all (errors_left j r errors) (record { count = k; buffer = before })
  pub on : r ≤ i
  pub within : i ≤ j
  pub kept : length now ≡ length before

pub putting_begun : (j : ℕ) (errors : List ℕ) (r k : ℕ) (before : List ℕ) → r ≤ j → Putting j errors r k before r before
putting_begun j errors r k before h =
    let none : k + (r - r) ≡ k = omega arith in
    record { same = ap (λ (n : ℕ). put_all (errors_left j r errors) (record { count = n; buffer = before })) none; on = omega arith; within = h; kept = refl }

module _ {j : ℕ} {errors : List ℕ} {r k : ℕ} {before : List ℕ} {i : ℕ} {now : List ℕ} (x : Putting j errors r k before i now) where
  pub putting_on : (after : List ℕ) → i < j → length after ≡ length now → after ≡ put_at (k + (i - r)) (error_at i errors) now → Putting j errors r k before (i + 1) after
  unfolding put_all
  putting_on after h l e =
      let count : k + (i + 1 - r) ≡ suc (k + (i - r)) = omega (arith, x.on) in
      record {
        same =
            ap₂ (λ (n : ℕ) (b : List ℕ). put_all (errors_left j (i + 1) errors) (record { count = n; buffer = b })) count e
            ∙ ap (λ (es : List (List ℕ)). put_all es (record { count = k + (i - r); buffer = now })) (sym (errors_on j i errors h)) ∙ x.same;
        on = omega (arith, x.on);
        within = omega (arith, h);
        kept = l ∙ x.kept;
      }

  all_counted : j ≤ i → k + (j - r) ≡ k + (i - r)
  all_counted h = let all : i ≡ j = omega (arith, x.within, h) in omega (arith, all)

  pub putting_end : j ≤ i → record { count = k + (j - r); buffer = now } ≡ put_all (errors_left j r errors) (record { count = k; buffer = before })
  unfolding put_all
  putting_end h =
      ap (λ (c : ℕ). record { count = c; buffer = now }) (all_counted h)
      ∙ ap (λ (es : List (List ℕ)). put_all es (record { count = k + (i - r); buffer = now })) (sym (errors_end j i errors h)) ∙ x.same

-- words copied over a part of a buffer, which is as long as they are
pub copied : (at n : ℕ) (words part s : List ℕ) → part ≡ words → length part ≡ length (take n (drop at s)) → at + n ≤ length s → put_mid at n s part ≡ sets s at words
copied at n words part s e l h =
    let behind = length-drop at s in
    let size : n ≡ length words = sym (length-take-le n (drop at s) (omega (arith, behind, h))) ∙ sym l ∙ ap length e in
    rw (e, size, drop-drop (length words) at s) (sym (append_assoc (take at s) words (drop (at + length words) s)) ∙ sym (sets-eq words s at (omega (arith, size, h))))
