-- Laws of records as they are written: six stores are a record, and a loop that writes one record after the other. Proved; nothing here needs to be believed.
use Rattle.std.specs.Prelude.{◌≡◌, refl, set}
use Rattle.std.proofs.Common.{sym, ◌∙◌, take-append-drop, length-take-le}
use Rattle.std.proofs.Math.Path.{ap}
use mathlib.Core.List.{List, [], ◌∷◌, ◌++◌, append_assoc}
use Prim.Native.Nat.{ℕ, suc, ◌+◌, ◌-◌, ◌*◌, ◌≤◌}
use native.Mathlib.Omega.{arith}
use Rattle.std.proofs.Math.ListN.{length, take, drop, length-append, length-drop}
use Rattle.std.proofs.lemmas.List.Edits.{sets-eq}
use Rattle.std.proofs.Math.Seq.{take_at, drop-append-add, drop-drop}
use Rattle.token.specs.Tokens.{Tok, tok}
use Rattle.token.specs.Writing.{record_of, records_of, put_at}

-- six stores in a row are one record
pub six_stores : (s : List ℕ) (k a b c d e f : ℕ) → k + 6 ≤ length s
    → set (set (set (set (set (set s k a) (k + 1) b) (k + 2) c) (k + 3) d) (k + 4) e) (k + 5) f ≡ take k s ++ (a ∷ b ∷ c ∷ d ∷ e ∷ f ∷ []) ++ drop (k + 6) s
six_stores s k a b c d e f h =
    let e1 : k + 1 ≡ suc k = omega arith in
    let e2 : k + 2 ≡ suc (suc k) = omega arith in
    let e3 : k + 3 ≡ suc (suc (suc k)) = omega arith in
    let e4 : k + 4 ≡ suc (suc (suc (suc k))) = omega arith in
    let e5 : k + 5 ≡ suc (suc (suc (suc (suc k)))) = omega arith in
    rw (e1, e2, e3, e4, e5) (sets-eq (a ∷ b ∷ c ∷ d ∷ e ∷ f ∷ []) s k h)

-- where record i was put: what stands before the end of it, and what stands behind
module _ (s : List ℕ) (i l k : ℕ) where
  front_length : 6 * i + 6 ≤ length s → length (take (6 * i) s ++ record_of l k) ≡ 6 * i + 6
  front_length h = length-append (take (6 * i) s) (record_of l k) ∙ ap (λ (n : ℕ). n + 6) (length-take-le (6 * i) s (omega arith))

  pub put_take : 6 * i + 6 ≤ length s → take (6 * (i + 1)) (put_at s i l k) ≡ take (6 * i) s ++ record_of l k
  unfolding put_at
  put_take h = take_at (take (6 * i) s ++ record_of l k) (drop (6 * i + 6) s) (6 * (i + 1)) (front_length h ∙ omega arith)

  -- from a later byte m on
  pub put_drop : (m : ℕ) → 6 * i + 6 ≤ m → m ≤ length s → drop m (put_at s i l k) ≡ drop m s
  unfolding put_at
  put_drop m low h =
      let p : List ℕ = take (6 * i) s ++ record_of l k in
      let w : length p ≡ 6 * i + 6 = front_length (omega arith) in
      let e : m ≡ length p + (m - (6 * i + 6)) = omega (arith, w) in
      let e' : 6 * i + 6 + (m - (6 * i + 6)) ≡ m = omega arith in
      ap (λ (n : ℕ). drop n (put_at s i l k)) e
      ∙ drop-append-add p (drop (6 * i + 6) s) (m - (6 * i + 6))
      ∙ drop-drop (m - (6 * i + 6)) (6 * i + 6) s
      ∙ ap (λ (n : ℕ). drop n s) e'

  pub put_length : 6 * i + 6 ≤ length s → length (put_at s i l k) ≡ length s
  unfolding put_at
  put_length h =
      let p : List ℕ = take (6 * i) s ++ record_of l k in
      let w : length p ≡ 6 * i + 6 = front_length h in
      let d = length-drop (6 * i + 6) s in
      length-append p (drop (6 * i + 6) s) ∙ omega (arith, w, d)

-- what a loop is to leave that has written n records, and has these bytes still to write
abbrev pub written_from : List ℕ → ℕ → List ℕ → List ℕ
written_from bytes n s = take (6 * n) s ++ (bytes ++ drop (6 * n + length bytes) s)

pub written_record : (bytes : List ℕ) (n l k : ℕ) (s : List ℕ) → 6 * n + 6 + length bytes ≤ length s → written_from bytes (n + 1) (put_at s n l k) ≡ written_from (record_of l k ++ bytes) n s
written_record bytes n l k s h =
    let m : ℕ = 6 * (n + 1) + length bytes in
    let e : m ≡ 6 * n + length (record_of l k ++ bytes) = omega arith in
    ap (λ (x : List ℕ). x ++ (bytes ++ drop m (put_at s n l k))) (put_take s n l k (omega arith))
    ∙ ap (λ (x : List ℕ). (take (6 * n) s ++ record_of l k) ++ (bytes ++ x)) (put_drop s n l k m (omega arith) (omega arith))
    ∙ append_assoc (take (6 * n) s) (record_of l k) (bytes ++ drop m s)
    ∙ ap (λ (x : List ℕ). take (6 * n) s ++ x) (sym (append_assoc (record_of l k) bytes (drop m s)))
    ∙ ap (λ (j : ℕ). take (6 * n) s ++ ((record_of l k ++ bytes) ++ drop j s)) e

pub written_none : (n : ℕ) (s : List ℕ) → written_from [] n s ≡ s
written_none n s = let e : 6 * n + 0 ≡ 6 * n = omega arith in ap (λ (m : ℕ). take (6 * n) s ++ drop m s) e ∙ take-append-drop (6 * n) s

pub records_length : (ts : List Tok) → length (records_of ts) ≡ 6 * length ts
unfolding records_of
records_length [] = refl
records_length (tok k a b ∷ ts) = omega (arith, records_length ts)
