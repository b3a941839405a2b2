-- The rows of the table for all first bytes between two bounds: each row's first range takes all of them, or none. Proved; nothing here needs to be believed.
use mathlib.Core.Path.{◌≡◌, refl, ap, ◌∙◌}
use mathlib.Core.Bool.{Bool, true, false, cond, ◌&&◌, ◌||◌, false≢true}
use mathlib.Core.List.{List, [], ◌∷◌}
use Prim.Native.Nat.{ℕ, suc, ◌+◌, ◌<◌, ◌≤◌}
use native.Mathlib.Omega.{arith}
use lib.ListN.{length, drop, get_or}
use lib.Dec.{leb, ltb}
use borrow.Author.Tests.{leb-true, ltb-true}
use Rattle.utf8_sequences.specs.Utf8.{Range, within, table, fits, sequence_of}
use Rattle.utf8_sequences.specs.Utf8Laws.{is_within, is_below, is_above, sequence_by}

-- whether a range takes none of the bytes from low to below past, or all
abbrev none : ℕ → ℕ → Range → Bool
none low past r = ltb r.high low || leb past r.low

abbrev all : ℕ → ℕ → Range → Bool
all low past r = leb r.low low && leb past (suc r.high)

abbrev sure : ℕ → ℕ → List (List Range) → Bool
sure low past [] = true
sure low past ([] ∷ rows) = false
sure low past ((r ∷ rs) ∷ rows) = (none low past r || all low past r) && sure low past rows

-- how many bytes the sequence has that starts with one of these, by the bytes behind it
abbrev behind : ℕ → ℕ → List (List Range) → List ℕ → ℕ
behind low past [] bs = 0
behind low past ([] ∷ rows) bs = 0
behind low past ((r ∷ rs) ∷ rows) bs = cond (none low past r) (behind low past rows bs) (cond (fits rs bs) (suc (length rs)) (behind low past rows bs))

both : (s t : Bool) → (s && t) ≡ true → (s ≡ true) × (t ≡ true)
both true t e = (refl, e)
both false t e = absurd (false≢true e)

module _ (low past b : ℕ) (l : low ≤ b) (h : b < past) where
  taken : (r : Range) → all low past r ≡ true → within r b ≡ true
  taken r e =
      let p = both (leb r.low low) (leb past (suc r.high)) e in
      let m = leb-true r.low low p.0 in
      let n = leb-true past (suc r.high) p.1 in
      is_within r.low r.high b (omega (arith, l, m)) (omega (arith, h, n))

  missed : (r : Range) → none low past r ≡ true → within r b ≡ false
  missed r = by_test (ltb r.high low) refl
    where
      by_test : (t : Bool) → ltb r.high low ≡ t → (t || leb past r.low) ≡ true → within r b ≡ false
      by_test true q e = let m = ltb-true r.high low q in is_above r.low r.high b (omega (arith, l, m))
      by_test false q e = let m = leb-true past r.low e in is_below r.low r.high b (omega (arith, h, m))

  by_rows : (rows : List (List Range)) (bs : List ℕ) → sure low past rows ≡ true → sequence_of rows (b ∷ bs) ≡ behind low past rows bs
  unfolding fits
  by_rows [] bs e = refl
  by_rows ([] ∷ rows) bs e = absurd (false≢true e)
  by_rows ((r ∷ rs) ∷ rows) bs e =
      let p = both (none low past r || all low past r) (sure low past rows) e in
      by_test (none low past r) refl p.0 (by_rows rows bs p.1)
    where
      by_test : (t : Bool) → none low past r ≡ t → (t || all low past r) ≡ true → sequence_of rows (b ∷ bs) ≡ behind low past rows bs
          → sequence_of ((r ∷ rs) ∷ rows) (b ∷ bs) ≡ cond t (behind low past rows bs) (cond (fits rs bs) (suc (length rs)) (behind low past rows bs))
      by_test true q d rest = rw (missed r q) rest
      by_test false q d rest = rw (taken r d) (ap (cond (fits rs bs) (suc (length rs))) rest)

-- at a place of the text
pub sequence_in : (s : List ℕ) (i low past : ℕ) → i < length s → low ≤ get_or s i 0 → get_or s i 0 < past → sure low past table ≡ true → sequence_of table (drop i s) ≡ behind low past table (drop (i + 1) s)
sequence_in s i low past d l h e = sequence_by s i d ∙ by_rows low past (get_or s i 0) l h table (drop (i + 1) s) e
