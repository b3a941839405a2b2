-- Laws of well-formed UTF-8. Proved; nothing here needs to be believed.
use Rattle.std.specs.Prelude.{◌≡◌, refl, Bool, true, false, cond, ◌&&◌, ℕ, zero, suc, ◌+◌, ◌<◌, ◌≤◌, length, drop, get_or, leb}
use Rattle.std.proofs.Math.Path.{ap}
use Rattle.std.proofs.Common.{sym, ◌∙◌, length-drop, drop_of_length-le, drop-drop, le-leb, leb-true, leb-false}
use Rattle.std.proofs.lemmas.Bool.{false≢true, lt-leb}
use mathlib.Core.List.{List, [], ◌∷◌}
use native.Mathlib.Omega.{arith}
use Rattle.std.specs.Char.{is_ascii as ascii_byte}
use borrow.Author.Tests.{lt-ltb, le-ltb}
use Rattle.places.specs.Places.{peeks, all_of, Passed}
use Rattle.places.specs.PlaceLaws.{here, peeks_here, peeks_out, Still, begun, onward, all_first, all_none, passed_on, passed_still}
use Rattle.utf8_sequences.specs.Utf8.{Range, from, within, tail, table, fits, sequence_of, behind_first, valid_from, valid_up_to}
use Rattle.utf8_sequences.specs.Steps.{is_ascii, Stepped}

-- a byte and a range
pub is_within : (low high b : ℕ) → low ≤ b → b ≤ high → within (from low high) b ≡ true
is_within low high b l h = simp (le-leb _ _ l, le-leb _ _ h)

pub is_below : (low high b : ℕ) → b < low → within (from low high) b ≡ false
is_below low high b h = simp (lt-leb _ _ h)

and_not : (t : Bool) → (t && false) ≡ false
and_not true = refl
and_not false = refl

pub is_above : (low high b : ℕ) → high < b → within (from low high) b ≡ false
is_above low high b h = simp (lt-leb _ _ h) (and_not (leb low b))

-- the byte at a place, and the ranges behind the first
module _ (r : Range) (rs : List Range) (s : List ℕ) (i : ℕ) where
  pub fits_here : i < length s → fits (r ∷ rs) (drop i s) ≡ cond (within r (get_or s i 0)) (fits rs (drop (i + 1) s)) false
  unfolding fits
  fits_here h = ap (fits (r ∷ rs)) (here s i h)

  fits_out : length s ≤ i → fits (r ∷ rs) (drop i s) ≡ false
  unfolding fits
  fits_out h = ap (fits (r ∷ rs)) (drop_of_length-le s h)

  fits_first : fits (r ∷ rs) (drop i s) ≡ cond (peeks (within r) (drop i s)) (fits rs (drop (i + 1) s)) false
  fits_first = by_test (leb (length s) i) refl
    where
      by_test : (t : Bool) → leb (length s) i ≡ t → fits (r ∷ rs) (drop i s) ≡ cond (peeks (within r) (drop i s)) (fits rs (drop (i + 1) s)) false
      by_test true q = let l = leb-true (length s) i q in fits_out l ∙ rw (peeks_out (within r) s i l)
      by_test false q = let l = leb-false (length s) i q in fits_here l ∙ rw (peeks_here (within r) s i l)

-- one range, two, three: by the bytes in their order
module _ (r : Range) (s : List ℕ) (i : ℕ) where
  pub fits_one : fits (r ∷ []) (drop i s) ≡ cond (peeks (within r) (drop i s)) true false
  unfolding fits
  fits_one = fits_first r [] s i

  pub fits_two : fits (r ∷ tail ∷ []) (drop i s) ≡ cond (peeks (within r) (drop i s)) (cond (peeks (within tail) (drop (i + 1) s)) true false) false
  unfolding fits
  fits_two = fits_first r (tail ∷ []) s i ∙ rw (fits_first tail [] s (i + 1))

  pub fits_three : fits (r ∷ tail ∷ tail ∷ []) (drop i s) ≡ cond (peeks (within r) (drop i s)) (cond (peeks (within tail) (drop (i + 1) s)) (cond (peeks (within tail) (drop (i + 2) s)) true false) false) false
  unfolding fits
  fits_three =
      let e : i + 1 + 1 ≡ i + 2 = omega arith in
      fits_first r (tail ∷ tail ∷ []) s i ∙ rw (fits_first tail (tail ∷ []) s (i + 1), e, fits_first tail [] s (i + 2))

-- what fits is there
fits_short : (row : List Range) (bs : List ℕ) → fits row bs ≡ true → length row ≤ length bs
unfolding fits
fits_short [] bs e = omega arith
fits_short (r ∷ rs) [] e = absurd (false≢true e)
fits_short (r ∷ rs) (b ∷ bs) e = by_test (within r b) e (fits_short rs bs)
  where
    by_test : (t : Bool) → cond t (fits rs bs) false ≡ true → (fits rs bs ≡ true → length rs ≤ length bs) → suc (length rs) ≤ suc (length bs)
    by_test true q f = let h = f q in omega (arith, h)
    by_test false q f = absurd (false≢true q)

pub sequence_short : (rows : List (List Range)) (bs : List ℕ) → sequence_of rows bs ≤ length bs
sequence_short [] bs = omega arith
sequence_short (row ∷ rows) bs = by_test (fits row bs) refl (sequence_short rows bs)
  where
    by_test : (t : Bool) → fits row bs ≡ t → sequence_of rows bs ≤ length bs → cond t (length row) (sequence_of rows bs) ≤ length bs
    by_test true q h = fits_short row bs q
    by_test false q h = h

-- what is behind a sequence of n bytes, and nothing where there is none
abbrev behind_some : ℕ → ℕ → ℕ
behind_some zero rest = 0
behind_some (suc n) rest = rest

valid_inside : (m : ℕ) (bs : List ℕ) → m ≤ length bs → valid_from m bs ≡ m + valid_from 0 (drop m bs)
unfolding valid_from
valid_inside zero bs h = omega arith
valid_inside (suc m) [] h = absurd (omega (arith, h))
valid_inside (suc m) (b ∷ bs) h = let e = valid_inside m bs (omega (arith, h)) in omega (arith, e)

valid_behind : (n b : ℕ) (bs : List ℕ) → n ≤ suc (length bs) → behind_first n (λ m. valid_from m bs) ≡ n + behind_some n (valid_from 0 (drop n (b ∷ bs)))
valid_behind zero b bs h = omega arith
valid_behind (suc m) b bs h = let e = valid_inside m bs (omega (arith, h)) in omega (arith, e)

pub valid_some : (n b : ℕ) (bs : List ℕ) → sequence_of table (b ∷ bs) ≡ n → valid_from 0 (b ∷ bs) ≡ n + behind_some n (valid_from 0 (drop n (b ∷ bs)))
unfolding valid_from
valid_some n b bs e = rw e (valid_behind n b bs (rw e at (sequence_short table (b ∷ bs))))

-- an ASCII byte is a sequence
ascii_sequence : (b : ℕ) (bs : List ℕ) → is_ascii b ≡ true → sequence_of table (b ∷ bs) ≡ 1
unfolding fits
ascii_sequence b bs e = let h = leb-true b 127 e in rw (is_within 0 127 b (omega arith) h)

pub ascii_valid : (b : ℕ) (bs : List ℕ) → is_ascii b ≡ true → valid_up_to (b ∷ bs) ≡ suc (valid_up_to bs)
ascii_valid b bs e = let z = valid_some 1 b bs (ascii_sequence b bs e) in omega (arith, z)

-- a step over ASCII bytes, and one over a longer sequence
module _ (s : List ℕ) (i : ℕ) (h : i < length s) where
  pub step_ascii : (j : ℕ) → is_ascii (get_or s i 0) ≡ true → Passed is_ascii s (i + 1) j → Stepped s i j
  step_ascii j e x =
      let q = passed_still {rule = valid_up_to} ascii_valid x in
      let z : valid_up_to (drop i s) ≡ suc (valid_up_to (drop (i + 1) s)) = ap valid_up_to (here s i h) ∙ ascii_valid (get_or s i 0) (drop (i + 1) s) e in
      record {
        up = omega (arith, x.up);
        within = x.within;
        same = omega (arith, q.same, z);
        stuck = λ y. absurd (omega (arith, y, x.up));
      }

  some_here : (n : ℕ) → n ≡ sequence_of table (drop i s) → valid_up_to (drop i s) ≡ n + behind_some n (valid_up_to (drop (i + n) s))
  some_here n e =
      let d : drop n (get_or s i 0 ∷ drop (i + 1) s) ≡ drop (i + n) s = ap (drop n) (sym (here s i h)) ∙ drop-drop n i s in
      ap valid_up_to (here s i h)
      ∙ valid_some n (get_or s i 0) (drop (i + 1) s) (ap (sequence_of table) (sym (here s i h)) ∙ sym e)
      ∙ ap (λ (bs : List ℕ). n + behind_some n (valid_up_to bs)) d

  stepped : (n j : ℕ) → j ≡ i + n → j ≤ length s → valid_up_to (drop i s) ≡ n + behind_some n (valid_up_to (drop (i + n) s)) → Stepped s i j
  stepped zero j e l z =
      let y : j ≡ i = omega (arith, e) in
      record { up = omega (arith, e); within = l; same = ap (λ (k : ℕ). k + valid_up_to (drop k s)) y; stuck = λ w. omega (arith, z) }
  stepped (suc n) j e l z =
      let y = ap (λ (k : ℕ). valid_up_to (drop k s)) e in
      record { up = omega (arith, e); within = l; same = omega (arith, e, y, z); stuck = λ w. absurd (omega (arith, w, e)) }

  pub step_some : (n : ℕ) → n ≡ sequence_of table (drop i s) → Stepped s i (i + n)
  step_some n e =
      let l = sequence_short table (drop i s) in
      stepped n (i + n) refl (omega (arith, l, e, length-drop i s, h)) (some_here n e)

pub valid_none : valid_up_to [] ≡ 0
unfolding valid_from
valid_none = refl

-- the byte at a place, in the ranges for a first byte
pub sequence_by : (s : List ℕ) (i : ℕ) → i < length s → sequence_of table (drop i s) ≡ sequence_of table (get_or s i 0 ∷ drop (i + 1) s)
sequence_by s i h = ap (sequence_of table) (here s i h)

pub some_within : (s : List ℕ) (i : ℕ) → i < length s → (n : ℕ) → n ≡ sequence_of table (drop i s) → i + n ≤ length s
some_within s i h n e = let l = sequence_short table (drop i s) in omega (arith, l, e, length-drop i s, h)

-- the library's word for it
pub ascii_is : (b : ℕ) → ascii_byte b ≡ is_ascii b
ascii_is b = by_test (leb b 127) refl
  where
    by_test : (t : Bool) → leb b 127 ≡ t → ascii_byte b ≡ t
    by_test true q = let h = leb-true b 127 q in lt-ltb b 128 (omega (arith, h))
    by_test false q = let h = leb-false b 127 q in le-ltb b 128 (omega (arith, h))

-- one ASCII byte more
pub ascii_passed : {s : List ℕ} {at i : ℕ} → Passed is_ascii s at i → i < length s → ascii_byte (get_or s i 0) ≡ true → Passed is_ascii s at (i + 1)
ascii_passed {s} {at} {i} x l h =
    let e : is_ascii (get_or s i 0) ≡ true = sym (ascii_is _) ∙ h in
    passed_on x 1 (i + 1) refl (omega (arith, l)) (ap (all_of is_ascii 1) (here s i l) ∙ all_first is_ascii 0 (get_or s i 0) (drop (i + 1) s) ∙ rw (e, all_none is_ascii (drop (i + 1) s)))

-- the loop over the text
pub valid_start : (s : List ℕ) → Still valid_up_to s 0 0
valid_start s = begun (omega arith)

module _ {s : List ℕ} {i : ℕ} (x : Still valid_up_to s 0 i) where
  whole : i + valid_up_to (drop i s) ≡ valid_up_to s
  whole = let z = x.same in omega (arith, z)

  pub valid_on : {j : ℕ} → Stepped s i j → Still valid_up_to s 0 j
  valid_on {j} y = onward x j y.within (sym y.same)

  pub valid_stuck : {j : ℕ} → Stepped s i j → j ≡ i → i ≡ valid_up_to s
  valid_stuck y e = let z = y.stuck e in omega (arith, z, whole)

  pub valid_out : length s ≤ i → i ≡ valid_up_to s
  valid_out h = let z = ap valid_up_to (drop_of_length-le s h) ∙ valid_none in omega (arith, z, whole)
