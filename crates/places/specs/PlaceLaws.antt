-- Laws of loops through a text, once for all of them. Proved; nothing here needs to be believed.
use Rattle.std.specs.Prelude.{◌≡◌, Bool, length, drop, get_or, eqb, ltb}
use Rattle.std.proofs.Math.Path.{refl}
use Rattle.std.proofs.Common.{ap, sym, ◌∙◌, add-one, length-drop, drop_of_length-le, Fits, w8, drop-cons, drop-drop, eq-eqb, ne_eqb, eqb-true, ltb-true, ltb-false}
use Rattle.std.proofs.Math.Bool.{true, false, cond}
use Rattle.std.proofs.lemmas.Bool.{false≢true}
use Rattle.std.proofs.lemmas.List.{get_or-drop}
use Rattle.std.proofs.lemmas.List.Sums.{position_or_len_is}
use Rattle.std.specs.List.{position_or_len, AllWithin, HoldsAt}
use mathlib.Core.List.{List, [], ◌∷◌}
use Prim.Native.Nat.{ℕ, zero, suc, min, ◌+◌, ◌-◌, ◌<◌, ◌≤◌}
use native.Mathlib.Omega.{arith}
use Rattle.places.specs.Places.{Scanned, peeks, all_of, Passed}

-- the byte at a place, and those behind it
pub here : (s : List ℕ) (i : ℕ) → i < length s → drop i s ≡ get_or s i 0 ∷ drop (i + 1) s
here s i h = rw (add-one, drop-cons s i 0)

-- a loop: what the rule says from here leads to the end that it says from the start
pub record Still (rule : List ℕ → ℕ) (s : List ℕ) (i₀ i : ℕ) : Type 0 where
  pub low : i ≤ length s
  pub same : i + rule (drop i s) ≡ i₀ + rule (drop i₀ s)

module _ {rule : List ℕ → ℕ} {s : List ℕ} where
  pub begun : {i : ℕ} → i ≤ length s → Still rule s i i
  begun h = record { low = h; same = refl }

  module _ {i₀ i : ℕ} (x : Still rule s i₀ i) where
    -- n bytes on
    pub on : (n j : ℕ) → j ≡ i + n → j ≤ length s → rule (drop i s) ≡ n + rule (drop j s) → Still rule s i₀ j
    on n j e h q = record { low = h; same = omega (arith, e, q, x.same) }

    -- a byte on
    pub next : i < length s → rule (drop i s) ≡ suc (rule (drop (i + 1) s)) → Still rule s i₀ (i + 1)
    next h q = record { low = omega (arith, h); same = omega (arith, q, x.same) }

    -- to a place with the same end
    pub onward : (j : ℕ) → j ≤ length s → i + rule (drop i s) ≡ j + rule (drop j s) → Still rule s i₀ j
    onward j h q = record { low = h; same = omega (arith, q, x.same) }

    -- the rule ends here
    pub over : (n j : ℕ) → j ≡ i + n → j ≤ length s → rule (drop i s) ≡ n → Scanned rule s i₀ j
    over n j e h q = record { is = omega (arith, e, q, x.same); within = h }

    -- so does the text
    pub out : rule [] ≡ 0 → length s ≤ i → Scanned rule s i₀ i
    out z h =
        let e : drop i s ≡ [] = drop_of_length-le s h in
        over 0 i (omega arith) x.low (ap rule e ∙ z)

-- what is next
module _ (set : ℕ → Bool) (s : List ℕ) (i : ℕ) where
  pub peeks_here : i < length s → peeks set (drop i s) ≡ set (get_or s i 0)
  unfolding peeks
  peeks_here h = rw (here s i h)

  pub peeks_out : length s ≤ i → peeks set (drop i s) ≡ false
  unfolding peeks
  peeks_out h = rw (drop_of_length-le s h)

  peeks_some : (bs : List ℕ) → peeks set bs ≡ true → 0 < length bs
  unfolding peeks
  peeks_some [] e = absurd (false≢true e)
  peeks_some (b ∷ bs) e = omega arith

  pub peeks_within : peeks set (drop i s) ≡ true → i < length s
  peeks_within e = let h : 0 < length (drop i s) = peeks_some (drop i s) e in omega (arith, simp length-drop at h)

-- a byte further, two, three
pub dropped : (s : List ℕ) (i : ℕ) → drop 1 (drop i s) ≡ drop (i + 1) s
dropped s i = drop-drop 1 i s

pub dropped_two : (s : List ℕ) (i : ℕ) → drop 1 (drop 1 (drop i s)) ≡ drop (i + 2) s
dropped_two s i = ap (drop 1) (dropped s i) ∙ dropped s (i + 1) ∙ (let e : i + 1 + 1 ≡ i + 2 = omega arith in ap (λ (n : ℕ). drop n s) e)

pub dropped_three : (s : List ℕ) (i : ℕ) → drop 2 (drop (i + 1) s) ≡ drop (i + 3) s
dropped_three s i = drop-drop 2 (i + 1) s ∙ (let e : i + 1 + 2 ≡ i + 3 = omega arith in ap (λ (n : ℕ). drop n s) e)

-- bytes that are all of a set
module _ (set : ℕ → Bool) where
  pub all_none : (bs : List ℕ) → all_of set 0 bs ≡ true
  unfolding all_of
  all_none bs = refl

  pub all_first : (n b : ℕ) (bs : List ℕ) → all_of set (suc n) (b ∷ bs) ≡ cond (set b) (all_of set n bs) false
  unfolding all_of
  all_first n b bs = refl

  pub all_more : (m n : ℕ) (bs : List ℕ) → all_of set m bs ≡ true → all_of set n (drop m bs) ≡ true → all_of set (m + n) bs ≡ true
  unfolding all_of
  all_more zero n bs p q = let e : 0 + n ≡ n = omega arith in rw e q
  all_more (suc m) n [] p q = let e : suc m + n ≡ suc (m + n) = omega arith in rw e
  all_more (suc m) n (b ∷ bs) p q = let e : suc m + n ≡ suc (m + n) = omega arith in rw e (by_test (set b) p (λ r. all_more m n bs r q))
    where
      by_test : (t : Bool) → cond t (all_of set m bs) false ≡ true → (all_of set m bs ≡ true → all_of set (m + n) bs ≡ true) → cond t (all_of set (m + n) bs) false ≡ true
      by_test true r f = f r
      by_test false r f = r

  -- a rule that takes each byte of the set takes n of them
  pub all_taken : (rule : List ℕ → ℕ) → ((b : ℕ) (bs : List ℕ) → set b ≡ true → rule (b ∷ bs) ≡ suc (rule bs)) → (n : ℕ) (bs : List ℕ) → n ≤ length bs → all_of set n bs ≡ true → rule bs ≡ n + rule (drop n bs)
  unfolding all_of
  all_taken rule takes zero bs h p = omega arith
  all_taken rule takes (suc n) [] h p = absurd (omega (arith, h))
  all_taken rule takes (suc n) (b ∷ bs) h p = by_test (set b) refl p (all_taken rule takes n bs (omega (arith, h)))
    where
      by_test : (t : Bool) → set b ≡ t → cond t (all_of set n bs) false ≡ true → (all_of set n bs ≡ true → rule bs ≡ n + rule (drop n bs)) → rule (b ∷ bs) ≡ suc n + rule (drop n bs)
      by_test true e r f = let z = takes b bs e in let y = f r in omega (arith, z, y)
      by_test false e r f = absurd (false≢true r)

-- a loop that counts the bytes of the set among thirty-two: so many of the first k
pub record Tallied (set : ℕ → Bool) (s : List ℕ) (at count k : ℕ) : Type 0 where
  pub most : k ≤ 32
  pub few : count ≤ k
  pub same : cond (eqb count k) (all_of set (32 - k) (drop (at + k) s)) false ≡ all_of set 32 (drop at s)

pub one_most : (set : ℕ → Bool) (b : ℕ) → cond (set b) 1 0 ≤ 1
one_most set b = by_test (set b)
  where
    by_test : (t : Bool) → cond t 1 0 ≤ 1
    by_test true = omega arith
    by_test false = omega arith

pub tally_begun : (set : ℕ → Bool) (s : List ℕ) (at : ℕ) → Tallied set s at 0 0
tally_begun set s at = let e : at + 0 ≡ at = omega arith in record { most = omega arith; few = omega arith; same = rw e }

both_more : (m n : ℕ) (t : Bool) → eqb m n ≡ t → eqb (m + 1) (n + 1) ≡ t
both_more m n true e = eq-eqb (m + 1) (n + 1) (let z = eqb-true m n e in omega (arith, z))
both_more m n false e = ne_eqb (m + 1) (n + 1) (λ y. false≢true (sym e ∙ eq-eqb m n (omega (arith, y))))

cond_false : (t : Bool) → cond t false false ≡ false
cond_false true = refl
cond_false false = refl

cond_self : (t : Bool) → t ≡ cond t true false
cond_self true = refl
cond_self false = refl

module _ {set : ℕ → Bool} {s : List ℕ} {at count k : ℕ} (x : Tallied set s at count k) where
  pub tally_on : k < 32 → at + k < length s → (n : ℕ) → n ≡ cond (set (get_or s (at + k) 0)) 1 0 → Tallied set s at (count + n) (k + 1)
  tally_on l h n e =
      record {
        most = omega (arith, l);
        few = omega (arith, x.few, e, one_most set (get_or s (at + k) 0));
        same = by_test (set (get_or s (at + k) 0)) refl e;
      }
    where
      first : all_of set (32 - k) (drop (at + k) s) ≡ cond (set (get_or s (at + k) 0)) (all_of set (32 - (k + 1)) (drop (at + (k + 1)) s)) false
      first =
          let q : 32 - k ≡ suc (32 - (k + 1)) = omega (arith, l) in
          let r : at + k + 1 ≡ at + (k + 1) = omega arith in
          ap (λ (m : ℕ). all_of set m (drop (at + k) s)) q
          ∙ ap (all_of set (suc (32 - (k + 1)))) (here s (at + k) h)
          ∙ all_first set (32 - (k + 1)) (get_or s (at + k) 0) (drop (at + k + 1) s)
          ∙ ap (λ (m : ℕ). cond (set (get_or s (at + k) 0)) (all_of set (32 - (k + 1)) (drop m s)) false) r

      by_test : (t : Bool) → set (get_or s (at + k) 0) ≡ t → n ≡ cond t 1 0 → cond (eqb (count + n) (k + 1)) (all_of set (32 - (k + 1)) (drop (at + (k + 1)) s)) false ≡ all_of set 32 (drop at s)
      by_test true p q =
          let r : count + n ≡ count + 1 = omega (arith, q) in
          rw (r, both_more count k (eqb count k) refl) (sym (ap (λ (t : Bool). cond (eqb count k) t false) (first ∙ rw p)) ∙ x.same)
      by_test false p q =
          rw (ne_eqb (count + n) (k + 1) (λ y. omega (arith, y, q, x.few))) (sym (cond_false (eqb count k)) ∙ sym (ap (λ (t : Bool). cond (eqb count k) t false) (first ∙ rw p)) ∙ x.same)

  pub tally_end : 32 ≤ k → eqb count 32 ≡ all_of set 32 (drop at s)
  tally_end h =
      let e : 32 - k ≡ 0 = omega (arith, h) in
      let z : 32 ≡ k = omega (arith, h, x.most) in
      ap (eqb count) z
      ∙ cond_self (eqb count k)
      ∙ ap (λ (t : Bool). cond (eqb count k) t false) (sym (ap (λ (m : ℕ). all_of set m (drop (at + k) s)) e ∙ all_none set (drop (at + k) s)))
      ∙ x.same

-- bytes that were passed
module _ {set : ℕ → Bool} {s : List ℕ} where
  pub passed_none : {i : ℕ} → i ≤ length s → Passed set s i i
  passed_none {i} h = record { up = omega arith; within = h; each = λ n e. let z : n ≡ 0 = omega (arith, e) in rw z (all_none set (drop i s)) }

  pub passed_on : {i₀ i : ℕ} → Passed set s i₀ i → (n j : ℕ) → j ≡ i + n → j ≤ length s → all_of set n (drop i s) ≡ true → Passed set s i₀ j
  passed_on {i₀} {i} x n j e h q =
      record {
        up = omega (arith, e, x.up);
        within = h;
        each = λ m d.
            let u : i ≡ i₀ + (i - i₀) = omega (arith, x.up) in
            let v : m ≡ i - i₀ + n = omega (arith, d, e, x.up) in
            let w : drop (i - i₀) (drop i₀ s) ≡ drop i s = drop-drop (i - i₀) i₀ s ∙ ap (λ (k : ℕ). drop k s) (sym u) in
            rw v (all_more set (i - i₀) n (drop i₀ s) (x.each (i - i₀) u) (ap (all_of set n) w ∙ q));
      }

  -- are still of the token
  pub passed_still : {rule : List ℕ → ℕ} → ((b : ℕ) (bs : List ℕ) → set b ≡ true → rule (b ∷ bs) ≡ suc (rule bs)) → {i j : ℕ} → Passed set s i j → Still rule s i j
  passed_still {rule} takes {i} {j} x =
      let u : j ≡ i + (j - i) = omega (arith, x.up) in
      let w : drop (j - i) (drop i s) ≡ drop j s = drop-drop (j - i) i s ∙ ap (λ (k : ℕ). drop k s) (sym u) in
      let l : j - i ≤ length (drop i s) = omega (arith, length-drop i s, x.within) in
      on (begun {rule = rule} {s = s} {i = i} (omega (arith, x.up, x.within))) (j - i) j u x.within
      (all_taken set rule takes (j - i) (drop i s) l (x.each (j - i) u) ∙ ap (λ (bs : List ℕ). j - i + rule bs) w)

  -- and on from there
  pub passed_to : {i₀ i j : ℕ} → Passed set s i₀ i → Passed set s i j → Passed set s i₀ j
  passed_to {i₀} {i} {j} x y =
      let e : j ≡ i + (j - i) = omega (arith, y.up) in
      passed_on x (j - i) j e y.within (y.each (j - i) e)

-- a loop that looks for the first of thirty-two bytes that is not of the set: of the first k those before it are
pub record Led (set : ℕ → Bool) (s : List ℕ) (at first k : ℕ) : Type 0 where
  pub most : k ≤ 32
  pub low : first ≤ 32
  pub each : (n : ℕ) → n ≤ k → n ≤ first → all_of set n (drop at s) ≡ true

module _ {set : ℕ → Bool} {s : List ℕ} {at : ℕ} where
  pub led_begun : Led set s at 32 0
  led_begun = record { most = omega arith; low = omega arith; each = λ n h l. let z : n ≡ 0 = omega (arith, h) in rw z (all_none set (drop at s)) }

  module _ {first k : ℕ} (x : Led set s at first k) where
    -- k bytes, and the next
    one_more : at + k < length s → set (get_or s (at + k) 0) ≡ true → k ≤ first → all_of set (k + 1) (drop at s) ≡ true
    one_more h e l =
        let d : drop k (drop at s) ≡ get_or s (at + k) 0 ∷ drop (at + k + 1) s = drop-drop k at s ∙ here s (at + k) h in
        let o : all_of set 1 (get_or s (at + k) 0 ∷ drop (at + k + 1) s) ≡ true = all_first set 0 _ _ ∙ rw (e, all_none set (drop (at + k + 1) s)) in
        all_more set k 1 (drop at s) (x.each k (omega arith) l) (ap (all_of set 1) d ∙ o)

    pub led_on : k < 32 → at + k < length s → (place least : ℕ) → place ≡ cond (set (get_or s (at + k) 0)) 32 k → least ≡ min first place → Led set s at least (k + 1)
    led_on l h place least p q =
        record {
          most = omega (arith, l);
          low = omega (arith, q, x.low);
          each = λ n m f. by_place (set (get_or s (at + k) 0)) refl p n m (omega (arith, q, f)) (omega (arith, q, f));
        }
      where
        by_far : (n : ℕ) → n ≤ k + 1 → n ≤ first → set (get_or s (at + k) 0) ≡ true → (t : Bool) → ltb k n ≡ t → all_of set n (drop at s) ≡ true
        by_far n m f e true r =
            let z = ltb-true k n r in
            let y : n ≡ k + 1 = omega (arith, z, m) in
            rw y (one_more h e (omega (arith, y, f)))
        by_far n m f e false r = x.each n (ltb-false k n r) f

        by_place : (t : Bool) → set (get_or s (at + k) 0) ≡ t → place ≡ cond t 32 k → (n : ℕ) → n ≤ k + 1 → n ≤ first → n ≤ place → all_of set n (drop at s) ≡ true
        by_place true e y n m f g = by_far n m f e (ltb k n) refl
        by_place false e y n m f g = x.each n (omega (arith, y, g)) f

    pub led_end : 32 ≤ k → at + 32 ≤ length s → Passed set s at (at + first)
    led_end h w =
        record {
          up = omega arith;
          within = omega (arith, x.low, w);
          each = λ n e. x.each n (omega (arith, e, x.low, h)) (omega (arith, e));
        }

-- the first byte of a set, where a test was asked of each byte
module _ (set : ℕ → Bool) (s : List ℕ) (at : ℕ) (up : at ≤ length s) (fits : (i : ℕ) → Fits w8 (get_or s i 0)) where
  short : (k : ℕ) → get_or (drop at s) k 0 < 256
  short k = let h : Fits w8 (get_or s (at + k) 0) = fits (at + k) in rw get_or-drop (omega arith)

  pub first_at : (i : ℕ) → (i < length (drop at s)) × HoldsAt (λ b. b < 256 → set b ≡ true) (drop at s) i × AllWithin (λ b. b < 256 → set b ≡ false) (drop at s) 0 i → Scanned (λ bs. position_or_len set bs) s at (at + i)
  first_at i (h, here, before) =
      let e : position_or_len set (drop at s) ≡ i = position_or_len_is set (drop at s) i 0 (omega arith) (λ k l. before k 0 (omega arith) l (short k)) (λ l. here 0 (short i)) in
      record { is = omega (arith, e); within = omega (arith, h, length-drop at s) }

  pub first_none : AllWithin (λ b. b < 256 → set b ≡ false) (drop at s) 0 (length (drop at s)) → Scanned (λ bs. position_or_len set bs) s at (length s)
  first_none each =
      let e : position_or_len set (drop at s) ≡ length (drop at s) = position_or_len_is set (drop at s) (length (drop at s)) 0 (omega arith) (λ k l. each k 0 (omega arith) l (short k)) (λ l. absurd (omega arith)) in
      record { is = omega (arith, e, length-drop at s); within = omega arith }
