-- Laws of filling: entries of one size, stored one behind the other, are what a buffer is filled with. Proved; nothing here needs to be believed.
use Rattle.std.specs.Prelude.{◌≡◌, refl, Bool, true, false, cond, take, ltb}
use Rattle.std.proofs.Math.Path.{ap}
use Rattle.std.proofs.Common.{sym, subst, ◌∙◌, arith, length-take, length-drop, take_all, drop-drop, ltb-true, ltb-false}
use mathlib.Core.List.{List, [], ◌∷◌, ◌++◌, append_assoc, append-nil}
use Prim.Native.Nat.{ℕ, zero, suc, ◌+◌, ◌*◌, ◌/◌, ◌<◌, ◌≤◌}
use Rattle.std.proofs.Math.Nat.{suc-mul, mul-le-mul_right, div-mul-le_self, min-le_left}
use Rattle.std.proofs.Math.ListN.{length, drop, length-append}
use Rattle.std.proofs.lemmas.List.{take-append-le}
use Rattle.std.proofs.Math.Seq.{take-append_seam, take-nil, drop-append-add, sets}
use Rattle.std.proofs.lemmas.List.Edits.{sets-eq}
use Rattle.rules.specs.Answer.{joined, written, filled}
use Rattle.filling.specs.FillLaws.{Sized}

pub sized_more : (size : ℕ) (es : List (List ℕ)) (w : List ℕ) → Sized size es → length w ≡ size → Sized size (es ++ (w ∷ []))
sized_more size [] w z h = (h, tt)
sized_more size (e ∷ es) w z h = (z.0, sized_more size es w z.1 h)

sized_take : (size n : ℕ) (es : List (List ℕ)) → Sized size es → Sized size (take n es)
sized_take size zero [] z = tt
sized_take size zero (e ∷ es) z = tt
sized_take size (suc n) [] z = tt
sized_take size (suc n) (e ∷ es) z = (z.0, sized_take size n es z.1)

joined_length : (size : ℕ) (es : List (List ℕ)) → Sized size es → length (joined es) ≡ length es * size
joined_length size [] z = omega arith
joined_length size (e ∷ es) z = omega (arith, length-append e (joined es), z.0, joined_length size es z.1, suc-mul (length es) size)

joined_more : (es : List (List ℕ)) (w : List ℕ) → joined (es ++ (w ∷ [])) ≡ joined es ++ w
joined_more [] w = append-nil w
joined_more (e ∷ es) w = ap (λ (x : List ℕ). e ++ x) (joined_more es w) ∙ sym (append_assoc e (joined es) w)

-- filling a buffer changes no length
pub length_filled : (size : ℕ) (es : List (List ℕ)) (l : List ℕ) → Sized size es → length (filled size es l) ≡ length l
unfolding filled
length_filled size es l z =
    let room : ℕ = length l / size in
    let held : room * size ≤ length l = div-mul-le_self (length l) size in
    let some : length (take room es) ≤ room = subst (λ (n : ℕ). n ≤ room) (sym (length-take room es)) (min-le_left room (length es)) in
    let most : length (take room es) * size ≤ room * size = mul-le-mul_right size some in
    simp (length-append, length-drop) (omega (arith, joined_length size (take room es) (sized_take size room es z)))

-- words stored behind the ones that a buffer begins with
stored_behind : (p w l : List ℕ) → length p + length w ≤ length l → sets (p ++ drop (length p) l) (length p) w ≡ (p ++ w) ++ drop (length (p ++ w)) l
stored_behind p w l h =
    let inside : length p + length w ≤ length (p ++ drop (length p) l) = simp (length-append, length-drop) (omega arith) in
    sets-eq w (p ++ drop (length p) l) (length p) inside
    ∙ ap (λ (x : List ℕ). x ++ w ++ drop (length p + length w) (p ++ drop (length p) l)) (take-append_seam p (drop (length p) l))
    ∙ ap (λ (x : List ℕ). p ++ w ++ x) (drop-append-add p (drop (length p) l) (length w) ∙ drop-drop (length w) (length p) l ∙ ap (λ (n : ℕ). drop n l) (sym (length-append p w)))

-- one more entry: stored where there is room for it, and else left out
module _ (size : ℕ) (es : List (List ℕ)) (w l : List ℕ) where
  pub more_fits : Sized size es → length w ≡ size → length es < length l / size → sets (filled size es l) (length es * size) w ≡ filled size (es ++ (w ∷ [])) l
  unfolding filled
  more_fits z h fits =
      let room : ℕ = length l / size in
      let held : room * size ≤ length l = div-mul-le_self (length l) size in
      let most : suc (length es) * size ≤ room * size = mul-le-mul_right size fits in
      let long : length (joined es) ≡ length es * size = joined_length size es z in
      let whole : length (es ++ (w ∷ [])) ≤ room = simp length-append (omega arith) in
      ap (λ (x : List (List ℕ)). sets (written x l) (length es * size) w) (take_all room es (omega arith))
      ∙ ap (λ (n : ℕ). sets (written es l) n w) (sym long)
      ∙ stored_behind (joined es) w l (omega (arith, suc-mul (length es) size))
      ∙ ap (λ (x : List ℕ). x ++ drop (length x) l) (sym (joined_more es w))
      ∙ ap (λ (x : List (List ℕ)). written x l) (sym (take_all room (es ++ (w ∷ [])) whole))

  pub more_left_out : length l / size ≤ length es → filled size es l ≡ filled size (es ++ (w ∷ [])) l
  unfolding filled
  more_left_out full = ap (λ (x : List (List ℕ)). written x l) (sym (take-append-le (length l / size) es (w ∷ []) full))

-- by the test that the code makes
stored_by : (t : Bool) (size : ℕ) (es : List (List ℕ)) (w l : List ℕ) → Sized size es → length w ≡ size → ltb (length es) (length (filled size es l) / size) ≡ t
    → cond t (sets (filled size es l) (length es * size) w) (filled size es l) ≡ filled size (es ++ (w ∷ [])) l
stored_by true size es w l z h e = more_fits size es w l z h (subst (λ (n : ℕ). length es < n / size) (length_filled size es l z) (ltb-true _ _ e))
stored_by false size es w l z h e = more_left_out size es w l (subst (λ (n : ℕ). n / size ≤ length es) (length_filled size es l z) (ltb-false _ _ e))

pub stored : (size : ℕ) (es : List (List ℕ)) (w l : List ℕ) → Sized size es → length w ≡ size
    → cond (ltb (length es) (length (filled size es l) / size)) (sets (filled size es l) (length es * size) w) (filled size es l) ≡ filled size (es ++ (w ∷ [])) l
stored size es w l z h = stored_by _ size es w l z h refl

pub filled_none : (size : ℕ) (l : List ℕ) → filled size [] l ≡ l
unfolding filled
filled_none size l = ap (λ (x : List (List ℕ)). written x l) (take-nil (length l / size))
