-- Laws of buffers: entries of one size laid end to end, and what a buffer holds after as many were written as fit.
use mathlib.Core.Path.{◌≡◌, refl, ap, sym, ◌∙◌}
use mathlib.Core.List.{List, [], ◌∷◌, ◌++◌, append_assoc}
use Prim.Native.Nat.{ℕ, zero, suc, ◌+◌, ◌*◌, ◌/◌, ◌<◌, ◌≤◌}
use native.Mathlib.Omega.{arith}
use native.Mathlib.Nat.{zero-mul, suc-mul, le_trans, le_of_eq, mul-le-mul_right, div-mul-le_self}
use lib.ListN.{length, take, drop, get_or, length-append, length-take, length-drop, get_or-append}
use lib.Seq.{take_all, take_at, drop_at, get_or-append-add}
use Rattle.rules.specs.Answer.{joined, filled}

-- entries of n words each
pub data Sized (n : ℕ) : List (List ℕ) → Type 0 where
  sized_none : Sized n []
  sized_entry : {w : List ℕ} {ws : List (List ℕ)} → length w ≡ n → Sized n ws → Sized n (w ∷ ws)

pub joined_length : {n : ℕ} {ws : List (List ℕ)} → Sized n ws → length (joined ws) ≡ length ws * n
joined_length {n} sized_none = sym (zero-mul n)
joined_length {n} (sized_entry {w} {ws} e r) =
    rw (length-append w (joined ws)) (rw (suc-mul (length ws) n) (omega (arith, e, joined_length r)))

pub sized_take : {n : ℕ} {ws : List (List ℕ)} (k : ℕ) → Sized n ws → Sized n (take k ws)
sized_take zero s = sized_none
sized_take (suc k) sized_none = sized_none
sized_take (suc k) (sized_entry e r) = sized_entry e (sized_take k r)

-- word j of entry i
pub word_of : {n : ℕ} {ws : List (List ℕ)} (rest : List ℕ) (i j d : ℕ) → Sized n ws → i < length ws → j < n
    → get_or (joined ws ++ rest) (i * n + j) d ≡ get_or (get_or ws i []) j d
word_of {n} rest i j d sized_none h l = absurd (omega arith)
word_of {n} rest zero j d (sized_entry {w} {ws} e r) h l =
    let first : 0 * n + j ≡ j = rw (zero-mul n) (omega arith) in
    rw (first, append_assoc w (joined ws) rest) (get_or-append w (joined ws ++ rest) d j (omega (arith, e)))
word_of {n} rest (suc i) j d (sized_entry {w} {ws} e r) h l =
    let later : suc i * n + j ≡ length w + (i * n + j) = rw (suc-mul i n) (omega (arith, e)) in
    rw (later, append_assoc w (joined ws) rest) (get_or-append-add w (joined ws ++ rest) (i * n + j) d ∙ word_of rest i j d r (omega arith) l)

-- entries of one size are known by their words
pub joined_known : {n : ℕ} {ws vs : List (List ℕ)} → 0 < n → Sized n ws → Sized n vs → joined ws ≡ joined vs → ws ≡ vs
joined_known {n} p sized_none sized_none e = refl
joined_known {n} p sized_none (sized_entry {w} {ws} g r) e = absurd (omega (arith, g, simp length-append at (ap length e)))
joined_known {n} p (sized_entry {w} {ws} g r) sized_none e = absurd (omega (arith, g, simp length-append at (ap length e)))
joined_known {n} p (sized_entry {w = w} {ws = ws} g r) (sized_entry {w = v} {ws = vs} f t) e =
    let same : w ≡ v = sym (take_at w (joined ws) n g) ∙ ap (take n) e ∙ take_at v (joined vs) n f in
    let more : joined ws ≡ joined vs = sym (drop_at w (joined ws) n g) ∙ ap (drop n) e ∙ drop_at v (joined vs) n f in
    λ i. same i ∷ joined_known p r t more i

-- a buffer in which all entries fit: they stand first, and the rest is as it was
pub all_fit : (size : ℕ) (es : List (List ℕ)) (buffer : List ℕ) → length es ≤ length buffer / size → filled size es buffer ≡ joined es ++ drop (length (joined es)) buffer
unfolding filled
all_fit size es buffer h = rw (take_all (length buffer / size) es h)

pub take_entries : {size : ℕ} {es : List (List ℕ)} (buffer : List ℕ) → Sized size es → length es ≤ length buffer / size
    → take (length es * size) (filled size es buffer) ≡ joined es
take_entries {size} {es} buffer s h = rw (all_fit size es buffer h) (take_at (joined es) (drop (length (joined es)) buffer) (length es * size) (joined_length s))

-- what lies behind the entries is as it was
pub drop_entries : {size : ℕ} {es : List (List ℕ)} (buffer : List ℕ) → Sized size es → length es ≤ length buffer / size
    → drop (length es * size) (filled size es buffer) ≡ drop (length es * size) buffer
drop_entries {size} {es} buffer s h =
    rw (all_fit size es buffer h) (drop_at (joined es) (drop (length (joined es)) buffer) (length es * size) (joined_length s) ∙ ap (λ (n : ℕ). drop n buffer) (joined_length s))

-- word j of entry i in a buffer in which all entries fit
pub word_in : {size : ℕ} {es : List (List ℕ)} (buffer : List ℕ) (i j d : ℕ) → Sized size es → length es ≤ length buffer / size → i < length es → j < size
    → get_or (filled size es buffer) (i * size + j) d ≡ get_or (get_or es i []) j d
word_in {size} {es} buffer i j d s h l m = rw (all_fit size es buffer h) (word_of (drop (length (joined es)) buffer) i j d s l m)

-- a buffer keeps its length
pub filled_length : {size : ℕ} {es : List (List ℕ)} (buffer : List ℕ) → Sized size es → length (filled size es buffer) ≡ length buffer
unfolding filled
filled_length {size} {es} buffer s =
    let k = take (length buffer / size) es in
    let few : length k ≤ length buffer / size = simp length-take (omega arith) in
    let room : length (joined k) ≤ length buffer = le_trans (le_of_eq (joined_length (sized_take (length buffer / size) s))) (le_trans (mul-le-mul_right size few) (div-mul-le_self (length buffer) size)) in
    simp (length-append, length-drop) (omega arith)
