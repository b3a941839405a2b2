-- Laws of the pass over the errors: it leaves alone what is written behind the errors that it has passed, so an error that the walk writes and the pass
-- places and numbers is stored whole. Proved; nothing here needs to be believed.
use mathlib.Core.Path.{◌≡◌, refl, ap, sym, subst, ◌∙◌}
use mathlib.Core.Bool.{Bool, true, false, cond}
use mathlib.Core.List.{List, [], ◌∷◌, ◌++◌}
use Prim.Native.Nat.{ℕ, zero, suc, ◌+◌, ◌*◌, ◌/◌, ◌<◌, ◌≤◌}
use native.Mathlib.Nat.{div-mul-le_self, mul-le-mul_right}
use native.Mathlib.Numerals.{towards_suc}
use native.Mathlib.Omega.{arith}
use lib.ListN.{length, get_or, set, length-set}
use lib.Seq.{get_or-set_same, get_or-set_other, set-set, set_comm}
use lib.Dec.{ltb}
use borrow.Author.Tests.{ltb-true, ltb-false, le-ltb, lt-ltb}
use Rattle.token.specs.declared.span.Span.{Span}
use Rattle.token.specs.Tokens.{Tok}
use Rattle.rules.specs.declared.options.Mode.{Mode}
use Rattle.rules.specs.Answer.{error_size, filled}
use Rattle.rules.specs.Lines.{line_of}
use Rattle.buffer_puts.specs.Puts.{put_error, more}
use Rattle.line_numbers.specs.Numbering.{placed, placed_at, spanned, numbered_at, numbered_one, numbered_first, stored, numbered}
use Rattle.filling.specs.FillLaws.{Sized}
use Rattle.filling.proofs.FillLaws.{length_filled, more_fits, more_left_out}

-- a pass changes no length
spanned_length : (l : List ℕ) (b : ℕ) (u : Span) (line : ℕ) → length (spanned l b u line) ≡ length l
spanned_length l b u line = length-set (set (set l (b + 4) u.start) (b + 5) u.end) (b + 6) line ∙ length-set (set l (b + 4) u.start) (b + 5) u.end ∙ length-set l (b + 4) u.start

pub numbered_length : (mode : Mode) (all : List Tok) (n : ℕ) (l : List ℕ) → length (numbered_first mode all n l) ≡ length l
unfolding numbered_first
numbered_length mode all zero l = refl
numbered_length mode all (suc n) l =
    let m = numbered_first mode all n l in
    let u = placed_at mode all (n * error_size) m in
    spanned_length m (n * error_size) u (line_of all u.start) ∙ numbered_length mode all n l

-- a word behind an error
module _ (mode : Mode) (all : List Tok) (m : List ℕ) (b j x : ℕ) (h : b + 6 < j) where
  placed_same : placed_at mode all b (set m j x) ≡ placed_at mode all b m
  placed_same =
      let four = get_or-set_other m j (b + 4) x 0 (λ e. omega (arith, h, e)) in
      let five = get_or-set_other m j (b + 5) x 0 (λ e. omega (arith, h, e)) in
      let six = get_or-set_other m j (b + 6) x 0 (λ e. omega (arith, h, e)) in
      (λ i. placed mode all (four i) (five i) (six i))

  spanned_before : (u : Span) (line : ℕ) → spanned (set m j x) b u line ≡ set (spanned m b u line) j x
  spanned_before u line =
      let one = set m (b + 4) u.start in
      let two = set one (b + 5) u.end in
      ap (λ (l : List ℕ). set (set l (b + 5) u.end) (b + 6) line) (set_comm m j (b + 4) x u.start (λ e. omega (arith, h, e)))
      ∙ ap (λ (l : List ℕ). set l (b + 6) line) (set_comm one j (b + 5) x u.end (λ e. omega (arith, h, e)))
      ∙ set_comm two j (b + 6) x line (λ e. omega (arith, h, e))

  one_before : numbered_at mode all b (set m j x) ≡ set (numbered_at mode all b m) j x
  one_before = ap (λ (u : Span). spanned (set m j x) b u (line_of all u.start)) placed_same ∙ spanned_before (placed_at mode all b m) (line_of all (placed_at mode all b m).start)

-- a word behind the errors that were passed
behind : (mode : Mode) (all : List Tok) (n : ℕ) (l : List ℕ) (j x : ℕ) → n * error_size ≤ j → numbered_first mode all n (set l j x) ≡ set (numbered_first mode all n l) j x
unfolding numbered_first
behind mode all zero l j x h = refl
behind mode all (suc n) l j x h =
    ap (numbered_one mode all n) (behind mode all n l j x (omega (arith, h))) ∙ one_before mode all (numbered_first mode all n l) (n * error_size) j x (omega (arith, h))

-- the words that the walk writes
abbrev written : List ℕ → ℕ → ℕ → ℕ → ℕ → ℕ → ℕ → ℕ → ℕ → List ℕ
written l at a b c d e f g = set (set (set (set (set (set (set l at a) (at + 1) b) (at + 2) c) (at + 3) d) (at + 4) e) (at + 5) f) (at + 6) g

module _ (mode : Mode) (all : List Tok) (n : ℕ) where
  one_behind : (l : List ℕ) {m : List ℕ} (j x : ℕ) → numbered_first mode all n l ≡ m → n * error_size ≤ j → numbered_first mode all n (set l j x) ≡ set m j x
  one_behind l j x q h = behind mode all n l j x h ∙ ap (λ (y : List ℕ). set y j x) q

  written_behind : (l : List ℕ) (a b c d e f g : ℕ) → numbered_first mode all n (written l (n * error_size) a b c d e f g) ≡ written (numbered_first mode all n l) (n * error_size) a b c d e f g
  written_behind l a b c d e f g =
      let at = n * error_size in
      let l₁ = set l at a in
      let l₂ = set l₁ (at + 1) b in
      let l₃ = set l₂ (at + 2) c in
      let l₄ = set l₃ (at + 3) d in
      let l₅ = set l₄ (at + 4) e in
      one_behind (set l₅ (at + 5) f) (at + 6) g
      (one_behind l₅ (at + 5) f
      (one_behind l₄ (at + 4) e
      (one_behind l₃ (at + 3) d (one_behind l₂ (at + 2) c (one_behind l₁ (at + 1) b (one_behind l at a refl (omega arith)) (omega arith)) (omega arith)) (omega arith)) (omega arith))
      (omega arith)) (omega arith)

-- three words that are written twice
twice : (l : List ℕ) (at e f g e' f' g' : ℕ) → set (set (set (set (set (set l (at + 4) e) (at + 5) f) (at + 6) g) (at + 4) e') (at + 5) f') (at + 6) g' ≡ set (set (set l (at + 4) e') (at + 5) f') (at + 6) g'
twice l at e f g e' f' g' =
    let m = set l (at + 4) e in
    let n = set l (at + 4) e' in
    let first : set (set (set m (at + 5) f) (at + 6) g) (at + 4) e' ≡ set (set n (at + 5) f) (at + 6) g =
    set_comm (set m (at + 5) f) (at + 6) (at + 4) g e' (λ q. omega (arith, q))
    ∙ ap (λ (y : List ℕ). set y (at + 6) g) (set_comm m (at + 5) (at + 4) f e' (λ q. omega (arith, q)) ∙ ap (λ (y : List ℕ). set y (at + 5) f) (set-set l (at + 4) e e')) in
    let second : set (set (set n (at + 5) f) (at + 6) g) (at + 5) f' ≡ set (set n (at + 5) f') (at + 6) g =
    set_comm (set n (at + 5) f) (at + 6) (at + 5) g f' (λ q. omega (arith, q)) ∙ ap (λ (y : List ℕ). set y (at + 6) g) (set-set n (at + 5) f f') in
    ap (λ (y : List ℕ). set (set y (at + 5) f') (at + 6) g') first ∙ ap (λ (y : List ℕ). set y (at + 6) g') second ∙ set-set (set n (at + 5) f') (at + 6) g g'

-- what the pass makes of an error that was just written
module _ (mode : Mode) (all : List Tok) (l : List ℕ) (at a b c d e f g : ℕ) (h : at + 6 < length l) where
  abbrev Four : List ℕ
  Four = set (set (set (set l at a) (at + 1) b) (at + 2) c) (at + 3) d

  long : (i : ℕ) → i ≤ 6 → at + i < length Four
  long i k = simp length-set (omega (arith, h, k))

  placed_here : placed_at mode all at (written l at a b c d e f g) ≡ placed mode all e f g
  placed_here =
      let five = set Four (at + 4) e in
      let six = set five (at + 5) f in
      let start : get_or (set six (at + 6) g) (at + 4) 0 ≡ e =
      get_or-set_other six (at + 6) (at + 4) g 0 (λ q. omega (arith, q)) ∙ get_or-set_other five (at + 5) (at + 4) f 0 (λ q. omega (arith, q)) ∙ get_or-set_same Four (at + 4) e 0 (long 4 (omega arith)) in
      let end : get_or (set six (at + 6) g) (at + 5) 0 ≡ f =
      get_or-set_other six (at + 6) (at + 5) g 0 (λ q. omega (arith, q)) ∙ get_or-set_same five (at + 5) f 0 (simp length-set (omega (arith, h))) in
      let mark : get_or (set six (at + 6) g) (at + 6) 0 ≡ g = get_or-set_same six (at + 6) g 0 (simp length-set (omega (arith, h))) in
      (λ i. placed mode all (start i) (end i) (mark i))

  numbered_here : numbered_at mode all at (written l at a b c d e f g) ≡ written l at a b c d (placed mode all e f g).start (placed mode all e f g).end (line_of all (placed mode all e f g).start)
  numbered_here =
      ap (λ (u : Span). spanned (written l at a b c d e f g) at u (line_of all u.start)) placed_here
      ∙ twice Four at e f g (placed mode all e f g).start (placed mode all e f g).end (line_of all (placed mode all e f g).start)

-- one more error: written by the walk and then placed and numbered, where there is room for it, and else left out
module _ (mode : Mode) (all : List Tok) (es : List (List ℕ)) (l left : List ℕ) (a b c d e f g : ℕ) (z : Sized error_size es) (q : numbered mode all (length es) left ≡ filled error_size es l) where
  abbrev words : List ℕ
  words = a ∷ b ∷ c ∷ d ∷ (placed mode all e f g).start ∷ (placed mode all e f g).end ∷ line_of all (placed mode all e f g).start ∷ []

  same_length : length left ≡ length l
  same_length = sym (numbered_length mode all (stored (length es) (length left / error_size)) left) ∙ ap length q ∙ length_filled error_size es l z

  fits : length es < length left / error_size → numbered mode all (suc (length es)) (written left (length es * error_size) a b c d e f g) ≡ filled error_size (es ++ (words ∷ [])) l
  unfolding numbered_first
  fits h =
      let long : length (written left (length es * error_size) a b c d e f g) ≡ length left = simp length-set refl in
      let held : length left / error_size * error_size ≤ length left = div-mul-le_self (length left) error_size in
      let most : suc (length es) * error_size ≤ length left / error_size * error_size = mul-le-mul_right error_size h in
      let now : numbered_first mode all (length es) left ≡ filled error_size es l = ap (λ (t : Bool). numbered_first mode all (cond t (length left / error_size) (length es)) left) (sym (le-ltb (length left / error_size) (length es) (omega (arith, h)))) ∙ q in
      let size : length (filled error_size es l) ≡ length left = length_filled error_size es l z ∙ sym same_length in
      ap (λ (k : ℕ). numbered_first mode all (stored (suc (length es)) (k / error_size)) (written left (length es * error_size) a b c d e f g)) long
      ∙ ap (λ (t : Bool). numbered_first mode all (cond t (length left / error_size) (suc (length es))) (written left (length es * error_size) a b c d e f g)) (le-ltb (length left / error_size) (suc (length es)) h)
      ∙ ap (numbered_one mode all (length es)) (written_behind mode all (length es) left a b c d e f g ∙ ap (λ (y : List ℕ). written y (length es * error_size) a b c d e f g) now)
      ∙ numbered_here mode all (filled error_size es l) (length es * error_size) a b c d e f g (omega (arith, most, held, size))
      ∙ simp towards_suc (more_fits error_size es words l z refl (subst (λ (k : ℕ). length es < k / error_size) same_length h))

  full : length left / error_size ≤ length es → (t : Bool) → ltb (length left / error_size) (length es) ≡ t → numbered mode all (length es) left ≡ numbered_first mode all (length left / error_size) left
  full h true r = ap (λ (t : Bool). numbered_first mode all (cond t (length left / error_size) (length es)) left) r
  full h false r =
      let k : length es ≡ length left / error_size = omega (arith, h, ltb-false (length left / error_size) (length es) r) in
      ap (λ (t : Bool). numbered_first mode all (cond t (length left / error_size) (length es)) left) r ∙ ap (λ (n : ℕ). numbered_first mode all n left) k

  left_out : length left / error_size ≤ length es → numbered mode all (suc (length es)) left ≡ filled error_size (es ++ (words ∷ [])) l
  left_out h =
      ap (λ (t : Bool). numbered_first mode all (cond t (length left / error_size) (suc (length es))) left) (lt-ltb (length left / error_size) (suc (length es)) (omega (arith, h)))
      ∙ sym (full h (ltb (length left / error_size) (length es)) refl)
      ∙ q
      ∙ more_left_out error_size es words l (subst (λ (k : ℕ). k / error_size ≤ length es) same_length h)

  by_room : (t : Bool) → ltb (length es) (length left / error_size) ≡ t
      → numbered mode all (suc (length es)) (cond t (written left (length es * error_size) a b c d e f g) left) ≡ filled error_size (es ++ (words ∷ [])) l
  by_room true r = fits (ltb-true _ _ r)
  by_room false r = left_out (ltb-false _ _ r)

  pub put_error_more : length es < 2147483647 → numbered mode all (more (length es)) (put_error left (length es) a b c d e f g) ≡ filled error_size (es ++ (words ∷ [])) l
  unfolding put_error more
  put_error_more h =
      let next : length es + 1 ≡ suc (length es) = omega arith in
      ap (λ (t : Bool). numbered mode all (cond t (length es + 1) (length es)) (put_error left (length es) a b c d e f g)) (lt-ltb (length es) 2147483647 h)
      ∙ ap (λ (n : ℕ). numbered mode all n (put_error left (length es) a b c d e f g)) next
      ∙ by_room (ltb (length es) (length left / error_size)) refl
