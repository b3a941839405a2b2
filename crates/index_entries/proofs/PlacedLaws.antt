-- Bytes put into a buffer, one run behind the other. Proved; nothing here needs to be believed.
use mathlib.Core.Path.{◌≡◌, refl, sym, ap, ◌∙◌}
use mathlib.Core.List.{List, [], ◌∷◌, ◌++◌, append_assoc}
use Prim.Native.Nat.{ℕ, ◌+◌, ◌*◌, ◌%◌, ◌≤◌}
use native.Mathlib.Omega.{arith}
use borrow.Rule.Slice.PartMut.{put_mid}
use mir.Val.{bool_byte}
use mathlib.Core.Bool.{Bool, true, false}
use lib.ListN.{length, take, drop, length-append, length-drop, take-append-drop}
use lib.Seq.{take_at, drop-append-add, drop-drop, length-take-le}
use Rattle.headers.specs.declared.header.Header.{Header}
use Rattle.headers.specs.Headers.{entry_size, entry_bytes, index_bytes, four_bytes, two_bytes, mark}
use Rattle.headers.specs.Placing.{placed}

-- the low byte of an array mark
pub mark_low : (b : Bool) → bool_byte b % 256 ≡ mark b
mark_low true = refl
mark_low false = refl

-- bytes copied over a part of the buffer
pub copied : (at n : ℕ) (bytes part s : List ℕ) → part ≡ bytes → n ≡ length bytes → put_mid at n s part ≡ placed at bytes s
unfolding placed
copied at n bytes part s e l = rw (e, l, drop-drop (length bytes) at s)

-- where bytes were put: what stands before their end, and what stands behind
module _ (at : ℕ) (bytes s : List ℕ) (h : at + length bytes ≤ length s) where
  front_length : length (take at s ++ bytes) ≡ at + length bytes
  front_length = length-append (take at s) bytes ∙ ap (λ (n : ℕ). n + length bytes) (length-take-le at s (omega arith))

  placed_is : placed at bytes s ≡ (take at s ++ bytes) ++ drop (at + length bytes) s
  unfolding placed
  placed_is = sym (append_assoc (take at s) bytes (drop (at + length bytes) s))

  pub placed_length : length (placed at bytes s) ≡ length s
  placed_length =
      ap length placed_is
      ∙ length-append (take at s ++ bytes) (drop (at + length bytes) s)
      ∙ omega (arith, front_length, length-drop (at + length bytes) s)

  placed_take : take (at + length bytes) (placed at bytes s) ≡ take at s ++ bytes
  placed_take = ap (λ (l : List ℕ). take (at + length bytes) l) placed_is ∙ take_at (take at s ++ bytes) (drop (at + length bytes) s) (at + length bytes) front_length

  placed_drop : (m : ℕ) → drop (at + length bytes + m) (placed at bytes s) ≡ drop (at + length bytes + m) s
  placed_drop m =
      ap (λ (l : List ℕ). drop (at + length bytes + m) l) placed_is
      ∙ ap (λ (n : ℕ). drop (n + m) ((take at s ++ bytes) ++ drop (at + length bytes) s)) (sym front_length)
      ∙ drop-append-add (take at s ++ bytes) (drop (at + length bytes) s) m
      ∙ drop-drop m (at + length bytes) s

-- one run of bytes behind the other is both at once
pub placed_on : (at : ℕ) (a b s : List ℕ) → at + length a ≤ length s → placed (at + length a) b (placed at a s) ≡ placed at (a ++ b) s
unfolding placed
placed_on at a b s h =
    let e : at + length a + length b ≡ at + length (a ++ b) = omega (arith, length-append a b) in
    ap (λ (x : List ℕ). x ++ (b ++ drop (at + length a + length b) (placed at a s))) (placed_take at a s h)
    ∙ ap (λ (x : List ℕ). (take at s ++ a) ++ (b ++ x)) (placed_drop at a s h (length b))
    ∙ append_assoc (take at s) a (b ++ drop (at + length a + length b) s)
    ∙ ap (λ (x : List ℕ). take at s ++ x) (sym (append_assoc a b (drop (at + length a + length b) s)))
    ∙ ap (λ (j : ℕ). take at s ++ ((a ++ b) ++ drop j s)) e

pub placed_none : (at : ℕ) (s : List ℕ) → placed at [] s ≡ s
unfolding placed
placed_none at s = let e : at + 0 ≡ at = omega arith in ap (λ (m : ℕ). take at s ++ drop m s) e ∙ take-append-drop at s

-- at the start, and the bytes behind as they were
pub placed_start : (n : ℕ) (bytes s : List ℕ) → length bytes ≡ n → placed 0 bytes s ≡ bytes ++ drop n s
unfolding placed
placed_start n bytes s e = let z : 0 + length bytes ≡ n = omega (arith, e) in ap (λ (m : ℕ). bytes ++ drop m s) z

pub index_length : (hs : List Header) → length (index_bytes hs) ≡ entry_size * length hs
unfolding index_bytes
index_length [] = refl
index_length (h ∷ hs) = omega (arith, index_length hs)

pub index_append : (a b : List Header) → index_bytes (a ++ b) ≡ index_bytes a ++ index_bytes b
unfolding index_bytes
index_append [] b = refl
index_append (h ∷ hs) b = ap (λ (l : List ℕ). entry_bytes h ++ l) (index_append hs b)

-- the six fields of an entry, each put behind the one before it
module _ (h : Header) (at : ℕ) (s : List ℕ) (room : at + entry_size ≤ length s) where
  abbrev pub fields : List ℕ
  fields =
      placed (at + 13) (four_bytes h.events)
      (placed (at + 12) (mark h.array ∷ [])
      (placed (at + 8) (four_bytes h.parts) (placed (at + 6) (two_bytes h.place) (placed (at + 4) (two_bytes 1) (placed at (four_bytes entry_size) s)))))

  pub entry_placed : fields ≡ placed at (entry_bytes h) s
  entry_placed =
      let one = placed_on at (four_bytes entry_size) (two_bytes 1) s (omega arith) in
      let two = placed_on at (four_bytes entry_size ++ two_bytes 1) (two_bytes h.place) s (omega arith) in
      let three = placed_on at (four_bytes entry_size ++ two_bytes 1 ++ two_bytes h.place) (four_bytes h.parts) s (omega arith) in
      let four = placed_on at (four_bytes entry_size ++ two_bytes 1 ++ two_bytes h.place ++ four_bytes h.parts) (mark h.array ∷ []) s (omega arith) in
      let five = placed_on at (four_bytes entry_size ++ two_bytes 1 ++ two_bytes h.place ++ four_bytes h.parts ++ (mark h.array ∷ [])) (four_bytes h.events) s (omega arith) in
      ap (λ (l : List ℕ). placed (at + 13) (four_bytes h.events) (placed (at + 12) (mark h.array ∷ []) (placed (at + 8) (four_bytes h.parts) (placed (at + 6) (two_bytes h.place) l)))) one
      ∙ ap (λ (l : List ℕ). placed (at + 13) (four_bytes h.events) (placed (at + 12) (mark h.array ∷ []) (placed (at + 8) (four_bytes h.parts) l))) two
      ∙ ap (λ (l : List ℕ). placed (at + 13) (four_bytes h.events) (placed (at + 12) (mark h.array ∷ []) l)) three
      ∙ ap (λ (l : List ℕ). placed (at + 13) (four_bytes h.events) l) four
      ∙ five
