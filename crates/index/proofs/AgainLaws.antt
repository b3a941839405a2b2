-- Entries are read again as they were written. Proved; nothing here needs to be believed.
use mathlib.Core.Path.{◌≡◌, refl, ap, sym, subst, ◌∙◌}
use mathlib.Core.Logic.{inl, inr}
use mathlib.Core.Bool.{Bool, true, false}
use mathlib.Core.List.{List, [], ◌∷◌, ◌++◌, append_assoc, append-nil}
use Prim.Native.Nat.{ℕ, suc, ◌+◌, ◌*◌, ◌/◌, ◌%◌, ◌<◌, ◌≤◌}
use native.Mathlib.Nat.{eq-or-lt_of_le}
use native.Mathlib.Omega.{arith}
use lib.ListN.{length, get_or, length-append}
use lib.Seq.{get_or-append-add}
use lib.Dec.{eqb, ltb}
use Rattle.index_entries.specs.declared.reading.HeaderAt.{HeaderAt}
use Rattle.headers.specs.declared.header.Header.{Header}
use Rattle.headers.specs.Headers.{opens_header, closing, parts_up_to, up_to_header, headers_from, kinds_from, headers_in, mark, entry_size, entry_bytes, index_bytes}
use Rattle.index_entries.specs.Reading.{two_at, four_at, is_entry, header_at}
use Rattle.index.specs.Reads.{ReadsFrom, IndexReads}
use Rattle.headers.proofs.CountLaws.{kinds_length}
use Rattle.index_entries.proofs.ReadLaws.{by_mark, at_end, an_entry}

-- a header whose fields fit
record Fits (h : Header) : Type 0 where
  place : h.place < 65536
  parts : h.parts ≤ 65536
  events : h.events ≤ 65536

two_whole : (n : ℕ) → n < 65536 → n % 256 + n / 256 % 256 * 256 ≡ n
two_whole n h = omega arith

four_whole : (n : ℕ) → n ≤ 65536 → n % 256 + n / 256 % 256 * 256 + (n / 65536 % 256 + n / 16777216 % 256 * 256) * 65536 ≡ n
four_whole n h = elim (eq-or-lt_of_le h) [ inl e ↦ subst (λ (m : ℕ). m % 256 + m / 256 % 256 * 256 + (m / 65536 % 256 + m / 16777216 % 256 * 256) * 65536 ≡ m) (sym e) refl | inr less ↦ below less ]
  where
    below : n < 65536 → n % 256 + n / 256 % 256 * 256 + (n / 65536 % 256 + n / 16777216 % 256 * 256) * 65536 ≡ n
    below less =
        let third : n / 65536 ≡ 0 = omega arith in
        let fourth : n / 16777216 ≡ 0 = omega arith in
        let low = two_whole n less in
        rw (third, fourth) (omega (arith, low))

mark_small : (b : Bool) → ltb (mark b) 2 ≡ true
mark_small true = refl
mark_small false = refl

mark_read : (b : Bool) → eqb (mark b) 1 ≡ b
mark_read true = refl
mark_read false = refl

-- numbers behind other bytes
module _ (front back : List ℕ) where
  byte : (j : ℕ) → get_or (front ++ back) (length front + j) 0 ≡ get_or back j 0
  byte j = get_or-append-add front back j 0

  two_read : (j : ℕ) → two_at (front ++ back) (length front + j) ≡ two_at back j
  two_read j =
      let e : length front + j + 1 ≡ length front + (j + 1) = omega arith in
      rw (e, byte j, byte (j + 1))

  four_read : (j : ℕ) → four_at (front ++ back) (length front + j) ≡ four_at back j
  four_read j =
      let e : length front + j + 2 ≡ length front + (j + 2) = omega arith in
      rw (e, two_read j, two_read (j + 2))

-- an entry behind other bytes
module _ (front : List ℕ) (h : Header) (rest : List ℕ) (fits : Fits h) where
  abbrev here : List ℕ
  here = entry_bytes h ++ rest

  abbrev all : List ℕ
  all = front ++ here

  room : length front + entry_size ≤ length all
  room = omega (arith, length-append front here, length-append (entry_bytes h) rest)

  start : length front + 0 ≡ length front
  start = omega arith

  size_read : four_at all (length front) ≡ 17
  size_read = ap (λ (k : ℕ). four_at all k) (sym start) ∙ four_read front here 0

  entry_there : is_entry all (length front) ≡ true
  entry_there =
      sym (by_mark all (length front) room (four_at all (length front)) (two_at all (length front + 4)) refl size_read refl (two_read front here 4))
      ∙ ap (λ (k : ℕ). ltb k 2) (byte front here 12)
      ∙ mark_small h.array

  not_end : length front ≡ length all → ⊥
  not_end e = omega (arith, e, room)

  read_one_lem : header_at all (length front) ≡ HeaderAt.Entry h (length front + entry_size)
  read_one_lem =
      let place : two_at all (length front + 6) ≡ h.place = two_read front here 6 ∙ two_whole h.place fits.place in
      let parts : four_at all (length front + 8) ≡ h.parts = four_read front here 8 ∙ four_whole h.parts fits.parts in
      let events : four_at all (length front + 13) ≡ h.events = four_read front here 13 ∙ four_whole h.events fits.events in
      let array : eqb (get_or all (length front + 12) 0) 1 ≡ h.array = ap (λ (k : ℕ). eqb k 1) (byte front here 12) ∙ mark_read h.array in
      sym (an_entry all (length front) not_end entry_there)
      ∙ λ i. HeaderAt.Entry (record { place = place i; parts = parts i; array = array i; events = events i }) (length front + entry_size)

-- headers all of whose fields fit
data AllFit : List Header → Type 0 where
  none : AllFit []
  more : (h : Header) {hs : List Header} → Fits h → AllFit hs → AllFit (h ∷ hs)

parts_by : (close kind : ℕ) (kinds : List ℕ) (o c p : Bool) → parts_up_to close kinds ≤ length kinds → opens_header kind ≡ o → eqb kind close ≡ c → eqb kind 5 ≡ p → parts_up_to close (kind ∷ kinds) ≤ suc (length kinds)
parts_by close kind kinds true c p h o e f = rw o (omega arith)
parts_by close kind kinds false true p h o e f = rw (o, e) (omega arith)
parts_by close kind kinds false false true h o e f = rw (o, e, f) (omega (arith, h))
parts_by close kind kinds false false false h o e f = rw (o, e, f) (omega (arith, h))

parts_few : (close : ℕ) (kinds : List ℕ) → parts_up_to close kinds ≤ length kinds
parts_few close [] = omega arith
parts_few close (kind ∷ kinds) = parts_by close kind kinds (opens_header kind) (eqb kind close) (eqb kind 5) (parts_few close kinds) refl refl refl

events_by : (kind : ℕ) (kinds : List ℕ) (o : Bool) → up_to_header kinds ≤ length kinds → opens_header kind ≡ o → up_to_header (kind ∷ kinds) ≤ suc (length kinds)
events_by kind kinds true h o = rw o (omega arith)
events_by kind kinds false h o = rw o (omega (arith, h))

events_few : (kinds : List ℕ) → up_to_header kinds ≤ length kinds
events_few [] = omega arith
events_few (kind ∷ kinds) = events_by kind kinds (opens_header kind) (events_few kinds) refl

fit_by : (n kind : ℕ) (kinds : List ℕ) (o : Bool) → n + suc (length kinds) ≤ 65536 → AllFit (headers_from (suc n) kinds) → opens_header kind ≡ o → AllFit (headers_from n (kind ∷ kinds))
fit_by n kind kinds true h rest o =
    let p = parts_few (closing (eqb kind 3)) kinds in
    let e = events_few kinds in
    rw o (more (record { place = n; parts = parts_up_to (closing (eqb kind 3)) kinds; array = eqb kind 3; events = suc (up_to_header kinds) }) (record { place = omega arith; parts = omega (arith, p); events = omega (arith, e) }) rest)
fit_by n kind kinds false h rest o = rw o rest

all_fit : (n : ℕ) (kinds : List ℕ) → n + length kinds ≤ 65536 → AllFit (headers_from n kinds)
all_fit n [] h = none
all_fit n (kind ∷ kinds) h = fit_by n kind kinds (opens_header kind) h (all_fit (suc n) kinds (omega arith)) refl

-- the headers, from behind those that were read
reads : (front : List ℕ) (hs : List Header) → AllFit hs → ReadsFrom (front ++ index_bytes hs) (length front) hs
unfolding index_bytes
reads front [] none = let l : length front ≡ length (front ++ []) = ap length (sym (append-nil front)) in sym (at_end (front ++ []) (length front) l)
reads front (h ∷ hs) (more _ f fs) =
    let l : length (front ++ entry_bytes h) ≡ length front + entry_size = length-append front (entry_bytes h) in (
      read_one_lem front h (index_bytes hs) f,
      subst (λ (k : ℕ). ReadsFrom (front ++ (entry_bytes h ++ index_bytes hs)) k hs) l
          (subst (λ (bytes : List ℕ). ReadsFrom bytes (length (front ++ entry_bytes h)) hs) (append_assoc front (entry_bytes h) (index_bytes hs)) (reads (front ++ entry_bytes h) hs fs)),
    )

pub read_again : (events : List ℕ) (n : ℕ) → IndexReads events n
unfolding headers_in
read_again events n h = reads [] (headers_from 0 (kinds_from n 0 events)) (all_fit 0 (kinds_from n 0 events) (omega (arith, kinds_length n 0 events)))
