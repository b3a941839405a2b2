-- What stands at a position of index bytes, case by case. Proved; nothing here needs to be believed.
use mathlib.Core.Path.{◌≡◌, sym, ◌∙◌}
use mathlib.Core.Bool.{true, false}
use mathlib.Core.List.{List}
use Prim.Native.Nat.{ℕ, ◌+◌, ◌≤◌}
use lib.ListN.{length, get_or}
use lib.Dec.{eqb, ltb}
use borrow.Author.Tests.{le-ltb, eq-eqb, ne_eqb}
use Rattle.index_entries.specs.declared.reading.HeaderAt.{HeaderAt}
use Rattle.headers.specs.Headers.{entry_size}
use Rattle.index_entries.specs.Reading.{two_at, four_at, is_entry, header_at}

module _ (bytes : List ℕ) (at : ℕ) where
  module _ (room : at + entry_size ≤ length bytes) where
    long : ltb (length bytes) (at + entry_size) ≡ false
    long = le-ltb (length bytes) (at + entry_size) room

    pub by_mark : (size kind : ℕ) → size ≡ four_at bytes at → size ≡ entry_size → kind ≡ two_at bytes (at + 4) → kind ≡ 1 → ltb (get_or bytes (at + 12) 0) 2 ≡ is_entry bytes at
    unfolding is_entry
    by_mark size kind e s k one =
        let f : eqb (four_at bytes at) entry_size ≡ true = eq-eqb (four_at bytes at) entry_size (sym e ∙ s) in
        let g : eqb (two_at bytes (at + 4)) 1 ≡ true = eq-eqb (two_at bytes (at + 4)) 1 (sym k ∙ one) in
        rw (long, f, g)

  pub at_end : at ≡ length bytes → HeaderAt.End ≡ header_at bytes at
  unfolding header_at
  at_end e = let f : eqb at (length bytes) ≡ true = eq-eqb at (length bytes) e in rw f

  pub an_entry : (at ≡ length bytes → ⊥) → is_entry bytes at ≡ true
      → HeaderAt.Entry
      (record { place = two_at bytes (at + 6); parts = four_at bytes (at + 8); array = eqb (get_or bytes (at + 12) 0) 1; events = four_at bytes (at + 13) })
      (at + entry_size)
      ≡ header_at bytes at
  unfolding header_at
  an_entry ne y = let f : eqb at (length bytes) ≡ false = ne_eqb at (length bytes) ne in rw (f, y)
