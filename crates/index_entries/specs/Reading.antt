-- Entries as they are read again. Assumes nothing.
use Rattle.std.specs.Prelude.{Bool, false, cond, List, ℕ, ◌+◌, ◌*◌, length, get_or, eqb, ltb}
use Rattle.index_entries.specs.declared.reading.HeaderAt.{HeaderAt}
use Rattle.headers.specs.Headers.{entry_size}

-- numbers of two and of four bytes, least byte first
abbrev pub two_at : List ℕ → ℕ → ℕ
two_at bytes at = get_or bytes at 0 + get_or bytes (at + 1) 0 * 256

abbrev pub four_at : List ℕ → ℕ → ℕ
four_at bytes at = two_at bytes at + two_at bytes (at + 2) * 65536

-- an entry starts there: it has room, its length is an entry's, its kind is 1, and its array mark is 0 or 1
unfoldable pub is_entry : List ℕ → ℕ → Bool
is_entry bytes at =
    cond (ltb (length bytes) (at + entry_size)) false
    (cond (eqb (four_at bytes at) entry_size) (cond (eqb (two_at bytes (at + 4)) 1) (ltb (get_or bytes (at + 12) 0) 2) false) false)

-- what stands at a position of index bytes
unfoldable pub header_at : List ℕ → ℕ → HeaderAt
header_at bytes at =
    cond (eqb at (length bytes)) HeaderAt.End
    (cond (is_entry bytes at)
    (HeaderAt.Entry
    (record { place = two_at bytes (at + 6); parts = four_at bytes (at + 8); array = eqb (get_or bytes (at + 12) 0) 1; events = four_at bytes (at + 13) })
    (at + entry_size))
    HeaderAt.NoEntry)
