-- Token records as bytes: six each, the length in four, least first, then the number of the kind in two, least first. Assumes nothing.
use Rattle.std.specs.Prelude.{List, ℕ, zero, suc, ◌+◌, ◌*◌, ◌/◌, length, get_or}
use Rattle.token.specs.declared.kind.Kind.{Kind}
use Rattle.token.specs.Kinds.{kind_of}

-- how many whole records
abbrev pub count : List ℕ → ℕ
count s = length s / 6

-- the length of record i
unfoldable pub length_at : List ℕ → ℕ → ℕ
length_at s i = get_or s (i * 6) 0 + get_or s (i * 6 + 1) 0 * 256 + get_or s (i * 6 + 2) 0 * 65536 + get_or s (i * 6 + 3) 0 * 16777216

-- the number of its kind, and its kind
unfoldable pub kind_number_at : List ℕ → ℕ → ℕ
kind_number_at s i = get_or s (i * 6 + 4) 0 + get_or s (i * 6 + 5) 0 * 256

abbrev pub kind_at : List ℕ → ℕ → Kind
kind_at s i = kind_of (kind_number_at s i)

-- where record i starts: the base and all lengths before it
unfoldable pub start_at : List ℕ → ℕ → ℕ → ℕ
start_at s base zero = base
start_at s base (suc i) = start_at s base i + length_at s i
