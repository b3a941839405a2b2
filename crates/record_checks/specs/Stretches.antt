-- A stretch of records: the k records from record i on, asked without regard to where they end. Assumes nothing.
use Rattle.std.specs.Prelude.{Bool, true, false, cond, List, ℕ, zero, suc, ◌+◌, ◌<◌}
use Rattle.std.specs.Option.{is_none}
use Rattle.token.specs.Records.{length_at, kind_number_at}
use Rattle.token.specs.Check.{record_refusal}

-- whether record i is refused neither for its kind's number nor for its length
abbrev pub fits_at : List ℕ → ℕ → Bool
fits_at s i = is_none (record_refusal (kind_number_at s i) (length_at s i) 0)

-- whether that is so of all of the stretch
abbrev pub all_fit : ℕ → List ℕ → ℕ → Bool
all_fit zero s i = true
all_fit (suc k) s i = cond (all_fit k s i) (fits_at s (i + k)) false

-- the sum of their lengths
abbrev pub lengths_of : ℕ → List ℕ → ℕ → ℕ
lengths_of zero s i = 0
lengths_of (suc k) s i = lengths_of k s i + length_at s (i + k)

-- each of their lengths is a number of four bytes
abbrev pub Narrow : ℕ → List ℕ → ℕ → Type 0
Narrow zero s i = Unit {0}
Narrow (suc k) s i = Narrow k s i × (length_at s (i + k) < 4294967296)
