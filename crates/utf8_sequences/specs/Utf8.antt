-- Well-formed UTF-8: table 3-7 of the Unicode Standard, and how far a text is well-formed. Assumes nothing.
use Rattle.std.specs.Prelude.{Bool, true, false, cond, ◌&&◌, List, [], ◌∷◌, ℕ, zero, suc, length, leb}

-- the bytes from low to high
pub record Range : Type 0 where
  pub low : ℕ
  pub high : ℕ

abbrev pub from : ℕ → ℕ → Range
from low high = record { low = low; high = high }

abbrev pub within : Range → ℕ → Bool
within range b = leb range.low b && leb b range.high

-- 80..BF
abbrev pub tail : Range
tail = from 128 191

-- a row for each line of the table: the ranges of the first byte of a sequence, the second, and so on
abbrev pub table : List (List Range)
table =
    -- U+0000..U+007F: 00..7F
    (from 0 127 ∷ [])
    -- U+0080..U+07FF: C2..DF 80..BF
    ∷ (from 194 223 ∷ tail ∷ [])
    -- U+0800..U+0FFF: E0 A0..BF 80..BF
    ∷ (from 224 224 ∷ from 160 191 ∷ tail ∷ [])
    -- U+1000..U+CFFF: E1..EC 80..BF 80..BF
    ∷ (from 225 236 ∷ tail ∷ tail ∷ [])
    -- U+D000..U+D7FF: ED 80..9F 80..BF
    ∷ (from 237 237 ∷ from 128 159 ∷ tail ∷ [])
    -- U+E000..U+FFFF: EE..EF 80..BF 80..BF
    ∷ (from 238 239 ∷ tail ∷ tail ∷ [])
    -- U+10000..U+3FFFF: F0 90..BF 80..BF 80..BF
    ∷ (from 240 240 ∷ from 144 191 ∷ tail ∷ tail ∷ [])
    -- U+40000..U+FFFFF: F1..F3 80..BF 80..BF 80..BF
    ∷ (from 241 243 ∷ tail ∷ tail ∷ tail ∷ [])
    -- U+100000..U+10FFFF: F4 80..8F 80..BF 80..BF
    ∷ (from 244 244 ∷ from 128 143 ∷ tail ∷ tail ∷ [])
    ∷ []

-- do the bytes start with a byte of each range, in their order?
unfoldable pub fits : List Range → List ℕ → Bool
fits [] bs = true
fits (r ∷ rs) [] = false
fits (r ∷ rs) (b ∷ bs) = cond (within r b) (fits rs bs) false

-- how many bytes the sequence has that the bytes start with: as many as the row has that fits; 0 if none does
abbrev pub sequence_of : List (List Range) → List ℕ → ℕ
sequence_of [] bs = 0
sequence_of (row ∷ rows) bs = cond (fits row bs) (length row) (sequence_of rows bs)

-- a sequence of n bytes starts here: on behind its first byte, if there is one
abbrev pub behind_first : ℕ → (ℕ → ℕ) → ℕ
behind_first zero on = 0
behind_first (suc n) on = suc (on n)

-- how many bytes there are before the first that starts no well-formed sequence, or to the end. The first `inside` bytes are of a
-- sequence that fits
unfoldable pub valid_from : ℕ → List ℕ → ℕ
valid_from inside [] = 0
valid_from (suc inside) (b ∷ bs) = suc (valid_from inside bs)
valid_from zero (b ∷ bs) = behind_first (sequence_of table (b ∷ bs)) (λ n. valid_from n bs)

-- Rust's valid_up_to: the place of the first byte of the first ill-formed sequence, or the length of a well-formed text
abbrev pub valid_up_to : List ℕ → ℕ
valid_up_to text = valid_from 0 text
