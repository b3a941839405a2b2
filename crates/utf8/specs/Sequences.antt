-- Sequences of bytes, each kind of the table and each way to miss it, and how far they are well-formed as Rust's valid_up_to has it. Assumes nothing.
use Rattle.std.specs.Prelude.{List, [], ◌∷◌, ℕ}
use Rattle.utf8_sequences.specs.Utf8.{valid_up_to}

pub record Sequence : Type 0 where
  pub place : ℕ
  pub bytes : List ℕ

abbrev pub up_to : ℕ → List ℕ → Sequence
up_to place bytes = record { place = place; bytes = bytes }

unfoldable pub sequences : List Sequence
sequences =
    -- nothing
    up_to 0 ([])
    -- `a`
    ∷ up_to 1 (97 ∷ [])
    -- U+00E9
    ∷ up_to 2 (195 ∷ 169 ∷ [])
    -- U+0080, the least of two bytes
    ∷ up_to 2 (194 ∷ 128 ∷ [])
    -- U+07FF
    ∷ up_to 2 (223 ∷ 191 ∷ [])
    -- U+0800, the least of three
    ∷ up_to 3 (224 ∷ 160 ∷ 128 ∷ [])
    -- U+D7FF
    ∷ up_to 3 (237 ∷ 159 ∷ 191 ∷ [])
    -- U+E000
    ∷ up_to 3 (238 ∷ 128 ∷ 128 ∷ [])
    -- U+FFFF
    ∷ up_to 3 (239 ∷ 191 ∷ 191 ∷ [])
    -- U+10000, the least of four
    ∷ up_to 4 (240 ∷ 144 ∷ 128 ∷ 128 ∷ [])
    -- U+10FFFF, the last
    ∷ up_to 4 (244 ∷ 143 ∷ 191 ∷ 191 ∷ [])
    -- a byte that starts nothing
    ∷ up_to 1 (97 ∷ 128 ∷ [])
    -- BF
    ∷ up_to 0 (191 ∷ [])
    -- C0 80 and C1 BF: overlong
    ∷ up_to 0 (192 ∷ 128 ∷ [])
    ∷ up_to 1 (97 ∷ 193 ∷ 191 ∷ [])
    -- E0 9F BF: overlong
    ∷ up_to 0 (224 ∷ 159 ∷ 191 ∷ [])
    -- F0 8F BF BF: overlong
    ∷ up_to 2 (97 ∷ 97 ∷ 240 ∷ 143 ∷ 191 ∷ 191 ∷ [])
    -- U+D800, a surrogate
    ∷ up_to 0 (237 ∷ 160 ∷ 128 ∷ [])
    -- U+DFFF, a surrogate
    ∷ up_to 1 (97 ∷ 237 ∷ 191 ∷ 191 ∷ [])
    -- beyond U+10FFFF
    ∷ up_to 0 (244 ∷ 144 ∷ 128 ∷ 128 ∷ [])
    -- F5 and FF
    ∷ up_to 0 (245 ∷ 128 ∷ 128 ∷ 128 ∷ [])
    ∷ up_to 2 (195 ∷ 169 ∷ 255 ∷ [])
    -- cut off at the end: its first byte
    ∷ up_to 1 (97 ∷ 195 ∷ [])
    ∷ up_to 1 (97 ∷ 226 ∷ 130 ∷ [])
    ∷ up_to 0 (240 ∷ 159 ∷ 166 ∷ [])
    ∷ up_to 2 (195 ∷ 169 ∷ 240 ∷ [])
    -- cut off by another byte
    ∷ up_to 0 (195 ∷ 97 ∷ [])
    ∷ up_to 0 (226 ∷ 130 ∷ 97 ∷ [])
    ∷ up_to 0 (240 ∷ 159 ∷ 166 ∷ 97 ∷ [])
    ∷ up_to 0 (226 ∷ 195 ∷ 169 ∷ [])
    -- a second byte out of range
    ∷ up_to 0 (225 ∷ 192 ∷ 128 ∷ [])
    -- a third byte out of range
    ∷ up_to 0 (225 ∷ 128 ∷ 192 ∷ [])
    -- a fourth byte out of range
    ∷ up_to 0 (241 ∷ 128 ∷ 128 ∷ 192 ∷ [])
    -- the first of two
    ∷ up_to 1 (97 ∷ 255 ∷ 98 ∷ 255 ∷ [])
    ∷ []

-- as written above, and as the rule has it
abbrev pub places_written : List Sequence → List ℕ
places_written [] = []
places_written (x ∷ xs) = x.place ∷ places_written xs

abbrev pub places_ruled : List Sequence → List ℕ
places_ruled [] = []
places_ruled (x ∷ xs) = valid_up_to x.bytes ∷ places_ruled xs
