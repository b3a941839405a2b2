-- Token records as they are written: one record, one among others, and those of a list of tokens. Assumes nothing.
use Rattle.std.specs.Prelude.{List, [], ◌∷◌, ◌++◌, ℕ, ◌+◌, ◌-◌, ◌*◌, ◌/◌, ◌%◌, take, drop}
use Rattle.token.specs.Kinds.{number_of}
use Rattle.token.specs.Tokens.{Tok, tok}

-- a record: the four bytes of its length, least first, then the two bytes of the number of its kind, least first
abbrev pub record_of : ℕ → ℕ → List ℕ
record_of length kind =
    length % 256
    ∷ length / 256 % 256
    ∷ length / 65536 % 256
    ∷ length / 16777216 % 256
    ∷ kind % 256
    ∷ kind / 256 % 256
    ∷ []

-- a list of records in which record i is this one, and all others are as they were
unfoldable pub put_at : List ℕ → ℕ → ℕ → ℕ → List ℕ
put_at s i length kind = take (6 * i) s ++ record_of length kind ++ drop (6 * i + 6) s

-- the records of a list of tokens, one after the other
unfoldable pub records_of : List Tok → List ℕ
records_of [] = []
records_of (tok k a b ∷ ts) = record_of (b - a) (number_of k) ++ records_of ts
