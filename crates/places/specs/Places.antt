-- What the functions promise that look through a text from a place on. A rule says how many bytes it takes from the start of
-- a list of bytes; what it says of a text from a place on, it says of the bytes from there. Assumes nothing.
use Rattle.std.specs.Prelude.{◌≡◌, Bool, true, false, cond, List, [], ◌∷◌, ℕ, zero, suc, ◌+◌, ◌<◌, ◌≤◌, length, drop, eqb}

-- from `at` on the rule takes the bytes up to `end`
pub record Scanned (rule : List ℕ → ℕ) (text : List ℕ) (at end : ℕ) : Type 0 where
  pub is : end ≡ at + rule (drop at text)
  pub within : end ≤ length text

abbrev pub is_byte : ℕ → ℕ → Bool
is_byte x b = eqb b x

-- is there a next byte, and is it of the set?
unfoldable pub peeks : (ℕ → Bool) → List ℕ → Bool
peeks set [] = false
peeks set (b ∷ bs) = set b

-- do the bytes start with these?
abbrev pub starts_with : List ℕ → List ℕ → Bool
starts_with [] bs = true
starts_with (x ∷ xs) bs = cond (peeks (is_byte x) bs) (starts_with xs (drop 1 bs)) false

-- are the first n bytes all of the set, or all there are?
unfoldable pub all_of : (ℕ → Bool) → ℕ → List ℕ → Bool
all_of set zero bs = true
all_of set (suc n) [] = true
all_of set (suc n) (b ∷ bs) = cond (set b) (all_of set n bs) false

-- the bytes that are none of these
abbrev pub none_of : List ℕ → ℕ → Bool
none_of [] b = true
none_of (x ∷ xs) b = cond (eqb b x) false (none_of xs b)

-- from `at` to `end` all bytes are of the set
pub record Passed (set : ℕ → Bool) (text : List ℕ) (at end : ℕ) : Type 0 where
  pub up : at ≤ end
  pub within : end ≤ length text
  pub each : (n : ℕ) → end ≡ at + n → all_of set n (drop at text) ≡ true

-- whatever the test says of a byte, it is true where the byte is of the set
abbrev pub Tells : (ℕ → Bool → Type 0) → (ℕ → Bool) → Type 0
Tells says set = (b : ℕ) (r : Bool) → b < 256 → says b r → r ≡ set b
