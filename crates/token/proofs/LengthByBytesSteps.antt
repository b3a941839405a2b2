-- What the proof of length_by_bytes goes by. Proved; nothing here needs to be believed.
use mathlib.Core.Path.{◌≡◌, refl}
use mathlib.Core.List.{List}
use Prim.Native.Nat.{ℕ, zero, suc, ◌+◌, ◌*◌, ◌%◌, ◌^◌, ◌≤◌, ◌<◌}
use native.Mathlib.Nat.{add-zero}
use native.Mathlib.Numerals.{add-one}
use native.Mathlib.Omega.{arith}
use lib.Arith.{digits_lt}
use lib.ListN.{get_or}
use lib.Pow.{pow-add, shl_exact}
use Rattle.token.specs.Records.{length_at}

unfoldable pub summed : List ℕ → ℕ → ℕ → ℕ
summed s b zero = 0
summed s b (suc k) = summed s b k + get_or s (b + k) 0 * 2 ^ (8 * k)

abbrev pub Built : List ℕ → ℕ → ℕ → ℕ → Type 0
Built s b k sum = (sum ≡ summed s b k) × (sum < 2 ^ (8 * k)) × (k ≤ 4)

pub begun : (s : List ℕ) (b : ℕ) → Built s b 0 0
unfolding summed
begun s b = (refl, omega arith, omega arith)

pub kept : (k : ℕ) {byte : ℕ} → k < 4 → byte < 256 → (byte * 2 ^ (8 * k)) % 2 ^ 32 ≡ byte * 2 ^ (8 * k)
kept k more small = shl_exact 8 (8 * k) 32 small (omega arith)

pub below : (k : ℕ) {sum byte : ℕ} → sum < 2 ^ (8 * k) → k < 4 → byte < 256 → sum + (byte * 2 ^ (8 * k)) % 2 ^ 32 < 2 ^ (8 * (k + 1))
below k {sum} {byte} low more small =
    let digits : byte * 2 ^ (8 * k) + sum < 256 * 2 ^ (8 * k) = digits_lt small low in
    let eight : 8 * (k + 1) ≡ 8 + 8 * k = omega arith in
    rw (kept k more small, eight) (omega (arith, digits, pow-add 2 8 (8 * k)))

pub turn : (s : List ℕ) (b k : ℕ) {sum byte : ℕ} → Built s b k sum → k < 4 → (byte ≡ get_or s (b + k) 0) × (byte < 256)
    → Built s b (k + 1) (sum + (byte * 2 ^ (8 * k)) % 2 ^ 32)
unfolding summed
turn s b k built more is = (rw (kept k more is.1, add-one, built.0, is.0) refl, below k built.1 more is.1, omega arith)

pub ended : (s : List ℕ) (i : ℕ) → summed s (i * 6) 4 ≡ length_at s i
unfolding summed length_at
ended s i = rw (add-zero (i * 6)) (omega arith)
