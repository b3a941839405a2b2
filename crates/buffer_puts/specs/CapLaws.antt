-- Laws of the numbers of records, which stop at a bound. Proved; nothing here needs to be believed.
use Rattle.std.specs.Prelude.{◌≡◌, refl, Bool, true, false, cond, ℕ, ◌<◌, ◌≤◌, ltb}
use Rattle.std.proofs.Common.{arith, lt-ltb, ltb-true}
use Rattle.buffer_puts.specs.Puts.{capped}

-- below the bound a record's number is itself
pub capped_known : (n : ℕ) → n < 2147483647 → capped n ≡ n
unfolding capped
capped_known n h = rw (lt-ltb n 2147483647 h)

capped_by : (n : ℕ) (t : Bool) → ltb n 2147483647 ≡ t → cond t n 2147483647 ≤ 2147483647
capped_by n true e = omega (arith, ltb-true n 2147483647 e)
capped_by n false e = omega arith

pub capped_low : (n : ℕ) → capped n ≤ 2147483647
unfolding capped
capped_low n = capped_by n (ltb n 2147483647) refl
