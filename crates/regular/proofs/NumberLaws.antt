-- What the number of a kind tells: 8 is Whitespace, and a number that is none of 1 to 15 is read as Eof. Proved; nothing here needs to be believed.
use mathlib.Core.Path.{◌≡◌, refl}
use Prim.Native.Nat.{ℕ, zero, suc, ◌≤◌}
use native.Mathlib.Omega.{arith}
use lib.Dec.{eqb, ltb}
use borrow.Author.Tests.{ne_eqb, lt-ltb}
use Rattle.token.specs.Kinds.{kind_of}
use Rattle.regular.specs.Regular.{is_whitespace, is_eof}

pub whitespace_number : (n : ℕ) → eqb n 8 ≡ is_whitespace (kind_of n)
unfolding kind_of
whitespace_number zero = refl
whitespace_number (suc zero) = refl
whitespace_number (suc (suc zero)) = refl
whitespace_number (suc (suc (suc zero))) = refl
whitespace_number (suc (suc (suc (suc zero)))) = refl
whitespace_number (suc (suc (suc (suc (suc zero))))) = refl
whitespace_number (suc (suc (suc (suc (suc (suc zero)))))) = refl
whitespace_number (suc (suc (suc (suc (suc (suc (suc zero))))))) = refl
whitespace_number (suc (suc (suc (suc (suc (suc (suc (suc zero)))))))) = refl
whitespace_number (suc (suc (suc (suc (suc (suc (suc (suc (suc zero))))))))) = refl
whitespace_number (suc (suc (suc (suc (suc (suc (suc (suc (suc (suc zero)))))))))) = refl
whitespace_number (suc (suc (suc (suc (suc (suc (suc (suc (suc (suc (suc zero))))))))))) = refl
whitespace_number (suc (suc (suc (suc (suc (suc (suc (suc (suc (suc (suc (suc zero)))))))))))) = refl
whitespace_number (suc (suc (suc (suc (suc (suc (suc (suc (suc (suc (suc (suc (suc zero))))))))))))) = refl
whitespace_number (suc (suc (suc (suc (suc (suc (suc (suc (suc (suc (suc (suc (suc (suc zero)))))))))))))) = refl
whitespace_number (suc (suc (suc (suc (suc (suc (suc (suc (suc (suc (suc (suc (suc (suc (suc zero))))))))))))))) = refl
whitespace_number (suc (suc (suc (suc (suc (suc (suc (suc (suc (suc (suc (suc (suc (suc (suc (suc n)))))))))))))))) = ne_eqb (suc (suc (suc (suc (suc (suc (suc (suc (suc (suc (suc (suc (suc (suc (suc (suc n)))))))))))))))) 8 (λ e. omega (arith, e))

pub eof_number : (n : ℕ) → 1 ≤ n → ltb 15 n ≡ is_eof (kind_of n)
unfolding kind_of
eof_number zero h = absurd (omega (arith, h))
eof_number (suc zero) h = refl
eof_number (suc (suc zero)) h = refl
eof_number (suc (suc (suc zero))) h = refl
eof_number (suc (suc (suc (suc zero)))) h = refl
eof_number (suc (suc (suc (suc (suc zero))))) h = refl
eof_number (suc (suc (suc (suc (suc (suc zero)))))) h = refl
eof_number (suc (suc (suc (suc (suc (suc (suc zero))))))) h = refl
eof_number (suc (suc (suc (suc (suc (suc (suc (suc zero)))))))) h = refl
eof_number (suc (suc (suc (suc (suc (suc (suc (suc (suc zero))))))))) h = refl
eof_number (suc (suc (suc (suc (suc (suc (suc (suc (suc (suc zero)))))))))) h = refl
eof_number (suc (suc (suc (suc (suc (suc (suc (suc (suc (suc (suc zero))))))))))) h = refl
eof_number (suc (suc (suc (suc (suc (suc (suc (suc (suc (suc (suc (suc zero)))))))))))) h = refl
eof_number (suc (suc (suc (suc (suc (suc (suc (suc (suc (suc (suc (suc (suc zero))))))))))))) h = refl
eof_number (suc (suc (suc (suc (suc (suc (suc (suc (suc (suc (suc (suc (suc (suc zero)))))))))))))) h = refl
eof_number (suc (suc (suc (suc (suc (suc (suc (suc (suc (suc (suc (suc (suc (suc (suc zero))))))))))))))) h = refl
eof_number (suc (suc (suc (suc (suc (suc (suc (suc (suc (suc (suc (suc (suc (suc (suc (suc n)))))))))))))))) h = lt-ltb 15 (suc (suc (suc (suc (suc (suc (suc (suc (suc (suc (suc (suc (suc (suc (suc (suc n)))))))))))))))) (omega arith)
