-- The loop adds byte by byte: after k turns it has the sum of the first k bytes, which is below 2 ^ (8 * k), and after four the length.
use mathlib.Core.Path.{◌≡◌, ◌∙◌}
use native.Mathlib.Nat.{lt_of_lt_of_le}
use native.Mathlib.Omega.{arith}
use lib.Pow.{pow_mono}
use Rattle.token.proofs.LengthByBytesSteps.{begun, below, turn, ended}
use Rattle.token.proofs.record.length_by_bytes.Goals as goal

pub loop-byte-init : goal.loop-byte-init
loop-byte-init c = begun _ _

pub overflow_add-length : goal.overflow_add-length
overflow_add-length c = record {
  fits = lt_of_lt_of_le (below c.loop-byte.byte c.loop-byte.invariant.1 c.loop-byte-test.true c.wide.ensures.1) (pow_mono {j = 32} (omega (arith, c.loop-byte-test.true)));
}

pub loop-byte-preserved : goal.loop-byte-preserved
loop-byte-preserved c = turn _ _ _ c.loop-byte.invariant c.loop-byte-test.true c.wide.ensures

pub returns : goal.returns
returns c = let e : c.loop-byte.byte ≡ 4 = omega (arith, c.loop-byte.invariant.2, c.loop-byte-test.false) in rw e at c.loop-byte.invariant.0 ∙ ended _ _
