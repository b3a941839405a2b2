-- The loop adds byte by byte: after k turns it has the sum of the first k bytes, which is below 2 ^ (8 * k), and after four the length.
use Prim.Native.Nat.{◌-◌}
use Rattle.token.proofs.LengthByBytesSteps.{Built}
use Rattle.token.proofs.record.length_by_bytes.Given as goal

abbrev pub invariant-loop-byte : goal.invariant-loop-byte
invariant-loop-byte l = Built l.s l.b l.byte l.length

abbrev pub decreases-loop-byte : goal.decreases-loop-byte
decreases-loop-byte l = 4 - l.byte
