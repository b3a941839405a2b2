-- A token a turn, and Eof behind the last.
use native.Mathlib.Omega.{arith}
use Rattle.text_records.specs.TextRecordLaws.{counted_begun, counted_on, counted_end}
use Rattle.lex.proofs.count.Goals as goal

pub loop-at-init : goal.loop-at-init
loop-at-init c = counted_begun _ _ c.requires

pub overflow_add-n : goal.overflow_add-n
overflow_add-n c = omega (arith, c.loop-at.invariant.few, c.loop-at-test.true)

pub loop-at-smaller : goal.loop-at-smaller
loop-at-smaller c = omega (arith, c.process_token-found.ensures.end, c.process_token-found.ensures.within, c.loop-at-test.true)

pub loop-at-preserved : goal.loop-at-preserved
loop-at-preserved c = counted_on c.loop-at.invariant c.loop-at-test.true _ c.process_token-found.ensures

pub overflow_add-result : goal.overflow_add-result
overflow_add-result c = omega (arith, c.loop-at.invariant.few, c.loop-at.invariant.low)

pub returns : goal.returns
returns c = counted_end c.loop-at.invariant c.loop-at-test.false
