-- A token a turn, and Eof behind the last.
use native.Mathlib.Omega.{arith}
use Rattle.text_records.specs.TextRecordLaws.{placed_begun, placed_room, placed_on, placed_end, placed_all}
use Rattle.text_records.proofs.write.Goals as goal

pub loop-at-init : goal.loop-at-init
loop-at-init c = placed_begun _ _ _ c.requires.base_in_bounds c.requires.base_in_bounds_2

pub put_token-at-requires : goal.put_token-at-requires
put_token-at-requires c = record { at_in_bounds = c.loop-at-test.true; out_in_bounds = placed_room c.loop-at.invariant }

pub overflow_add-out : goal.overflow_add-out
overflow_add-out c = omega (arith, placed_room c.loop-at.invariant)

pub loop-at-smaller : goal.loop-at-smaller
loop-at-smaller c = omega (arith, c.put_token-at.ensures.token.end, c.put_token-at.ensures.token.within, c.loop-at-test.true)

pub loop-at-preserved : goal.loop-at-preserved
loop-at-preserved c = placed_on c.loop-at.invariant c.loop-at-test.true _ _ c.put_token-at.ensures

pub put-requires : goal.put-requires
put-requires c = placed_room c.loop-at.invariant

pub overflow_add-result : goal.overflow_add-result
overflow_add-result c = omega (arith, placed_room c.loop-at.invariant)

pub returns : goal.returns
returns c = (placed_end c.loop-at.invariant c.loop-at-test.false, (placed_all c.loop-at.invariant c.loop-at-test.false _ _ c.number_of.ensures c.put.ensures).0)
