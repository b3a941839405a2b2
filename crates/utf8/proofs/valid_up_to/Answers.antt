-- A step a turn: how far the rest is valid leads to how far all is.
use native.Mathlib.Omega.{arith}
use Rattle.utf8_sequences.specs.Utf8Laws.{valid_start, valid_on, valid_stuck, valid_out}
use Rattle.utf8.proofs.valid_up_to.Goals as goal

pub loop-i-init : goal.loop-i-init
loop-i-init c = valid_start c.args.text.now

pub returns-then-next-i : goal.returns-then-next-i
returns-then-next-i c = valid_stuck c.loop-i.invariant c.step-next.ensures c.if-next-i.true

pub loop-i-smaller : goal.loop-i-smaller
loop-i-smaller c = omega (arith, c.step-next.ensures.up, c.step-next.ensures.within, c.if-next-i.false, c.loop-i-test.true)

pub loop-i-preserved : goal.loop-i-preserved
loop-i-preserved c = valid_on c.loop-i.invariant c.step-next.ensures

pub returns : goal.returns
returns c = valid_out c.loop-i.invariant c.loop-i-test.false
