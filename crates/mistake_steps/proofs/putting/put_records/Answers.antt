-- A record a turn.
use Rattle.mistake_steps.proofs.PuttingLaws.{putting_begun, putting_on, putting_end}
use Rattle.mistake_steps.proofs.putting.put_records.Goals as goal

pub loop-i-init : goal.loop-i-init
loop-i-init c = putting_begun _ _ _ _ _ c.requires.r_le_j

pub loop-i-preserved : goal.loop-i-preserved
loop-i-preserved c = putting_on c.loop-i.invariant _ c.loop-i-test.true c.put_record.auto.mistakes c.put_record.ensures

pub returns : goal.returns
returns c = putting_end c.loop-i.invariant c.loop-i-test.false
