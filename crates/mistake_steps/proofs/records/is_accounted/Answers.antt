-- By the record, if there is one.
use Rattle.std.proofs.Common.{◌∙◌, le-ltb}
use Rattle.mistake_steps.proofs.RecordLaws.{accounted_here, accounted_none}
use Rattle.mistake_steps.proofs.records.is_accounted.Goals as goal

pub returns-then-r-errors : goal.returns-then-r-errors
returns-then-r-errors c = c.accounts_for.ensures ∙ accounted_here _ _ _ c.args.p c.if-r-errors.true

pub returns-else-r-errors : goal.returns-else-r-errors
returns-else-r-errors c = le-ltb _ _ c.if-r-errors.false ∙ accounted_none _ _ _ c.args.p c.if-r-errors.false
