-- The report, then the event.
use Rattle.inline_steps.proofs.eof.Goals as goal

pub returns : goal.returns
returns c = λ all. rw (c.emit.ensures all _, c.report_at-n.ensures all _)
