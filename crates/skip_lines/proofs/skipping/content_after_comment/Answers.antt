-- A report, and an error event.
use Rattle.skip_lines.proofs.skipping.content_after_comment.Goals as goal

pub returns : goal.returns
returns c = λ all. rw (c.emit.ensures all _, c.report-i.ensures all _)
