-- The report, then the comment.
use Rattle.output.specs.WalkLaws.{after_item}
use Rattle.inline_steps.proofs.comment.Goals as goal

pub returns : goal.returns
returns c = after_item _ _ (λ all. c.report_at-n.ensures all _) c.on_comment.ensures
