-- A report and an error event, then what is left.
use Rattle.output.specs.WalkLaws.{after_item}
use Rattle.list_ends.proofs.content.Goals as goal

pub returns : goal.returns
returns c = after_item _ _ (λ all. c.report_before-i.ensures all _) (after_item _ _ (λ all. c.emit-n.ensures all _) c.errors_to_end.ensures)
