-- A report and an error event, then the rest of the line.
use Rattle.output.specs.WalkLaws.{after_item}
use Rattle.expression_strays.proofs.strays.on_missing_std_table.Goals as goal

pub ignore_to_newline-requires : goal.ignore_to_newline-requires
ignore_to_newline-requires c = c.requires

pub returns : goal.returns
returns c = after_item _ _ (λ all. c.report_before-i.ensures all _) (after_item _ _ (λ all. c.emit-n.ensures all _) c.ignore_to_newline.ensures)
