-- The report, then the key.
use Rattle.output.specs.WalkLaws.{after_item}
use Rattle.inline_steps.proofs.dot_without_comma.Goals as goal

pub table_dot-requires : goal.table_dot-requires
table_dot-requires c = c.requires

pub returns : goal.returns
returns c = after_item _ _ (λ all. c.missing-n.ensures all _) c.table_dot.ensures
