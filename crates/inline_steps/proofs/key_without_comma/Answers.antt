-- The report, then the key.
use Rattle.output.specs.WalkLaws.{after_item}
use Rattle.inline_steps.proofs.key_without_comma.Goals as goal

pub returns : goal.returns
returns c = after_item _ _ (λ all. c.missing-n.ensures all _) c.table_key.ensures
