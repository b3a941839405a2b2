-- The report, then the scalar.
use Rattle.output.specs.WalkLaws.{after_item}
use Rattle.inline_steps.proofs.unassigned_scalar.Goals as goal

pub on_scalar-requires : goal.on_scalar-requires
on_scalar-requires c = c.requires

pub returns : goal.returns
returns c = after_item _ _ (λ all. c.missing-n.ensures all _) c.on_scalar.ensures
