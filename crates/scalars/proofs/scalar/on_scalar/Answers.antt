-- One event, as far as the scalar goes.
use mathlib.Core.Path.{◌∙◌}
use Rattle.output.specs.WalkLaws.{by_rule, first_item, run_done, goes_by}
use Rattle.scalars.proofs.scalar.on_scalar.Goals as goal

pub returns : goal.returns
returns c = goes_by _ _ _ _ _ _ (λ base q. by_rule _ _ _ _ c.extent_of-r.ensures.is ∙ ((first_item _ _ _ _ _ (c.emit-n.ensures _ _))) ∙ run_done _ _ _ _ _ _) c.extent_of-r.ensures.good c.extent_of-r.ensures.on c.extent_of-r.ensures.base
