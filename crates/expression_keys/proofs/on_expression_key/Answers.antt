-- The first part, and where the rest begins.
use mathlib.Core.Path.{refl}
use Rattle.expression_keys.proofs.on_expression_key.Goals as goal

pub returns : goal.returns
returns c = (refl, refl, c.emit-n.ensures)
