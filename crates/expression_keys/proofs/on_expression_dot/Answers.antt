-- An empty key, and back to the dot.
use mathlib.Core.Path.{refl}
use native.Mathlib.Omega.{arith}
use Rattle.expression_keys.proofs.on_expression_dot.Goals as goal

pub back-back-requires : goal.back-back-requires
back-back-requires c = record { good = c.requires.good; at_nonzero = omega (arith, c.requires.read_dot.took.on) }

pub returns : goal.returns
returns c = (c.back-back.ensures, refl, c.empty_key-n.ensures)
