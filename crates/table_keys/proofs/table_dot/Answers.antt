-- An empty first part, and the key from its dot on.
use native.Mathlib.Omega.{arith}
use Rattle.output.specs.WalkLaws.{after_item}
use Rattle.key_dots.specs.DotLaws.{dot_goes}
use Rattle.table_keys.proofs.table_dot.Goals as goal

pub returns : goal.returns
returns c = after_item _ _ (λ all. c.empty_key-n.ensures all _) (dot_goes c.requires.read_dot c.back-back.ensures c.opt_dot_keys-w.ensures.goes)
