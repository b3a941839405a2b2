-- The key's first part, and the rest of it.
use Rattle.output.specs.WalkLaws.{after_item}
use Rattle.table_keys.proofs.PairLaws.{key_put}
use Rattle.table_keys.proofs.table_key.Goals as goal

pub returns : goal.returns
returns c = after_item _ _ (λ all. key_put all _ _ _ _ _ _ (c.emit-n.ensures all _) c.encoding_at-e.ensures) c.opt_dot_keys-w.ensures.goes
