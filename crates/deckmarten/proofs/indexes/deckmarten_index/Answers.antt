-- The C structure holds the index's answer.
use Rattle.export_indexes.specs.IndexExports.{exports_index}
use Rattle.deckmarten.proofs.indexes.deckmarten_index.Goals as goal

pub returns : goal.returns
returns c = exports_index _ _ _ _ _ _ _ c.from.ensures c.from-2.ensures c.index.ensures
