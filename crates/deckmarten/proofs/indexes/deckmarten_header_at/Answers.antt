-- The C structure is the one of what stands there.
use mathlib.Core.Path.{ap, ◌∙◌}
use Rattle.export_indexes.specs.ExportedIndexes.{header_structure}
use Rattle.deckmarten.proofs.indexes.deckmarten_header_at.Goals as goal

pub returns : goal.returns
returns c = c.from.ensures ∙ ap header_structure c.header_at.ensures
