-- The kind that the number names.
use mathlib.Core.Path.{ap, ◌∙◌}
use Rattle.token.specs.Kinds.{kind_of}
use Rattle.token.proofs.record.kind_at.Goals as goal

pub returns : goal.returns
returns c = c.kind_of.ensures ∙ ap kind_of c.kind_number_at.ensures
