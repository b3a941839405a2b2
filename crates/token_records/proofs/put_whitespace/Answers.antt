-- One space.
use mathlib.Core.Path.{sym, ◌∙◌}
use Rattle.token_records.specs.PutLaws.{put_space}
use Rattle.token_records.proofs.put_whitespace.Goals as goal

pub returns-then-whitespace_ends : goal.returns-then-whitespace_ends
returns-then-whitespace_ends c = put_space c.requires.at_in_bounds c.requires.at_value (sym c.whitespace_ends.ensures ∙ c.if-whitespace_ends.true) _ c.number_of.ensures c.put.ensures
