-- The comment, then the end of its line.
use Rattle.output.specs.WalkLaws.{after_item}
use Rattle.skip_lines.proofs.skipping.on_comment.Goals as goal

pub returns : goal.returns
returns c = after_item _ _ (λ all. c.emit-n.ensures all _) c.to_line_end.ensures
