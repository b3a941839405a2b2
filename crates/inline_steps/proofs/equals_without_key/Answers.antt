-- The empty key, then the `=`.
use Rattle.inline_steps.proofs.equals_without_key.Goals as goal

pub returns : goal.returns
returns c = λ all errors. rw (c.emit.ensures all errors, c.empty_key-n.ensures all errors)
