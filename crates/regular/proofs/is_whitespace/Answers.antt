-- By the number.
use Rattle.regular.proofs.NumberLaws.{whitespace_number}
use Rattle.regular.proofs.is_whitespace.Goals as goal

pub returns : goal.returns
returns c = whitespace_number c.args.number
