-- An entry where the state is in a header, else nothing.
use Rattle.index.proofs.WalkLaws.{writes_one, none_met}
use Rattle.index.proofs.walked.finish.Goals as goal

pub returns-in_default : goal.returns-in_default
returns-in_default c = none_met c.args.k c.args.state c.args.index.now c.in_default.is

pub returns : goal.returns
returns c = writes_one c.args.k c.args.state c.args.index.now c.in-Some.header c.in-Some.is _ c.put_entry.ensures
