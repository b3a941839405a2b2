-- By the items, which both modes share.
use Rattle.modes.proofs.ModeLaws.{modes_alike}
use Rattle.modes.proofs.modes_differ_in_commas_only.Goals as goal

pub returns : goal.returns
returns c = λ entry. modes_alike entry c.args.s.now c.args.base c.args.events.now c.args.errors.now
