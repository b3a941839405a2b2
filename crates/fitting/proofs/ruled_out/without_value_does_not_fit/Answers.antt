-- By RuledOut.antt.
use Rattle.fitting.proofs.RuledOut.{without_value_ruled_out}
use Rattle.fitting.proofs.ruled_out.without_value_does_not_fit.Goals as goal

pub returns : goal.returns
returns c = without_value_ruled_out
