-- By RuledOut.antt.
use Rattle.fitting.proofs.RuledOut.{crossing_ruled_out}
use Rattle.fitting.proofs.ruled_out.crossing_does_not_nest.Goals as goal

pub returns : goal.returns
returns c = crossing_ruled_out
