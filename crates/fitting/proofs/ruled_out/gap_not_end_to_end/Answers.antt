-- By RuledOut.antt.
use Rattle.fitting.proofs.RuledOut.{gap_ruled_out}
use Rattle.fitting.proofs.ruled_out.gap_not_end_to_end.Goals as goal

pub returns : goal.returns
returns c = gap_ruled_out
