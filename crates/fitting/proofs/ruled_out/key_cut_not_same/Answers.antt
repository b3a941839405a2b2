-- By RuledOut.antt.
use Rattle.fitting.proofs.RuledOut.{key_cut_ruled_out}
use Rattle.fitting.proofs.ruled_out.key_cut_not_same.Goals as goal

pub returns : goal.returns
returns c = key_cut_ruled_out
