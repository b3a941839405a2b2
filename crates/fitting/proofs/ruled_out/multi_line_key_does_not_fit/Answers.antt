-- By RuledOut.antt.
use Rattle.fitting.proofs.RuledOut.{multi_line_header_ruled_out}
use Rattle.fitting.proofs.ruled_out.multi_line_key_does_not_fit.Goals as goal

pub returns : goal.returns
returns c = multi_line_header_ruled_out
