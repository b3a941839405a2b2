-- By RuledOut.antt.
use Rattle.fitting.proofs.RuledOut.{multi_line_header_wide}
use Rattle.fitting.proofs.ruled_out.multi_line_key_fits_wide.Goals as goal

pub returns : goal.returns
returns c = multi_line_header_wide
