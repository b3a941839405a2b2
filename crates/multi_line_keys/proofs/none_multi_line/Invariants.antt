-- No event before the one that the loop is at is a key that is a multi-line string.
use Rattle.quiet.specs.Runs.{NoneMultiLine}
use Rattle.multi_line_keys.proofs.none_multi_line.Given as goal

abbrev pub invariant-loop-i : goal.invariant-loop-i
invariant-loop-i l = NoneMultiLine l.i l.events
