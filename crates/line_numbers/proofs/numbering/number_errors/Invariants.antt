-- An error a turn.
use Rattle.line_numbers.proofs.NumberingLaws.{Numbering}
use Rattle.line_numbers.proofs.numbering.number_errors.Given as goal

abbrev pub invariant-loop-i : goal.invariant-loop-i
invariant-loop-i l = Numbering l.s l.base l.mode l.stored l.initial.errors l.point l.comma l.i l.errors
