-- An error a turn.
use Rattle.line_numbers.proofs.NumberingLaws.{numbering_begun, numbering_on}
use Rattle.line_numbers.proofs.numbering.number_errors.Goals as goal

pub loop-i-init : goal.loop-i-init
loop-i-init c = numbering_begun _ _ _ c.requires.text_ends c.requires.laid c.first_line-point.ensures c.no_comma-comma.ensures

pub loop-i-preserved : goal.loop-i-preserved
loop-i-preserved c = numbering_on c.loop-i.invariant c.loop-i-test.true c.place_of-u.ensures
