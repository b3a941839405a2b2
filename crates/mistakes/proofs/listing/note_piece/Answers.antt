-- By whether a record accounts for it.
use Rattle.mistakes.proofs.ListingLaws.{noted_silent}
use Rattle.mistakes.proofs.listing.note_piece.Goals as goal

pub returns : goal.returns
returns c = noted_silent c.args.s.now c.args.point.cur.base _ c.args.errors.now c.args.r c.args.p c.args.k c.args.mistakes.now _ _ _ _ c.is_accounted.ensures c.if-is_accounted.false c.line_from-at.ensures c.expected_by-expected.ensures c.put_mistake.ensures
