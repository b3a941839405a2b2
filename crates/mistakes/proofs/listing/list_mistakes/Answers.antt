-- A piece a turn, and then the records that are left.
use Rattle.std.proofs.Common.{Option, ℕ, subst, ◌∙◌, ◌/◌, length}
use Rattle.rules.specs.Answer.{event_size}
use Rattle.line_points.specs.PointLaws.{counted_begun}
use Rattle.pieces.specs.declared.pieces.Piece.{Piece}
use Rattle.pieces.specs.Finding.{Finds}
use Rattle.mistakes.proofs.ListingLaws.{listing_begun, listing_on, listing_end, listing_filled, notes_of}
use Rattle.mistakes.proofs.listing.list_mistakes.Goals as goal

pub loop-p-init : goal.loop-p-init
loop-p-init c = listing_begun _ _ _ _ _ _ _ _ (counted_begun _ _ _ c.requires.s_bound.0 c.requires.s_bound.1 c.first_line-point.ensures)

pub loop-p-preserved : goal.loop-p-preserved
loop-p-preserved c =
    let found = subst (λ (f : Option (Piece × ℕ)). Finds (length c.args.events.now / event_size) c.args.events.now c.loop-p.i f) c.in-Some.is c.next_piece.ensures in
    listing_on c.loop-p.invariant found _ _ _ _ c.passed_by-j.ensures c.put_records.ensures c.put_records.auto.mistakes (notes_of c.loop-p.invariant.counted.based c.note_piece-noted.ensures) c.note_piece-noted.auto.mistakes

pub returns : goal.returns
returns c = listing_end c.loop-p.invariant _ c.in_default.ensures c.put_records-2.ensures ∙ listing_filled _ _ _ _ _ _
