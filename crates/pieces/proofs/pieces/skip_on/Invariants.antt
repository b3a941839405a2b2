-- On over skipped text and blanks.
use Rattle.std.proofs.Common.{◌≡◌, ◌/◌, true, length}
use Rattle.rules.specs.Answer.{event_size}
use Rattle.pieces.specs.Pieces.{skipped_to, pieces}
use Rattle.pieces.specs.Finding.{events_left}
use Rattle.pieces.proofs.pieces.skip_on.Given as goal

abbrev pub invariant-loop-at : goal.invariant-loop-at
invariant-loop-at l = record {
  ends : skipped_to (events_left (length l.events / event_size) l.i l.events) l.end ≡ skipped_to (events_left (length l.events / event_size) l.at l.events) l.last;
  same : pieces (events_left (length l.events / event_size) l.i l.events) true ≡ pieces (events_left (length l.events / event_size) l.at l.events) true;
}
