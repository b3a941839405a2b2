-- Past what is sound and blank, up to the first piece.
use Rattle.std.proofs.Common.{◌≡◌, ◌/◌, ◌≤◌, false, length}
use Rattle.rules.specs.Answer.{event_size}
use Rattle.pieces.specs.Pieces.{pieces}
use Rattle.pieces.specs.Finding.{events_left}
use Rattle.pieces.proofs.pieces.next_piece.Given as goal

abbrev pub invariant-loop-at : goal.invariant-loop-at
invariant-loop-at l = record {
  same : pieces (events_left (length l.events / event_size) l.i l.events) false ≡ pieces (events_left (length l.events / event_size) l.at l.events) false;
  on : l.i ≤ l.at;
}
