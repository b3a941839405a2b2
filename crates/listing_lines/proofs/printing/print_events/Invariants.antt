-- Each event that is left is named. Assumes nothing.
use Rattle.std.proofs.Common.{◌≡◌, ◌/◌, length}
use Rattle.rules.specs.Answer.{event_size}
use Rattle.listing_lines.specs.Printable.{AllNamed}
use Rattle.listing_lines.proofs.printing.print_events.Given as goal

abbrev pub invariant-loop-event : goal.invariant-loop-event
invariant-loop-event g l =
    (goal.iterator-loop-event g).can_next l.event-iterator ×
    (goal.iterator-loop-event g).is_finite l.event-iterator ×
    (l.event-iterator.size ≡ event_size) ×
    AllNamed l.event-iterator.rest.now (length l.event-iterator.rest.now / event_size)
