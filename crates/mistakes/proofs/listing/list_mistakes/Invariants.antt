-- A piece a turn, and then the records that are left.
use Rattle.std.proofs.Common.{◌-◌, ◌/◌, length}
use Rattle.rules.specs.Answer.{event_size, error_size}
use Rattle.mistakes.proofs.ListingLaws.{Ongoing}
use Rattle.mistakes.proofs.listing.list_mistakes.Given as goal

abbrev pub invariant-loop-p : goal.invariant-loop-p
invariant-loop-p l = Ongoing l.s l.base (length l.events / event_size) l.events (length l.errors / error_size) l.errors l.initial.mistakes l.i l.r l.k l.point l.mistakes

abbrev pub decreases-loop-p : goal.decreases-loop-p
decreases-loop-p l = length l.events / event_size - l.i
