-- The chunk that came is an event, so what is left behind it is named. Assumes nothing.
use Rattle.std.proofs.Common.{◌∙◌, arith}
use Rattle.listing_lines.proofs.NameLaws.{named_behind}
use Rattle.listing_lines.proofs.printing.print_events.Goals as goal

pub loop-event-preserved : goal.loop-event-preserved
loop-event-preserved g c =
    let s = c.in-Some.ensures.steps in
    let kept = c.loop-event.invariant in
    (omega arith, tt, s.0 ∙ kept.2, named_behind _ _ _ s.1.0 (s.1.1 ∙ kept.2) kept.3)
