-- By the tests in their order.
use mathlib.Core.Path.{refl}
use borrow.Author.Tests.{lt-ltb, le-ltb}
use Rattle.entry_steps.proofs.steps.answer_of.Goals as goal

pub returns-in-Err : goal.returns-in-Err
returns-in-Err c = rw (c.counted.ensures, c.saturating_sub.ensures, c.in-Err.is) refl

pub returns-then-event_room-n : goal.returns-then-event_room-n
returns-then-event_room-n c = rw (c.counted-then-event_room-n.ensures, c.in-Ok.is, lt-ltb _ _ c.if-event_room-n.true)

pub returns-then-error_room-n : goal.returns-then-error_room-n
returns-then-error_room-n c = rw (c.counted-then-error_room-n.ensures, c.in-Ok.is, le-ltb _ _ c.if-event_room-n.false, lt-ltb _ _ c.if-error_room-n.true)

pub returns-else-error_room-n : goal.returns-else-error_room-n
returns-else-error_room-n c = rw (c.counted-in-Ok.ensures, c.in-Ok.is, le-ltb _ _ c.if-event_room-n.false, le-ltb _ _ c.if-error_room-n.false)
