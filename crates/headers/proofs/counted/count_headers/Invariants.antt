-- What was found and what is left is all.
use Rattle.std.proofs.Common.{◌≡◌, ◌+◌, ◌/◌, ◌≤◌, length}
use Rattle.rules.specs.Answer.{event_size}
use Rattle.headers.specs.Headers.{headers_in}
use Rattle.headers.proofs.CountLaws.{headers_left}
use Rattle.headers.proofs.counted.count_headers.Given as goal

abbrev pub invariant-loop-i : goal.invariant-loop-i
invariant-loop-i l = record {
  all : l.found + headers_left l.events l.i ≡ length (headers_in (length l.events / event_size) l.events);
  few : l.found ≤ l.i;
}
