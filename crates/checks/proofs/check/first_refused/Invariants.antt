-- The loop goes record by record; what the check still says from here is what it says from the start.
use Rattle.std.proofs.Common.{◌≡◌, ◌-◌, ◌≤◌}
use Rattle.token.specs.Limits.{max_end}
use Rattle.token.specs.Records.{count}
use Rattle.token.specs.Check.{checked_from}
use Rattle.checks.proofs.check.first_refused.Given as goal

abbrev pub invariant-loop-i : goal.invariant-loop-i
invariant-loop-i l = (checked_from (count l.s - l.i) l.s l.i l.place ≡ checked_from (count l.s) l.s 0 l.from) × (l.place ≤ max_end)
