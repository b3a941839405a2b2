-- What is left from here gives what was left from the start.
use Rattle.std.proofs.Common.{◌-◌}
use Rattle.token.specs.Records.{count}
use Rattle.token.specs.Tokens.{tokens_at}
use Rattle.output.specs.Pour.{bufs}
use Rattle.output.specs.WalkLaws.{Looped}
use Rattle.rules.specs.Skipping.{leftover}
use Rattle.list_ends.proofs.errors_to_end.Given as goal

abbrev pub invariant-loop-t : goal.invariant-loop-t
invariant-loop-t l = Looped l.s (leftover (tokens_at l.s l.cur)) (leftover (tokens_at l.s l.initial.cur)) (bufs l.events l.errors l.n) (bufs l.initial.events l.errors l.initial.n) l.cur l.initial.cur

abbrev pub decreases-loop-t : goal.decreases-loop-t
decreases-loop-t l = count l.s - l.cur.at
