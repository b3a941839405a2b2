-- A loop of turns that ends with the first behind which no turn follows.
use mathlib.Core.Path.{◌≡◌}
use Prim.Native.Nat.{◌-◌}
use lib.ListN.{length}
use Rattle.token.specs.Records.{count}
use Rattle.rules.specs.Out.{span}
use Rattle.output.specs.Pour.{bufs}
use Rattle.array_runs.proofs.RunLaws.{Running}
use Rattle.array_runs.proofs.turns.array_turns.Given as goal

abbrev pub invariant-loop-cur : goal.invariant-loop-cur
invariant-loop-cur l =
    Running l.s (span l.head.start l.head.end) l.initial.state l.initial.cur (bufs l.initial.events l.initial.errors l.initial.n) l.state (bufs l.events l.errors l.n) l.cur
    × (length l.events ≡ length l.initial.events) × (length l.errors ≡ length l.initial.errors)

abbrev pub decreases-loop-cur : goal.decreases-loop-cur
decreases-loop-cur l = count l.s - l.cur.at
