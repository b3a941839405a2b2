-- Each `=` is reported, up to a value or what stands where one should.
use mathlib.Core.Path.{◌≡◌}
use Prim.Native.Nat.{◌-◌}
use lib.ListN.{length}
use Rattle.token.specs.Records.{count}
use Rattle.token.specs.Tokens.{tokens_at}
use Rattle.output.specs.Pour.{bufs}
use Rattle.output.specs.WalkLaws.{Looped}
use Rattle.rules.specs.Value.{value}
use Rattle.values.proofs.value.value.Given as goal

abbrev pub invariant-loop-t : goal.invariant-loop-t
invariant-loop-t l =
    Looped l.s (value l.settings.levels (tokens_at l.s l.cur)) (value l.settings.levels (tokens_at l.s l.initial.cur)) (bufs l.events l.errors l.n) (bufs l.initial.events l.initial.errors l.initial.n) l.cur l.initial.cur
    × (length l.events ≡ length l.initial.events) × (length l.errors ≡ length l.initial.errors)

abbrev pub decreases-loop-t : goal.decreases-loop-t
decreases-loop-t l = count l.s - l.cur.at
