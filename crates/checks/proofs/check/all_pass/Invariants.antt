-- Each turn sums a stretch, and so do the records that are left behind the turns; what the sum tells of the check is the law of Summed.
use Prim.Native.Nat.{◌*◌}
use Rattle.token.specs.CheckLaws.{Summed}
use Rattle.checks.proofs.check.all_pass.Given as goal

abbrev pub invariant-loop-turn : goal.invariant-loop-turn
invariant-loop-turn l = Summed l.s l.initial.end 0 l.end (l.turn * 4)
