-- What the pass says from here is what it says from the start.
use mathlib.Core.Path.{◌≡◌}
use mathlib.Core.Bool.{false}
use Prim.Native.Nat.{◌-◌}
use Rattle.token.specs.Records.{count}
use Rattle.regular.proofs.RegularLaws.{passes_from}
use Rattle.regular.proofs.is_regular.Given as goal

abbrev pub invariant-loop-i : goal.invariant-loop-i
invariant-loop-i l = passes_from (count l.records - l.i) l.records l.i l.behind ≡ passes_from (count l.records) l.records 0 false
