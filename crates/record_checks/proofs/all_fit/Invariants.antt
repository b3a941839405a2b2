-- The records so far fit.
use mathlib.Core.Path.{◌≡◌}
use mathlib.Core.Bool.{true}
use Rattle.record_checks.specs.Stretches.{all_fit}
use Rattle.record_checks.proofs.all_fit.Given as goal

abbrev pub invariant-loop-nth : goal.invariant-loop-nth
invariant-loop-nth l = all_fit l.nth l.s l.i ≡ true
