-- The records so far fit.
use Rattle.std.proofs.Common.{sym, ◌∙◌}
use Rattle.record_checks.proofs.StretchLaws.{one_does_not}
use Rattle.record_checks.proofs.all_fit.Goals as goal

pub returns-then-not-fits_at : goal.returns-then-not-fits_at
returns-then-not-fits_at c = sym (one_does_not _ _ _ _ c.loop-nth-test.true c.loop-nth.invariant (sym c.fits_at.ensures ∙ c.if-not-fits_at.true))
