-- Refusals 1, 2 and 5 for the base; then the records decide.
use mathlib.Core.Path.{refl, sym, ◌∙◌}
use native.Mathlib.Omega.{arith}
use borrow.Author.Tests.{lt-ltb, le-ltb, eq-eqb, ne_eqb}
use Prim.Native.Nat.{◌<◌}
use Rattle.token.specs.Limits.{max_end}
use Rattle.token.specs.Check.{checked}
use Rattle.token.specs.CheckLaws.{checked_records, passed_is}
use Rattle.checks.proofs.check.check.Goals as goal

pub returns-then-s-ne0 : goal.returns-then-s-ne0
unfolding checked
returns-then-s-ne0 c = simp (ne_eqb _ _ c.if-s-ne0.true)

pub returns-then-n-gt-MAX_RECORDS : goal.returns-then-n-gt-MAX_RECORDS
unfolding checked
returns-then-n-gt-MAX_RECORDS c = simp (eq-eqb _ _ c.if-s-ne0.false, lt-ltb _ _ c.if-n-gt-MAX_RECORDS.true)

pub returns-then-from-gt-MAX_END : goal.returns-then-from-gt-MAX_END
unfolding checked
returns-then-from-gt-MAX_END c =
    let h : max_end < c.args.base = omega (arith, c.if-from-gt-MAX_END.true) in
    simp (eq-eqb _ _ c.if-s-ne0.false, le-ltb _ _ c.if-n-gt-MAX_RECORDS.false, lt-ltb _ _ h)

pub returns-then-all_pass : goal.returns-then-all_pass
returns-then-all_pass c = sym (passed_is _ (sym c.all_pass.ensures ∙ c.if-all_pass.true)) ∙ (checked_records _ _ _ c.if-s-ne0.false c.if-n-gt-MAX_RECORDS.false (omega (arith, c.if-from-gt-MAX_END.false)) refl)

pub returns : goal.returns
returns c = c.first_refused.ensures ∙ (checked_records _ _ _ c.if-s-ne0.false c.if-n-gt-MAX_RECORDS.false (omega (arith, c.if-from-gt-MAX_END.false)) refl)
