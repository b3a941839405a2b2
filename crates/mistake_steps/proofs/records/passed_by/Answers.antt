-- Past the records that go before.
use Rattle.std.proofs.Common.{◌≡◌, ℕ, subst, sym, ◌∙◌, ◌/◌, length, arith}
use Rattle.rules.specs.Answer.{error_size}
use Rattle.mistake_steps.specs.Steps.{Passes}
use Rattle.mistake_steps.proofs.RecordLaws.{passing_begun, passing_more, passed_here, passed_all}
use Rattle.mistake_steps.proofs.records.passed_by.Goals as goal

pub loop-j-init : goal.loop-j-init
loop-j-init c = passing_begun _ _ _ _ c.requires

pub loop-j-preserved : goal.loop-j-preserved
loop-j-preserved c = passing_more c.loop-j.invariant c.loop-j-test.true (sym c.goes_before.ensures ∙ c.if-not-goes_before.false)

pub returns-then-not-goes_before : goal.returns-then-not-goes_before
returns-then-not-goes_before c = passed_here c.loop-j.invariant c.loop-j-test.true (sym c.goes_before.ensures ∙ c.if-not-goes_before.true)

pub returns : goal.returns
returns c =
    let n = length c.args.errors.now / error_size in
    let end : c.loop-j.j ≡ n = omega (arith, c.loop-j.auto.j-end c.requires) in
    subst (λ (j : ℕ). Passes n c.args.errors.now c.args.r c.args.p j) end (passed_all c.loop-j.invariant c.loop-j-test.false)
