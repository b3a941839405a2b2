-- The run's own refusal, then the records', else the list.
use mathlib.Core.Path.{ap, sym, ◌∙◌}
use Prim.Native.Nat.{ℕ}
use Rattle.mistake_rules.specs.Outcome.{unlisted}
use Rattle.mistake_rules.proofs.OutcomeLaws.{answered, run_refused, records_refused, records_passed}
use Rattle.mistakes.proofs.mistakes.Goals as goal

pub returns-then-refusal-ne0 : goal.returns-then-refusal-ne0
returns-then-refusal-ne0 c = answered _ _ _ c.unlisted.ensures ∙ run_refused c.args.s.now c.args.base (record { answer = c.args.answer; events = c.args.events.now; errors = c.args.errors.now }) c.args.mistakes.now c.if-refusal-ne0.true

pub mistakes_of-requires : goal.mistakes_of-requires
mistakes_of-requires c = sym c.check.ensures ∙ c.in-Ok.is

pub returns-in-Err : goal.returns-in-Err
returns-in-Err c = answered _ _ _ c.unlisted-in-Err.ensures ∙ ap (λ (n : ℕ). unlisted n c.in-Err.refused.place c.args.mistakes.now) c.number.ensures ∙ records_refused c.args.s.now c.args.base (record { answer = c.args.answer; events = c.args.events.now; errors = c.args.errors.now }) c.args.mistakes.now _ c.if-refusal-ne0.false (sym c.check.ensures ∙ c.in-Err.is)

pub returns-in-Ok : goal.returns-in-Ok
returns-in-Ok c = c.mistakes_of.ensures ∙ records_passed c.args.s.now c.args.base (record { answer = c.args.answer; events = c.args.events.now; errors = c.args.errors.now }) c.args.mistakes.now c.if-refusal-ne0.false (sym c.check.ensures ∙ c.in-Ok.is)
