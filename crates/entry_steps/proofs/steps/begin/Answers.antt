-- By what the check answers.
use mathlib.Core.Path.{refl, ap, sym, subst, ◌∙◌}
use Prim.Native.Nat.{ℕ}
use Rattle.rules.specs.declared.answer.Answer.{Answer}
use Rattle.entry_steps.specs.Answers.{Answers}
use Rattle.entry_steps.proofs.AnswerLaws.{outcome_unread}
use Rattle.entry_steps.proofs.steps.begin.Goals as goal

pub returns-in-Err : goal.returns-in-Err
returns-in-Err c = λ options entry events errors.
    let unread : ℕ → Answer = λ n. record { refusal = n; place = c.in-Err.refused.place; events = 0; errors = 0 } in
    subst (λ (r : Answer). Answers options entry c.args.s.now c.args.base events errors events errors r) (sym (c.counted.ensures ∙ ap unread c.number.ensures)) (sym (outcome_unread options entry c.args.s.now c.args.base events errors _ (sym c.check.ensures ∙ c.in-Err.is)))

pub returns-in-Ok : goal.returns-in-Ok
returns-in-Ok c = record { passed = (sym c.check.ensures ∙ c.in-Ok.is); at = c.new.ensures; none = refl }
