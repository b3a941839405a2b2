-- By the run, what is asked of it and of the list, and what the theorems about the rules say of such a run.
use mathlib.Core.Path.{◌≡◌, sym, ◌∙◌}
use mathlib.Core.Bool.{true, false, false≢true}
use native.Mathlib.Omega.{arith}
use Rattle.judging.specs.Verdicts.{unjudged}
use Rattle.judging.proofs.VerdictLaws.{not_judged, too_little, irregular, by_the_run}
use Rattle.judging.proofs.run.judge_run.Goals as goal

pub returns-then-is_unjudged : goal.returns-then-is_unjudged
returns-then-is_unjudged c =
    let u : unjudged c.args.answer.refusal ≡ true = sym c.is_unjudged.ensures ∙ c.if-is_unjudged.true in
    λ events errors kept is. rw c.answered.ensures (not_judged c.args.records.now c.args.base events _ errors c.args.answer is u)

pub returns-then-events-records : goal.returns-then-events-records
returns-then-events-records c =
    let u : unjudged c.args.answer.refusal ≡ false = sym c.is_unjudged.ensures ∙ c.if-is_unjudged.false in
    λ events errors kept is. rw c.answered-then-events-records.ensures (too_little c.args.records.now c.args.base events _ errors c.args.answer is u (omega (arith, c.if-events-records.true, kept)))

pub known_or_regular-regular-requires : goal.known_or_regular-regular-requires
known_or_regular-regular-requires c = c.requires

pub returns-then-regular : goal.returns-then-regular
returns-then-regular c =
    let u : unjudged c.args.answer.refusal ≡ false = sym c.is_unjudged.ensures ∙ c.if-is_unjudged.false in
    λ events errors kept is. rw c.answered-then-regular.ensures (by_the_run c.args.records.now c.args.base events _ errors c.args.answer is u (omega (arith, c.if-events-records.false, kept)) _ (c.known_or_regular-regular.ensures.0 c.if-regular.true) c.is_quiet_without_multi_line_key-quiet.ensures)

pub returns : goal.returns
returns c =
    let u : unjudged c.args.answer.refusal ≡ false = sym c.is_unjudged.ensures ∙ c.if-is_unjudged.false in
    λ events errors kept is. rw c.answered-2.ensures (irregular c.args.records.now c.args.base events _ errors c.args.answer is u (omega (arith, c.if-events-records.false, kept)) (λ g. false≢true (sym c.if-regular.false ∙ c.known_or_regular-regular.ensures.1 g)))
