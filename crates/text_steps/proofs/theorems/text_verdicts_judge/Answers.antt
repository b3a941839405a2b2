-- A text that the lexer refuses is not judged; else by the theorem about its records.
use mathlib.Core.Path.{sym}
use mathlib.Core.List.{[]}
use native.Mathlib.Omega.{arith}
use lib.Seq.{length-take-le}
use Rattle.text_rules.specs.TextLaws.{text_room, text_few}
use Rattle.text_steps.proofs.TextVerdictLaws.{unjudged_decided, text_decided}
use Rattle.text_steps.proofs.theorems.text_verdicts_judge.Goals as goal

pub overflow_mul-size : goal.overflow_mul-size
overflow_mul-size c = record { fits = omega (arith, text_few c.args.text.now c.args.records.now [] [] _ _ c.lex-lexed.ensures c.if-refusal-eq0.true) }

pub slice_bounds-verdicts_judge-end : goal.slice_bounds-verdicts_judge-end
slice_bounds-verdicts_judge-end c = text_room c.args.text.now c.args.records.now [] [] _ _ c.lex-lexed.ensures c.if-refusal-eq0.true

pub slice_bounds-verdicts_judge-end-then-refusal-eq0 : goal.slice_bounds-verdicts_judge-end-then-refusal-eq0
slice_bounds-verdicts_judge-end-then-refusal-eq0 c = sym (length-take-le _ _ (text_room c.args.text.now c.args.records.now [] [] _ _ c.lex-lexed.ensures c.if-refusal-eq0.true))

pub returns-then-refusal-eq0 : goal.returns-then-refusal-eq0
returns-then-refusal-eq0 c = text_decided c.args.text.now c.args.records.now c.args.events.now _ _ c.lex-lexed.ensures c.if-refusal-eq0.true c.verdicts_judge.ensures

pub returns-else-refusal-eq0 : goal.returns-else-refusal-eq0
returns-else-refusal-eq0 c = unjudged_decided c.args.text.now c.args.records.now c.args.events.now _ _ c.lex-lexed.ensures c.if-refusal-eq0.false
