-- A text that the lexer refuses, or that has too many records, is not judged; else its records are.
use Rattle.text_steps.specs.BegunLaws.{readable}
use Rattle.text_steps.proofs.TextVerdictLaws.{text_unjudged, text_many_unjudged}
use Rattle.text_steps.proofs.verdict.begin_verdict.Goals as goal

pub returns-then-refusal-ne0 : goal.returns-then-refusal-ne0
returns-then-refusal-ne0 c = λ events. rw c.not_judged.ensures (text_unjudged c.args.text.now c.args.records.now events _ _ c.lex-lexed.ensures c.if-refusal-ne0.true)

pub returns-then-count-gt-MAX_RECORDS : goal.returns-then-count-gt-MAX_RECORDS
returns-then-count-gt-MAX_RECORDS c = λ events. rw c.not_judged-then-count-gt-MAX_RECORDS.ensures (text_many_unjudged c.args.text.now c.args.records.now events _ _ c.lex-lexed.ensures c.if-refusal-ne0.false c.if-count-gt-MAX_RECORDS.true)

pub returns : goal.returns
returns c = readable c.lex-lexed.ensures c.if-refusal-ne0.false c.if-count-gt-MAX_RECORDS.false
