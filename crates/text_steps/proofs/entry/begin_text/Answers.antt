-- What the lexer refuses is not read; what it leaves passes the check, unless it is too much.
use Rattle.text_rules.specs.TextLaws.{text_refused, text_many}
use Rattle.text_steps.specs.BegunLaws.{readable}
use Rattle.text_steps.proofs.entry.begin_text.Goals as goal

pub returns-then-refusal-ne0 : goal.returns-then-refusal-ne0
returns-then-refusal-ne0 c = λ options events errors. text_refused c.args.text.now c.args.records.now events errors _ _ c.lex-lexed.ensures options c.if-refusal-ne0.true

pub returns-then-count-gt-MAX_RECORDS : goal.returns-then-count-gt-MAX_RECORDS
returns-then-count-gt-MAX_RECORDS c = λ options events errors. text_many c.args.text.now c.args.records.now events errors _ _ c.lex-lexed.ensures c.if-refusal-ne0.false options c.if-count-gt-MAX_RECORDS.true

pub returns : goal.returns
returns c = readable c.lex-lexed.ensures c.if-refusal-ne0.false c.if-count-gt-MAX_RECORDS.false
