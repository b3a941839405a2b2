-- The C structure holds the lexer's answer.
use Rattle.export_texts.specs.TextExportLaws.{exports_lexed}
use Rattle.deckmarten.proofs.text.deckmarten_lex.Goals as goal

pub returns : goal.returns
returns c = exports_lexed _ _ _ _ _ c.from.ensures c.lex.ensures
