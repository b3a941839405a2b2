-- What stands where no key starts, by what its first token is to the start of an expression. Assumes nothing.
use Rattle.std.specs.Prelude.{List, ℕ}
use Rattle.token.specs.Tokens.{Tok}
use Rattle.rules.specs.declared.document.InDocument.{InDocument}
use Rattle.rules.specs.Out.{Out, done, ◌▹◌}
use Rattle.rules.specs.Receiver as receiver
use Rattle.rules.specs.Skipping.{on_comment}
use Rattle.rules.specs.Table.{on_table}
use Rattle.rules.specs.Document.{on_missing_expression_key, on_missing_std_table}

-- the arms of document_step without what the loop does behind them; at the start of a key, and at the end, nothing
abbrev pub keyless : InDocument → ℕ → ℕ → List Tok → Out
keyless InDocument.OpenSquare a b ts = on_table a b ts
keyless InDocument.CloseSquare a b ts = on_missing_std_table a b ts
keyless (InDocument.Key e) a b ts = done ts
keyless InDocument.Equals a b ts = done ts
keyless InDocument.Dot a b ts = done ts
keyless InDocument.Stray a b ts = on_missing_expression_key a b ts
keyless InDocument.Whitespace a b ts = receiver.whitespace a b ▹ done ts
keyless InDocument.Newline a b ts = receiver.newline a b ▹ done ts
keyless InDocument.Comment a b ts = on_comment a b ts
keyless InDocument.Eof a b ts = done ts
