-- Expressions and the document loop: on_expression_key, on_expression_dot, on_expression_key_val_sep, on_missing_expression_key,
-- on_missing_std_table, document. Assumes nothing.
use Rattle.std.specs.Prelude.{ℕ, List, [], ◌∷◌}
use Rattle.token.specs.declared.kind.Kind.{Kind}
use Rattle.token.specs.declared.kind.Kind.TheVariants.{Dot, Equals, Comma, LeftSquareBracket, RightSquareBracket, LeftCurlyBracket, RightCurlyBracket, Whitespace, Comment, Newline, LiteralString, BasicString, MlLiteralString, MlBasicString, Atom, Eof}
use Rattle.token.specs.Tokens.{Tok, tok}
use Rattle.rules.specs.declared.event.Encoding.{Encoding}
use Rattle.rules.specs.declared.document.InDocument.{InDocument}
use Rattle.rules.specs.Out.{span, before, report, Out, done, ◌▹◌, ◌then◌}
use Rattle.rules.specs.Messages as message
use Rattle.rules.specs.Expected as expected
use Rattle.rules.specs.Receiver as receiver
use Rattle.rules.specs.Turns.{looping}
use Rattle.rules.specs.Skipping.{on_comment, ignore_to_newline, ws_comment_newline}
use Rattle.rules.specs.Keys.{opt_whitespace, opt_dot_keys}
use Rattle.rules.specs.Value.{value}
use Rattle.rules.specs.Table.{next_token_if, on_table}

-- what a kind is to the start of an expression
abbrev pub in_document : Kind → InDocument
in_document Dot = InDocument.Dot
in_document Equals = InDocument.Equals
in_document Comma = InDocument.Stray
in_document LeftSquareBracket = InDocument.OpenSquare
in_document RightSquareBracket = InDocument.CloseSquare
in_document LeftCurlyBracket = InDocument.Stray
in_document RightCurlyBracket = InDocument.Stray
in_document Whitespace = InDocument.Whitespace
in_document Comment = InDocument.Comment
in_document Newline = InDocument.Newline
in_document LiteralString = InDocument.Key Encoding.LiteralString
in_document BasicString = InDocument.Key Encoding.BasicString
in_document MlLiteralString = InDocument.Key Encoding.MlLiteralString
in_document MlBasicString = InDocument.Key Encoding.MlBasicString
in_document Atom = InDocument.Key Encoding.None
in_document Eof = InDocument.Eof

-- on_expression_key_val_sep: the `=` at a..b, and the value behind it
abbrev pub on_expression_key_val_sep : ℕ → ℕ → ℕ → List Tok → Out
on_expression_key_val_sep levels a b ts = receiver.key_val_sep a b ▹ (opt_whitespace ts then value levels then ws_comment_newline)

-- no `=`: reported, with the message, if a token is left
abbrev pub no_equals : ℕ → List Tok → Out
no_equals m [] = done []
no_equals m (tok k a b ∷ ts) = report m expected.equals (before a b) (before a b) ▹ ignore_to_newline (tok k a b ∷ ts)

-- from the dots behind the first part of a key on
abbrev pub expression : ℕ → ℕ → List Tok → Out
expression m levels ts = opt_dot_keys ts then opt_whitespace then next_token_if Equals (on_expression_key_val_sep levels) (no_equals m)

-- on_expression_key: the first part of the key is at a..b
abbrev pub on_expression_key : ℕ → Encoding → ℕ → ℕ → List Tok → Out
on_expression_key levels e a b ts = receiver.simple_key e a b ▹ expression message.key_with_no_value levels ts

-- on_expression_dot: the key begins with the dot at a..b
abbrev pub on_expression_dot : ℕ → ℕ → ℕ → List Tok → Out
on_expression_dot levels a b ts = receiver.simple_key Encoding.None a a ▹ expression message.missing_value_for_key levels (tok Dot a b ∷ ts)

abbrev pub on_missing_expression_key : ℕ → ℕ → List Tok → Out
on_missing_expression_key a b ts = report message.invalid_key_value_pair expected.a_key (span a b) (before a b) ▹ receiver.error a b ▹ ignore_to_newline ts

abbrev pub on_missing_std_table : ℕ → ℕ → List Tok → Out
on_missing_std_table a b ts = report message.missing_table_open expected.open_square (span a b) (before a b) ▹ receiver.error a b ▹ ignore_to_newline ts

abbrev pub document_step : InDocument → ℕ → (List Tok → Out) → ℕ → ℕ → List Tok → Out
document_step InDocument.OpenSquare levels loop a b ts = on_table a b ts then loop
document_step InDocument.CloseSquare levels loop a b ts = on_missing_std_table a b ts then loop
document_step (InDocument.Key e) levels loop a b ts = on_expression_key levels e a b ts then loop
document_step InDocument.Equals levels loop a b ts = (receiver.simple_key Encoding.None a a ▹ on_expression_key_val_sep levels a b ts) then loop
document_step InDocument.Dot levels loop a b ts = on_expression_dot levels a b ts then loop
document_step InDocument.Stray levels loop a b ts = on_missing_expression_key a b ts then loop
document_step InDocument.Whitespace levels loop a b ts = receiver.whitespace a b ▹ loop ts
document_step InDocument.Newline levels loop a b ts = receiver.newline a b ▹ loop ts
document_step InDocument.Comment levels loop a b ts = on_comment a b ts then loop
document_step InDocument.Eof levels loop a b ts = done ts

abbrev pub document_turn : ℕ → (Unit {0} → List Tok → Out) → Unit {0} → List Tok → Out
document_turn levels loop u [] = done []
document_turn levels loop u (tok k a b ∷ ts) = document_step (in_document k) levels (loop u) a b ts

abbrev pub document : ℕ → List Tok → Out
document levels ts = looping (document_turn levels) tt ts
