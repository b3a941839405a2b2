-- The four entries: parse_document, parse_key, parse_simple_key, parse_value. Assumes nothing.
use Rattle.std.specs.Prelude.{List}
use Rattle.token.specs.Tokens.{Tok}
use Rattle.rules.specs.Limits.{max_depth}
use Rattle.rules.specs.Messages as message
use Rattle.rules.specs.Out.{Out, ◌then◌}
use Rattle.rules.specs.Skipping.{eof}
use Rattle.rules.specs.Keys.{key, simple_key}
use Rattle.rules.specs.Value.{value}
use Rattle.rules.specs.Document.{document}

abbrev pub parse_document : List Tok → Out
parse_document ts = document max_depth ts then eof

abbrev pub parse_key : List Tok → Out
parse_key ts = key message.invalid_key ts then eof

abbrev pub parse_simple_key : List Tok → Out
parse_simple_key ts = simple_key message.invalid_key ts then eof

abbrev pub parse_value : List Tok → Out
parse_value ts = value max_depth ts then eof

pub data Entry : Type 0 where
  document_entry key_entry simple_key_entry value_entry : Entry

abbrev pub parse : Entry → List Tok → Out
parse document_entry ts = parse_document ts
parse key_entry ts = parse_key ts
parse simple_key_entry ts = parse_simple_key ts
parse value_entry ts = parse_value ts
