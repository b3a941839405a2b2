-- What is done in an inline table where one event or report is not all: clauses of `inline_table_step` up to where the loop goes on.
-- Assumes nothing.
use Rattle.std.specs.Prelude.{Bool, List, [], ◌∷◌, ◌++◌, ℕ}
use Rattle.token.specs.declared.kind.Kind.{Kind}
use Rattle.token.specs.Tokens.{Tok, tok}
use Rattle.rules.specs.declared.inline_table.State.{State}
use Rattle.rules.specs.declared.event.Encoding.{Encoding}
use Rattle.rules.specs.declared.skipping.Bracket.{Bracket}
use Rattle.rules.specs.Out.{Place, span, before, Item, report, Out, ◌▹◌, ◌▸◌}
use Rattle.rules.specs.Messages as message
use Rattle.rules.specs.Expected as expected
use Rattle.rules.specs.Receiver as receiver
use Rattle.rules.specs.Skipping.{on_comment, ignore_to_value_close}
use Rattle.rules.specs.Keys.{opt_dot_keys}
use Rattle.rules.specs.Scalar.{on_scalar}
use Rattle.rules.specs.InlineTable.{wanted, refused, trailing, encoding_at}

-- the token a..b of kind k in the table that was opened at `head`, in a state; ts are the tokens behind it
abbrev pub comment_out : Place → ℕ → ℕ → List Tok → Out
comment_out head a b ts = report message.comment_in_inline_table expected.nothing head (span a b) ▹ on_comment a b ts

abbrev pub newline_items : Place → ℕ → ℕ → List Item
newline_items head a b = report message.newline_in_inline_table expected.nothing head (span a b) ∷ receiver.newline a b ∷ []

abbrev pub eof_items : Place → ℕ → ℕ → List Item
eof_items head a b = report message.unclosed_inline_table expected.close_curly head (span a b) ∷ receiver.inline_table_close a a ∷ []

abbrev pub empty_key_items : ℕ → ℕ → List Item
empty_key_items a b = receiver.simple_key Encoding.None a a ∷ receiver.key_val_sep a b ∷ []

abbrev pub keyless_out : Bracket → State → Place → ℕ → ℕ → List Tok → Out
keyless_out bracket st head a b ts = refused message.missing_key_in_inline_table st head a b ▸ ignore_to_value_close bracket ts

abbrev pub unassigned_out : Kind → State → Place → ℕ → ℕ → List Tok → Out
unassigned_out k st head a b ts = report message.missing_assignment (wanted st) head (before a b) ▹ on_scalar k a b ts

abbrev pub key_out : Kind → State → Place → ℕ → ℕ → List Tok → Out
key_out k st head a b ts = report message.missing_comma_in_inline_table (wanted st) head (before a b) ▹ receiver.simple_key (encoding_at k) a b ▹ opt_dot_keys ts

abbrev pub dot_out : Kind → State → Place → ℕ → ℕ → List Tok → Out
dot_out k st head a b ts = report message.missing_comma_in_inline_table (wanted st) head (before a b) ▹ receiver.simple_key Encoding.None a a ▹ opt_dot_keys (tok k a b ∷ ts)

abbrev pub close_items : Bool → State → Place → ℕ → ℕ → ℕ → ℕ → List Item
close_items empty st head opened a b left = trailing empty st head opened a left ++ (receiver.inline_table_close a b ∷ [])
