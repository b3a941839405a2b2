-- Inline tables: one turn of on_inline_table_open's loop, four states against sixteen kinds of token. Assumes nothing.
use Rattle.std.specs.Prelude.{ℕ, suc, ◌-◌, Bool, true, false, List, [], ◌∷◌, length, get_or}
use Rattle.token.specs.declared.kind.Kind.{Kind}
use Rattle.token.specs.Kinds.{number_of}
use Rattle.token.specs.Tokens.{Tok, tok}
use Rattle.rules.specs.declared.event.Encoding.{Encoding}
use Rattle.rules.specs.declared.skipping.Bracket.{Bracket}
use Rattle.rules.specs.declared.keys.InKey.{InKey}
use Rattle.rules.specs.declared.inline_table.State.{State}
use Rattle.rules.specs.declared.inline_table.Progress.{Progress}
use Rattle.rules.specs.declared.inline_table.Action.{Action}
use Rattle.rules.specs.declared.inline_table.Action.TheVariants as A
use Rattle.rules.specs.Out.{Place, span, before, after_found, Item, report, trailing_comma, Out, done, ◌▹◌, ◌▸◌, ◌then◌}
use Rattle.rules.specs.Messages as message
use Rattle.rules.specs.Expected as expected
use Rattle.rules.specs.Receiver as receiver
use Rattle.rules.specs.WithoutOpen.{without_open}
use Rattle.rules.specs.Skipping.{on_comment, ignore_to_value_close}
use Rattle.rules.specs.Keys.{in_key, last_significant, opt_dot_keys}
use Rattle.rules.specs.Scalar.{on_scalar}
use Rattle.rules.specs.Array.{Nest}

-- the table: a row a state; the columns are Dot, Equals, Comma, `[`, `]`, `{`, `}`, Whitespace, Comment, Newline, the four strings, Atom, Eof
abbrev pub actions : State → List Action
actions State.NeedsKey =
    A.DotKey ∷ A.EmptyKey ∷ A.ExtraComma ∷ A.KeylessArray ∷ A.InvalidElement ∷ A.KeylessTable ∷ A.Close ∷ A.Whitespace ∷ A.Comment ∷ A.Newline ∷ A.Key ∷ A.Key ∷ A.Key ∷ A.Key ∷ A.Key ∷ A.Eof ∷ []
actions State.NeedsEquals =
    A.UnassignedScalar ∷ A.KeyValSep ∷ A.ExtraComma ∷ A.UnassignedArray ∷ A.InvalidElement ∷ A.UnassignedTable ∷ A.Close ∷ A.Whitespace ∷ A.Comment ∷ A.Newline ∷ A.UnassignedScalar ∷ A.UnassignedScalar ∷ A.UnassignedScalar ∷ A.UnassignedScalar ∷ A.UnassignedScalar ∷ A.Eof ∷ []
actions State.NeedsValue =
    A.Scalar ∷ A.ExtraAssignment ∷ A.ExtraComma ∷ A.Array ∷ A.ArrayWithoutOpen ∷ A.Table ∷ A.Close ∷ A.Whitespace ∷ A.Comment ∷ A.Newline ∷ A.Scalar ∷ A.Scalar ∷ A.Scalar ∷ A.Scalar ∷ A.Scalar ∷ A.Eof ∷ []
actions State.NeedsComma =
    A.DotKeyWithoutComma ∷ A.ExtraAssignment ∷ A.ValueSep ∷ A.KeylessArray ∷ A.InvalidElement ∷ A.KeylessTable ∷ A.Close ∷ A.Whitespace ∷ A.Comment ∷ A.Newline ∷ A.KeyWithoutComma ∷ A.KeyWithoutComma ∷ A.KeyWithoutComma ∷ A.KeyWithoutComma ∷ A.KeyWithoutComma ∷ A.Eof ∷ []

abbrev pub action_of : State → Kind → Action
action_of st k = get_or (actions st) (number_of k - 1) A.Eof

-- what is wanted in a state
abbrev pub wanted : State → ℕ
wanted State.NeedsKey = expected.a_key
wanted State.NeedsEquals = expected.equals
wanted State.NeedsValue = expected.a_value
wanted State.NeedsComma = expected.comma

abbrev pub progress : State → Bool → Progress
progress st empty = record { state = st; empty = empty }

-- the encoding of a token that is a key
abbrev pub encoding_by : InKey → Encoding
encoding_by (InKey.Part e) = e
encoding_by InKey.Whitespace = Encoding.None
encoding_by InKey.Dot = Encoding.None
encoding_by InKey.Other = Encoding.None

abbrev pub encoding_at : Kind → Encoding
encoding_at k = encoding_by (in_key k)

-- a token a..b that the state does not want: a report, and an error event
abbrev pub refused : ℕ → State → Place → ℕ → ℕ → List Item
refused m st head a b = report m (wanted st) head (before a b) ∷ receiver.error a b ∷ []

-- a `}` at a, with `left` tokens left from it on, where something was read and no comma is wanted: the nearest earlier Comma is to
-- blame, else the place before the `}`
abbrev pub trailing : Bool → State → Place → ℕ → ℕ → ℕ → List Item
trailing true st head opened a left = []
trailing false State.NeedsKey head opened a left = trailing_comma head opened left a ∷ []
trailing false State.NeedsEquals head opened a left = trailing_comma head opened left a ∷ []
trailing false State.NeedsValue head opened a left = trailing_comma head opened left a ∷ []
trailing false State.NeedsComma head opened a left = []

-- the token at a..b in the inline table that was opened at `head`, with `opened` tokens left behind its `{`
abbrev pub inline_table_step : Action → Kind → Place → ℕ → Nest → (Progress → List Tok → Out) → State → Bool → ℕ → ℕ → List Tok → Out
inline_table_step A.Comment k head opened nest loop st empty a b ts = report message.comment_in_inline_table expected.nothing head (span a b) ▹ (on_comment a b ts then loop (progress st empty))
inline_table_step A.Whitespace k head opened nest loop st empty a b ts = receiver.whitespace a b ▹ loop (progress st empty) ts
inline_table_step A.Newline k head opened nest loop st empty a b ts = report message.newline_in_inline_table expected.nothing head (span a b) ▹ receiver.newline a b ▹ loop (progress st empty) ts
inline_table_step A.Eof k head opened nest loop st empty a b ts = report message.unclosed_inline_table expected.close_curly head (span a b) ▹ receiver.inline_table_close a a ▹ done ts
inline_table_step A.ExtraComma k head opened nest loop st empty a b ts = refused message.extra_comma_in_inline_table st head a b ▸ loop (progress st empty) ts
inline_table_step A.ValueSep k head opened nest loop st empty a b ts = receiver.value_sep a b ▹ loop (progress State.NeedsKey empty) ts
inline_table_step A.EmptyKey k head opened nest loop st empty a b ts = receiver.simple_key Encoding.None a a ▹ receiver.key_val_sep a b ▹ loop (progress State.NeedsValue false) ts
inline_table_step A.KeyValSep k head opened nest loop st empty a b ts = receiver.key_val_sep a b ▹ loop (progress State.NeedsValue false) ts
inline_table_step A.ExtraAssignment k head opened nest loop st empty a b ts = refused message.extra_assignment st head a b ▸ loop (progress st empty) ts
inline_table_step A.KeylessTable k head opened nest loop st empty a b ts = refused message.missing_key_in_inline_table st head a b ▸ (ignore_to_value_close Bracket.Curly ts then loop (progress st empty))
inline_table_step A.UnassignedTable k head opened nest loop st empty a b ts = report message.missing_assignment (wanted st) head (before a b) ▹ (nest Bracket.Curly a b ts then loop (progress State.NeedsComma false))
inline_table_step A.Table k head opened nest loop st empty a b ts = nest Bracket.Curly a b ts then loop (progress State.NeedsComma false)
inline_table_step A.Close k head opened nest loop st empty a b ts = trailing empty st head opened a (suc (length ts)) ▸ receiver.inline_table_close a b ▹ done ts
inline_table_step A.KeylessArray k head opened nest loop st empty a b ts = refused message.missing_key_in_inline_table st head a b ▸ (ignore_to_value_close Bracket.Square ts then loop (progress st empty))
inline_table_step A.UnassignedArray k head opened nest loop st empty a b ts = report message.missing_assignment (wanted st) head (before a b) ▹ (nest Bracket.Square a b ts then loop (progress State.NeedsComma false))
inline_table_step A.Array k head opened nest loop st empty a b ts = nest Bracket.Square a b ts then loop (progress State.NeedsComma false)
inline_table_step A.InvalidElement k head opened nest loop st empty a b ts = refused message.invalid_inline_table_element st head a b ▸ loop (progress st empty) ts
inline_table_step A.ArrayWithoutOpen k head opened nest loop st empty a b ts = without_open Bracket.Square a b ▸ loop (progress State.NeedsComma false) ts
inline_table_step A.DotKey k head opened nest loop st empty a b ts = receiver.simple_key Encoding.None a a ▹ (opt_dot_keys (tok k a b ∷ ts) then loop (progress State.NeedsEquals false))
inline_table_step A.Key k head opened nest loop st empty a b ts = receiver.simple_key (encoding_at k) a b ▹ (opt_dot_keys ts then loop (progress State.NeedsEquals false))
inline_table_step A.UnassignedScalar k head opened nest loop st empty a b ts = report message.missing_assignment (wanted st) head (before a b) ▹ (on_scalar k a b ts then loop (progress State.NeedsComma false))
inline_table_step A.Scalar k head opened nest loop st empty a b ts = on_scalar k a b ts then loop (progress State.NeedsComma false)
inline_table_step A.DotKeyWithoutComma k head opened nest loop st empty a b ts = report message.missing_comma_in_inline_table (wanted st) head (before a b) ▹ receiver.simple_key Encoding.None a a ▹ (opt_dot_keys (tok k a b ∷ ts) then loop (progress State.NeedsEquals false))
inline_table_step A.KeyWithoutComma k head opened nest loop st empty a b ts = report message.missing_comma_in_inline_table (wanted st) head (before a b) ▹ receiver.simple_key (encoding_at k) a b ▹ (opt_dot_keys ts then loop (progress State.NeedsEquals false))

abbrev pub inline_table_turn : Place → ℕ → Nest → (Progress → List Tok → Out) → Progress → List Tok → Out
inline_table_turn head opened nest loop p [] = report message.unclosed_inline_table expected.close_curly head (after_found last_significant) ▹ receiver.array_close_after last_significant ▹ done []
inline_table_turn head opened nest loop p (tok k a b ∷ ts) = inline_table_step (action_of p.state k) k head opened nest loop p.state p.empty a b ts
