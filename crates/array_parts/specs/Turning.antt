-- One turn in an array or an inline table: what it promises, whatever the loop goes on to do and whatever brackets open. Assumes nothing.
use Rattle.std.specs.Prelude.{◌≡◌, List, [], ◌∷◌, ℕ, ◌+◌, ◌≤◌}
use Rattle.token.specs.Tokens.{Tok, all_tokens, tokens_at, Good}
use Rattle.token.specs.declared.cursor.Cursor.{Cursor}
use Rattle.rules.specs.declared.array.ArrayState.{ArrayState}
use Rattle.rules.specs.declared.skipping.Bracket.{Bracket}
use Rattle.rules.specs.Out.{Place, span, after_found, Item, report, Out, done, ◌then◌}
use Rattle.rules.specs.Messages as message
use Rattle.rules.specs.Expected as expected
use Rattle.rules.specs.Receiver as receiver
use Rattle.rules.specs.Keys.{last_significant}
use Rattle.rules.specs.Array.{Nest}
use Rattle.output.specs.declared.emitting.Counts.{Counts}
use Rattle.output.specs.Pour.{Bufs, bufs}
use Rattle.output.specs.Walks.{run}
use Rattle.array_parts.specs.declared.turn.Next.{Next}

-- the list is exhausted in what was opened at `head`
abbrev pub unclosed_items : ℕ → ℕ → Place → List Item
unclosed_items m x head = report m x head (after_found last_significant) ∷ receiver.array_close_after last_significant ∷ []

-- a comma: one too many where a value is wanted
abbrev pub comma_items : Place → ArrayState → ℕ → ℕ → List Item
comma_items head ArrayState.NeedsValue a b = report message.extra_comma_in_array expected.a_value head (span a b) ∷ receiver.error a b ∷ []
comma_items head ArrayState.NeedsComma a b = receiver.value_sep a b ∷ []

-- what is done after a turn
abbrev pub go_on : {S : Type 0} → Next → Nest → (S → List Tok → Out) → S → List Tok → Out
go_on Next.Again nest loop w ts = loop w ts
go_on Next.Over nest loop w ts = done ts
go_on (Next.OpenArray t) nest loop w ts = nest Bracket.Square t.start t.end ts then loop w
go_on (Next.OpenTable t) nest loop w ts = nest Bracket.Curly t.start t.end ts then loop w

-- a turn that is not the last takes a token
abbrev pub Further : Next → Cursor → Cursor → Type 0
Further Next.Over c d = c.at ≤ d.at
Further Next.Again c d = c.at + 1 ≤ d.at
Further (Next.OpenArray t) c d = c.at + 1 ≤ d.at
Further (Next.OpenTable t) c d = c.at + 1 ≤ d.at

-- behind what a turn of an array opens, a comma is wanted
abbrev pub Wants : Next → ArrayState → Type 0
Wants Next.Over st = Unit {0}
Wants Next.Again st = Unit {0}
Wants (Next.OpenArray t) st = st ≡ ArrayState.NeedsComma
Wants (Next.OpenTable t) st = st ≡ ArrayState.NeedsComma

-- a turn by the rule from cursor c and buffers o: it left the cursor d, the buffers a and b, the counts n and the state w, and says what is next
pub record Turned (S : Type 0) (s : List ℕ) (rule : Nest → (S → List Tok → Out) → Out) (c : Cursor) (o : Bufs) (a b : List ℕ) (d : Cursor) (n : Counts) (w : S) (x : Next) : Type 0 where
  pub is : (base : ℕ) → c.base ≡ base → (nest : Nest) (loop : S → List Tok → Out) → run (all_tokens s base) (rule nest loop) o ≡ run (all_tokens s base) (go_on x nest loop w (tokens_at s d)) (bufs a b n)
  pub good : Good s d
  pub on : Further x c d
  pub base : d.base ≡ c.base
