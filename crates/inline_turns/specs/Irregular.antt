-- A turn in an inline table at a token that was read already. Assumes nothing.
use Rattle.std.specs.Prelude.{List, [], ◌∷◌, ℕ}
use denote.Enum.Declared.{tag_of}
use types.Run.{OneOf}
use Rattle.token.specs.Tokens.{Good, Took, tokens_at}
use Rattle.token.specs.declared.cursor.Token.{Token}
use Rattle.token.specs.declared.cursor.Cursor.{Cursor}
use Rattle.rules.specs.declared.inline_table.Action.{Action}
use Rattle.rules.specs.declared.inline_table.Progress.{Progress}
use Rattle.rules.specs.contracts.inline_table.Action as action
use Rattle.rules.specs.Out.{Place}
use Rattle.rules.specs.InlineTable.{inline_table_turn}
use Rattle.output.specs.Pour.{Bufs}
use Rattle.array_parts.specs.Turning.{Turned}
use Rattle.array_parts.specs.declared.turn.StateTurn.{StateTurn}

-- the token t was read, just before the cursor d
pub record Read (s : List ℕ) (t : Token) (d : Cursor) : Type 0 where
  pub from : Cursor
  pub good : Good s from
  pub took : Took s from t d

-- the actions that report something, by their places in the enum
abbrev pub irregular : List ℕ
irregular = 3 ∷ 5 ∷ 6 ∷ 8 ∷ 9 ∷ 10 ∷ 11 ∷ 12 ∷ 13 ∷ 18 ∷ 19 ∷ 22 ∷ 23 ∷ []

abbrev pub Irregular : Action → Type 0
Irregular x = OneOf irregular (tag_of action.the_type x)

-- a turn at the token t, which was read just before d: wherever it was read, the table's turn from there
abbrev pub TurnsAt : List ℕ → Place → Token → Cursor → Progress → Bufs → List ℕ → List ℕ → StateTurn Progress → Type 0
TurnsAt s head t d p o a b r = (c : Cursor) (opened : ℕ) → Took s c t d → Turned Progress s (λ nest loop. inline_table_turn head opened nest loop p (tokens_at s c)) c o a b r.turn.cur r.turn.n r.state r.turn.next
