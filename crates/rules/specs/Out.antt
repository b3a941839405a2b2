-- What a rule answers: the items that are emitted, in order, and the tokens that are left. Assumes nothing.
use Rattle.std.specs.Prelude.{ℕ, List, [], ◌∷◌, ◌++◌}
use Rattle.token.specs.Tokens.{Tok}
use Rattle.token.specs.declared.cursor.Sought.{Sought}
use Rattle.rules.specs.declared.event.Event.{Event}

-- a look back: the nearest token that is sought before the last `left` tokens of the whole list, or else the span start..end
pub record Look : Type 0 where
  pub what : Sought
  pub left : ℕ
  pub start : ℕ
  pub end : ℕ

-- a place of a report: a span; the token that a look back finds; the empty span after it; from a number to its end.
-- What is looked for is found where items become words, with the whole list at hand.
pub data Place : Type 0 where
  span : ℕ → ℕ → Place
  found : Look → Place
  after_found : Look → Place
  up_to_found : ℕ → Look → Place

-- the empty span at the start of a..b, and the one at its end
abbrev pub before : ℕ → ℕ → Place
before a b = span a a

abbrev pub after : ℕ → ℕ → Place
after a b = span b b

-- an event over a span; an event of empty span after the token that a look back finds; an error report with message, what was
-- expected, context and unexpected; the report of a trailing comma in the inline table that was opened at `head`, with how many tokens
-- were left behind its `{`, how many are left from its `}` on, and where that starts; the refusal of one more level, with so many tokens
-- left: what follows it does not count
pub data Item : Type 0 where
  event : Event → ℕ → ℕ → Item
  event_after : Event → Look → Item
  report : ℕ → ℕ → Place → Place → Item
  trailing_comma : (head : Place) (opened left start : ℕ) → Item
  stop : ℕ → Item

pub record Out : Type 0 where
  pub items : List Item
  pub rest : List Tok

-- nothing more, these tokens are left
abbrev pub done : List Tok → Out
done ts = record { items = []; rest = ts }

-- emit first
infixr 60 ◌▹◌
abbrev pub ◌▹◌ : Item → Out → Out
i ▹ o = record { items = i ∷ o.items; rest = o.rest }

infixr 60 ◌▸◌
abbrev pub ◌▸◌ : List Item → Out → Out
is ▸ o = record { items = is ++ o.items; rest = o.rest }

-- on with the tokens that are left
infixl 55 ◌then◌
abbrev pub ◌then◌ : Out → (List Tok → Out) → Out
o then f = o.items ▸ f o.rest
