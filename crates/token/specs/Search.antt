-- Looking back for a token. Assumes nothing.
use Rattle.std.specs.Prelude.{Bool, true, false, cond, List, [], ◌∷◌, ℕ, take, drop}
use Rattle.token.specs.declared.kind.Kind.{Kind}
use Rattle.token.specs.declared.kind.InSearch.{InSearch}
use Rattle.token.specs.declared.span.Span.{Span}
use Rattle.token.specs.declared.cursor.Sought.{Sought}
use Rattle.token.specs.Kinds.{in_search}
use Rattle.token.specs.Tokens.{Tok, tok}

abbrev pub stops_at : Sought → InSearch → Bool
stops_at Sought.Significant InSearch.Whitespace = false
stops_at Sought.Significant InSearch.Trivia = false
stops_at Sought.Significant InSearch.Comma = true
stops_at Sought.Significant InSearch.Other = true
stops_at Sought.Comma InSearch.Whitespace = false
stops_at Sought.Comma InSearch.Trivia = false
stops_at Sought.Comma InSearch.Comma = true
stops_at Sought.Comma InSearch.Other = false
stops_at Sought.Solid InSearch.Whitespace = false
stops_at Sought.Solid InSearch.Trivia = true
stops_at Sought.Solid InSearch.Comma = true
stops_at Sought.Solid InSearch.Other = true

-- is a token of the kind what the search looks for?
abbrev pub is_sought : Sought → Kind → Bool
is_sought what k = stops_at what (in_search k)

-- the last token of a list that is sought, or none; the list is what stands before the place that is looked back from
abbrev pub nearest : Sought → Span → List Tok → Span
nearest what none [] = none
nearest what none (tok k a b ∷ ts) = nearest what (cond (is_sought what k) (record { start = a; end = b }) none) ts

-- the same of the tokens before the record `past` and not before the record `first`; where `first` is 0, all that stand before `past` count
abbrev pub nearest_between : Sought → Span → ℕ → ℕ → List Tok → Span
nearest_between what none first past all = nearest what none (drop first (take past all))
