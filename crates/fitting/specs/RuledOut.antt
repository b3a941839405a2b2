-- What the definitions of demand 3 rule out: an example for each, refuted by a function of src/ruled_out.rt. Assumes nothing.
use Rattle.std.specs.Prelude.{ℕ, List, [], ◌∷◌}
use Rattle.token.specs.declared.kind.Kind.TheVariants.{Dot, Equals, LeftSquareBracket, RightSquareBracket, MlBasicString, Atom, Eof}
use Rattle.token.specs.Tokens.{Tok, tok}

-- two Whitespace events, with a place between them that no event has
abbrev pub with_gap : List (List ℕ)
with_gap = (14 ∷ 0 ∷ 0 ∷ 1 ∷ []) ∷ (14 ∷ 0 ∷ 2 ∷ 3 ∷ []) ∷ []

-- `[}`: an array is opened and an inline table closed
abbrev pub crossing : List (List ℕ)
crossing = (10 ∷ 0 ∷ 0 ∷ 1 ∷ []) ∷ (13 ∷ 0 ∷ 1 ∷ 2 ∷ []) ∷ []

-- `abc=1`; the same bytes cut as `a.b=1` is, with a key of three tokens; and the events of the first
abbrev pub after_key : List Tok
after_key = tok Equals 3 4 ∷ tok Atom 4 5 ∷ tok Eof 5 5 ∷ []

abbrev pub key_whole : List Tok
key_whole = tok Atom 0 3 ∷ after_key

abbrev pub key_cut : List Tok
key_cut = tok Atom 0 1 ∷ tok Dot 1 2 ∷ tok Atom 2 3 ∷ after_key

abbrev pub key_events : List (List ℕ)
key_events = (5 ∷ 0 ∷ 0 ∷ 3 ∷ []) ∷ (7 ∷ 0 ∷ 3 ∷ 4 ∷ []) ∷ (8 ∷ 0 ∷ 4 ∷ 5 ∷ []) ∷ []

-- `a=`: a pair without a value
abbrev pub without_value : List Tok
without_value = tok Atom 0 1 ∷ tok Equals 1 2 ∷ tok Eof 2 2 ∷ []

-- `[""""""]`: a header whose key is a multi-line string, the shortest list with such a key
abbrev pub multi_line_header : List Tok
multi_line_header = tok LeftSquareBracket 0 1 ∷ tok MlBasicString 1 7 ∷ tok RightSquareBracket 7 8 ∷ tok Eof 8 8 ∷ []
