-- Lists that give the most, entry by entry, for every number of tokens. Each is the tokens of a text of as many bytes: a token a byte.
-- Assumes nothing.
use Rattle.std.specs.Prelude.{List, [], ◌∷◌, ℕ, zero, suc}
use Rattle.token.specs.declared.kind.Kind.{Kind}
use Rattle.token.specs.declared.kind.Kind.TheVariants.{Dot, Equals, LeftSquareBracket, LeftCurlyBracket, RightCurlyBracket, Comment, Newline, Atom}
use Rattle.token.specs.Tokens.{Tok, tok}
use Rattle.rules.specs.Entries.{Entry, document_entry, key_entry, simple_key_entry, value_entry}

-- n tokens of a kind from the place p on
abbrev pub run : Kind → ℕ → ℕ → List Tok
run k zero p = []
run k (suc n) p = tok k p (suc p) ∷ run k n (suc p)

-- `[` and n times `}`
abbrev pub bracketed : ℕ → ℕ → List Tok
bracketed n p = tok LeftSquareBracket p (suc p) ∷ run RightCurlyBracket n (suc p)

-- `#a` while more than three tokens are wanted, then a newline and `a`
abbrev pub commented : ℕ → ℕ → List Tok
commented zero p = []
commented (suc zero) p = tok Newline p (suc p) ∷ []
commented (suc (suc zero)) p = tok Newline p (suc p) ∷ run Atom 1 (suc p)
commented (suc (suc (suc zero))) p = tok Newline p (suc p) ∷ run Atom 2 (suc p)
commented (suc (suc (suc (suc n)))) p = tok Comment p (suc p) ∷ tok Atom (suc p) (suc (suc p)) ∷ commented (suc (suc n)) (suc (suc p))

-- the most events: up to three dots, then `=[}}..}`; dots; dots; nothing, `[`, `{.`, then `[}}..}`
abbrev pub eventful : Entry → ℕ → List Tok
eventful document_entry zero = []
eventful document_entry (suc zero) = run Dot 1 0
eventful document_entry (suc (suc zero)) = run Dot 2 0
eventful document_entry (suc (suc (suc zero))) = run Dot 3 0
eventful document_entry (suc (suc (suc (suc n)))) = tok Equals 0 1 ∷ bracketed (suc (suc n)) 1
eventful key_entry n = run Dot n 0
eventful simple_key_entry n = run Dot n 0
eventful value_entry zero = []
eventful value_entry (suc zero) = run LeftSquareBracket 1 0
eventful value_entry (suc (suc zero)) = tok LeftCurlyBracket 0 1 ∷ run Dot 1 1
eventful value_entry (suc (suc (suc n))) = bracketed (suc (suc n)) 0

-- the most errors: up to three `=`, then `=[}}..}`; dots; comments with content behind them; up to two `=`, then `[}}..}`
abbrev pub errorful : Entry → ℕ → List Tok
errorful document_entry zero = []
errorful document_entry (suc zero) = run Equals 1 0
errorful document_entry (suc (suc zero)) = run Equals 2 0
errorful document_entry (suc (suc (suc zero))) = run Equals 3 0
errorful document_entry (suc (suc (suc (suc n)))) = tok Equals 0 1 ∷ bracketed (suc (suc n)) 1
errorful key_entry n = run Dot n 0
errorful simple_key_entry n = commented n 0
errorful value_entry zero = []
errorful value_entry (suc zero) = run Equals 1 0
errorful value_entry (suc (suc zero)) = run Equals 2 0
errorful value_entry (suc (suc (suc n))) = bracketed (suc (suc n)) 0
