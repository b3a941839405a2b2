-- The line of a place, which an error says last. Assumes nothing.
use Rattle.std.specs.Prelude.{cond, List, [], ◌∷◌, ℕ, ◌+◌, eqb, leb}
use Rattle.token.specs.declared.kind.Kind.{Kind}
use Rattle.token.specs.declared.kind.Kind.TheVariants.{Newline}
use Rattle.token.specs.Kinds.{number_of}
use Rattle.token.specs.Tokens.{Tok, tok}

-- 1 for a Newline, 0 for every other kind
abbrev pub newlines : Kind → ℕ
newlines k = cond (eqb (number_of k) (number_of Newline)) 1 0

-- how many of the tokens are Newlines that end at or before a place
abbrev pub newlines_by : ℕ → List Tok → ℕ
newlines_by at [] = 0
newlines_by at (tok k start end ∷ ts) = cond (leb end at) (newlines k) 0 + newlines_by at ts

-- the line of a place: the number of Newline tokens that end at or before it, plus one
unfoldable pub line_of : List Tok → ℕ → ℕ
line_of all at = newlines_by at all + 1
