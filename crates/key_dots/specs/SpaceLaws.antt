-- Laws of the start of opt_dot_keys: optional whitespace, then the loop over dots. Proved; nothing here needs to be believed.
use Rattle.std.specs.Prelude.{◌≡◌, refl, List, [], ◌∷◌, ℕ}
use Rattle.token.specs.Tokens.{Tok, tok, tokens_at}
use Rattle.token.specs.declared.kind.Kind.{Kind}
use Rattle.token.specs.declared.kind.Kind.TheVariants.{Dot, Equals, Comma, LeftSquareBracket, RightSquareBracket, LeftCurlyBracket, RightCurlyBracket, Whitespace, Comment, Newline, LiteralString, BasicString, MlLiteralString, MlBasicString, Atom, Eof}
use Rattle.token.specs.declared.cursor.Cursor.{Cursor}
use Rattle.rules.specs.Out.{◌then◌}
use Rattle.rules.specs.Keys.{opt_whitespace, opt_dot_keys, dot_keys, opt_dot_keys_valid, dot_keys_valid}
use Rattle.output.specs.declared.emitting.Walk.{Walk}
use Rattle.output.specs.Pour.{Bufs, bufs}
use Rattle.output.specs.Walks.{Goes}
use Rattle.output.specs.WalkLaws.{goes_on_lem, goes_as}

-- the rules
split_at : (k : Kind) (a b : ℕ) (ts : List Tok) → ((opt_whitespace (tok k a b ∷ ts) then dot_keys) ≡ opt_dot_keys (tok k a b ∷ ts)) × (dot_keys_valid (opt_whitespace (tok k a b ∷ ts)).rest ≡ opt_dot_keys_valid (tok k a b ∷ ts))
split_at Dot a b ts = (refl, refl)
split_at Equals a b ts = (refl, refl)
split_at Comma a b ts = (refl, refl)
split_at LeftSquareBracket a b ts = (refl, refl)
split_at RightSquareBracket a b ts = (refl, refl)
split_at LeftCurlyBracket a b ts = (refl, refl)
split_at RightCurlyBracket a b ts = (refl, refl)
split_at Whitespace a b ts = (refl, refl)
split_at Comment a b ts = (refl, refl)
split_at Newline a b ts = (refl, refl)
split_at LiteralString a b ts = (refl, refl)
split_at BasicString a b ts = (refl, refl)
split_at MlLiteralString a b ts = (refl, refl)
split_at MlBasicString a b ts = (refl, refl)
split_at Atom a b ts = (refl, refl)
split_at Eof a b ts = (refl, refl)

pub dots_split : (ts : List Tok) → ((opt_whitespace ts then dot_keys) ≡ opt_dot_keys ts) × (dot_keys_valid (opt_whitespace ts).rest ≡ opt_dot_keys_valid ts)
dots_split [] = (refl, refl)
dots_split (tok k a b ∷ ts) = split_at k a b ts

-- the walks
pub keys_from : {s : List ℕ} {c : Cursor} {o : Bufs} {a b a' b' : List ℕ} {w w' : Walk} → Goes s (opt_whitespace (tokens_at s c)) c o a b w → Goes s (dot_keys (tokens_at s w.cur)) w.cur (bufs a b w.n) a' b' w' → Goes s (opt_dot_keys (tokens_at s c)) c o a' b' w'
keys_from {s} {c} x y = goes_as (dots_split (tokens_at s c)).0 (goes_on_lem dot_keys x y)
