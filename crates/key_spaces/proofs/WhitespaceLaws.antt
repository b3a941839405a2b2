-- The rule of optional whitespace, a token at a time. Proved; nothing here needs to be believed.
use mathlib.Core.Path.{◌≡◌, refl, ap, sym, ◌∙◌}
use mathlib.Core.Bool.{false, false≢true}
use mathlib.Core.List.{List, [], ◌∷◌}
use Prim.Native.Nat.{ℕ}
use Rattle.token.specs.Tokens.{Tok, tok, tokens_at, Took, starts_with}
use Rattle.token.specs.declared.kind.Kind.{Kind}
use Rattle.token.specs.declared.kind.Kind.TheVariants.{Dot, Equals, Comma, LeftSquareBracket, RightSquareBracket, LeftCurlyBracket, RightCurlyBracket, Whitespace, Comment, Newline, LiteralString, BasicString, MlLiteralString, MlBasicString, Atom, Eof}
use Rattle.token.specs.declared.cursor.Token.{Token}
use Rattle.token.specs.declared.cursor.Cursor.{Cursor}
use Rattle.rules.specs.Out.{Out, done, ◌▹◌}
use Rattle.rules.specs.Receiver as receiver
use Rattle.rules.specs.Keys.{opt_whitespace}
use Rattle.output.specs.Pour.{Bufs}
use Rattle.output.specs.Walks.{run}

-- no whitespace at the start of the list
no_space : (k : Kind) (a b : ℕ) (ts : List Tok) → starts_with Whitespace (tok k a b ∷ ts) ≡ false → opt_whitespace (tok k a b ∷ ts) ≡ done (tok k a b ∷ ts)
no_space Dot a b ts e = refl
no_space Equals a b ts e = refl
no_space Comma a b ts e = refl
no_space LeftSquareBracket a b ts e = refl
no_space RightSquareBracket a b ts e = refl
no_space LeftCurlyBracket a b ts e = refl
no_space RightCurlyBracket a b ts e = refl
no_space Whitespace a b ts e = absurd (false≢true (sym e))
no_space Comment a b ts e = refl
no_space Newline a b ts e = refl
no_space LiteralString a b ts e = refl
no_space BasicString a b ts e = refl
no_space MlLiteralString a b ts e = refl
no_space MlBasicString a b ts e = refl
no_space Atom a b ts e = refl
no_space Eof a b ts e = refl

space_none : (ts : List Tok) → starts_with Whitespace ts ≡ false → opt_whitespace ts ≡ done ts
space_none [] e = refl
space_none (tok k a b ∷ ts) e = no_space k a b ts e

module _ (s : List ℕ) (c : Cursor) (all : List Tok) (o : Bufs) where
  pub space_out : starts_with Whitespace (tokens_at s c) ≡ false → run all (opt_whitespace (tokens_at s c)) o ≡ run all (done (tokens_at s c)) o
  space_out e = ap (λ (r : Out). run all r o) (space_none (tokens_at s c) e)

-- a whitespace at the start of the list
module _ (s : List ℕ) (c d : Cursor) (t : Token) where
  pub space_at : (t.kind ≡ Whitespace) × Took s c t d → (all : List Tok) (o : Bufs) → run all (opt_whitespace (tokens_at s c)) o ≡ run all (receiver.whitespace t.start t.end ▹ done (tokens_at s d)) o
  space_at k all o =
      ap (λ (ts : List Tok). run all (opt_whitespace ts) o) k.1.seen
      ∙ ap (λ (j : Kind). run all (opt_whitespace (tok j t.start t.end ∷ tokens_at s d)) o) k.0
