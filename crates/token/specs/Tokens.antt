-- The tokens that record bytes stand for, from a cursor on; and a cursor's promises in their words. Assumes nothing.
use Rattle.std.specs.Prelude.{◌≡◌, Bool, false, List, [], ◌∷◌, ℕ, Option, Some, None, zero, suc, ◌+◌, ◌-◌, ◌<◌, ◌≤◌, eqb}
use Rattle.token.specs.declared.kind.Kind.{Kind}
use Rattle.token.specs.declared.cursor.Token.{Token}
use Rattle.token.specs.declared.cursor.Cursor.{Cursor}
use Rattle.token.specs.Limits.{max_end}
use Rattle.token.specs.Kinds.{number_of}
use Rattle.token.specs.Records.{count, length_at, kind_at, start_at}

-- a token as the rules see it: kind, start, end
pub data Tok : Type 0 where
  tok : Kind → ℕ → ℕ → Tok

-- n records from record i on, which starts at p
unfoldable pub tokens_from : ℕ → List ℕ → ℕ → ℕ → List Tok
tokens_from zero s i p = []
tokens_from (suc n) s i p = tok (kind_at s i) p (p + length_at s i) ∷ tokens_from n s (suc i) (p + length_at s i)

-- all tokens of the records s, the first of which starts at base
unfoldable pub all_tokens : List ℕ → ℕ → List Tok
all_tokens s base = tokens_from (count s) s 0 base

-- the tokens from the cursor on
unfoldable pub tokens_at : List ℕ → Cursor → List Tok
tokens_at s c = tokens_from (count s - c.at) s c.at c.place

-- the cursor's fields
pub record At (c : Cursor) (b i p : ℕ) : Type 0 where
  pub base : c.base ≡ b
  pub at : c.at ≡ i
  pub place : c.place ≡ p

-- the cursor stands at a record, or at the end, of a list whose text ends within the limit
pub record Good (s : List ℕ) (c : Cursor) : Type 0 where
  pub low : c.at ≤ count s
  pub here : c.place ≡ start_at s c.base c.at
  pub most : start_at s c.base (count s) ≤ max_end

-- the token t was read at c, and d is past it
pub record Took (s : List ℕ) (c : Cursor) (t : Token) (d : Cursor) : Type 0 where
  pub seen : tokens_at s c ≡ tok t.kind t.start t.end ∷ tokens_at s d
  pub left : c.at < count s
  pub on : d.at ≡ c.at + 1
  pub base : d.base ≡ c.base
  pub good : Good s d

-- `next`: a token that was read, or no token is left
abbrev pub Next : List ℕ → Cursor → Option (Token × Cursor) → Type 0
Next s c (Some (t, d)) = Took s c t d
Next s c None = tokens_at s c ≡ []

-- `peek`: the same without the cursor past it
pub record Sees (s : List ℕ) (c : Cursor) (t : Token) : Type 0 where
  pub past : Cursor
  pub took : Took s c t past

abbrev pub Peek : List ℕ → Cursor → Option Token → Type 0
Peek s c (Some t) = Sees s c t
Peek s c None = tokens_at s c ≡ []

-- does the list start with a token of the kind?
abbrev pub starts_with : Kind → List Tok → Bool
starts_with k [] = false
starts_with k (tok j a b ∷ ts) = eqb (number_of j) (number_of k)

-- `next_token_if`: a token of the kind that was read, or the list does not start with one
abbrev pub NextIf : List ℕ → Cursor → Kind → Option (Token × Cursor) → Type 0
NextIf s c k (Some (t, d)) = (t.kind ≡ k) × Took s c t d
NextIf s c k None = starts_with k (tokens_at s c) ≡ false

-- `back`: d is one record before c
pub record Back (s : List ℕ) (c d : Cursor) : Type 0 where
  pub on : d.at + 1 ≡ c.at
  pub base : d.base ≡ c.base
  pub good : Good s d
