-- The tokens of every text have one Eof, the last, and no two Whitespace in a row. Proved; nothing here needs to be believed.
use Rattle.std.specs.Prelude.{◌≡◌, refl, Bool, true, false, cond, not, List, [], ◌∷◌, ℕ, zero, suc, ◌+◌, ◌≤◌, drop}
use Rattle.std.proofs.Common.{ap, true≢false, arith}
use Rattle.std.proofs.lemmas.Bool.{false≢true}
use Rattle.token.specs.declared.kind.Kind.{Kind}
use Rattle.token.specs.declared.kind.Kind.TheVariants.{Whitespace, Eof, LiteralString, BasicString, MlLiteralString, MlBasicString}
use Rattle.token.specs.Kinds.{number_of}
use Rattle.token.specs.Tokens.{Tok, tok}
use Rattle.fitting.specs.Premises.{OneEofLast, only_eof, before_eof, NoAdjacentWhitespace, one_token, not_both, Regular}
use Rattle.places.specs.Places.{starts_with}
use Rattle.scan.specs.declared.start.Start.{Start}
use Rattle.scan.specs.Bytes.{apostrophe, quotation_mark}
use Rattle.scan.specs.Lexer.{start_of, wschar, ends_whitespace, until, three_of, Piece, process_token, piece_of, lexer, tokens_of, base_of}

-- the two kinds of string
by_three : (P : Piece → Type 0) (t : Bool) (x y : Piece) → P x → P y → P (cond t x y)
by_three P true x y p q = p
by_three P false x y p q = q

-- no Eof
Numbered : Piece → Type 0
Numbered x = number_of x.kind ≤ 15

numbered : (x : Start) (b : ℕ) (bs : List ℕ) → Numbered (process_token x b bs)
unfolding Numbered
numbered Start.Dot b bs = omega arith
numbered Start.Equals b bs = omega arith
numbered Start.Comma b bs = omega arith
numbered Start.LeftSquareBracket b bs = omega arith
numbered Start.RightSquareBracket b bs = omega arith
numbered Start.LeftCurlyBracket b bs = omega arith
numbered Start.RightCurlyBracket b bs = omega arith
numbered Start.Wschar b bs = omega arith
numbered Start.CommentStartSymbol b bs = omega arith
numbered Start.CarriageReturn b bs = omega arith
numbered Start.LineFeed b bs = omega arith
numbered Start.Apostrophe b bs = by_three Numbered (starts_with (three_of apostrophe) (b ∷ bs)) _ _ (omega arith) (omega arith)
numbered Start.QuotationMark b bs = by_three Numbered (starts_with (three_of quotation_mark) (b ∷ bs)) _ _ (omega arith) (omega arith)
numbered Start.Other b bs = omega arith

no_eof : (x : Start) (b : ℕ) (bs : List ℕ) → (process_token x b bs).kind ≡ Eof → ⊥
unfolding Numbered
no_eof x b bs e = omega (arith, numbered x b bs, ap number_of e)

pub one_eof : (m p : ℕ) (bs : List ℕ) → OneEofLast (lexer m p bs)
unfolding lexer
one_eof zero p [] = only_eof
one_eof (suc m) p [] = only_eof
one_eof zero p (b ∷ bs) = before_eof (no_eof (start_of b) b bs) (one_eof (piece_of b bs).more (p + suc (piece_of b bs).more) bs)
one_eof (suc m) p (b ∷ bs) = one_eof m p bs

-- a list that does not start with Whitespace
data Solid : List Tok → Type 0 where
  solid : {k : Kind} {a b : ℕ} {ts : List Tok} → (k ≡ Whitespace → ⊥) → Solid (tok k a b ∷ ts)

NotWhitespace : Piece → Type 0
NotWhitespace x = x.kind ≡ Whitespace → ⊥

other : (k : Kind) → (number_of k ≡ 8 → ⊥) → k ≡ Whitespace → ⊥
other k h e = h (ap number_of e)

not_whitespace : (x : Start) (b : ℕ) (bs : List ℕ) → wschar x ≡ false → NotWhitespace (process_token x b bs)
unfolding NotWhitespace
not_whitespace Start.Dot b bs e = other _ (λ z. omega (arith, z))
not_whitespace Start.Equals b bs e = other _ (λ z. omega (arith, z))
not_whitespace Start.Comma b bs e = other _ (λ z. omega (arith, z))
not_whitespace Start.LeftSquareBracket b bs e = other _ (λ z. omega (arith, z))
not_whitespace Start.RightSquareBracket b bs e = other _ (λ z. omega (arith, z))
not_whitespace Start.LeftCurlyBracket b bs e = other _ (λ z. omega (arith, z))
not_whitespace Start.RightCurlyBracket b bs e = other _ (λ z. omega (arith, z))
not_whitespace Start.Wschar b bs e = absurd (true≢false e)
not_whitespace Start.CommentStartSymbol b bs e = other _ (λ z. omega (arith, z))
not_whitespace Start.CarriageReturn b bs e = other _ (λ z. omega (arith, z))
not_whitespace Start.LineFeed b bs e = other _ (λ z. omega (arith, z))
not_whitespace Start.Apostrophe b bs e =
    by_three NotWhitespace (starts_with (three_of apostrophe) (b ∷ bs)) _ _ (other MlLiteralString (λ z. omega (arith, z))) (other LiteralString (λ z. omega (arith, z)))
not_whitespace Start.QuotationMark b bs e =
    by_three NotWhitespace (starts_with (three_of quotation_mark) (b ∷ bs)) _ _ (other MlBasicString (λ z. omega (arith, z))) (other BasicString (λ z. omega (arith, z)))
not_whitespace Start.Other b bs e = other _ (λ z. omega (arith, z))

-- behind whitespace
behind_blank : (p : ℕ) (bs : List ℕ) → Solid (lexer (until ends_whitespace bs) p bs)
unfolding lexer until NotWhitespace
behind_blank p [] = solid (other Eof (λ z. omega (arith, z)))
behind_blank p (b ∷ bs) = by_blank (wschar (start_of b)) refl (behind_blank p bs)
  where
    by_blank : (t : Bool) → wschar (start_of b) ≡ t → Solid (lexer (until ends_whitespace bs) p bs) → Solid (lexer (cond (not t) 0 (suc (until ends_whitespace bs))) p (b ∷ bs))
    by_blank true e x = x
    by_blank false e x = solid (not_whitespace (start_of b) b bs e)

-- whatever is Whitespace
behind : (x : Start) (b : ℕ) (bs : List ℕ) (p : ℕ) → (process_token x b bs).kind ≡ Whitespace → (t : Bool) → wschar x ≡ t → Solid (lexer (process_token x b bs).more p bs)
unfolding NotWhitespace
behind x b bs p e false q = absurd (not_whitespace x b bs q e)
behind Start.Wschar b bs p e true q = behind_blank p bs
behind Start.Dot b bs p e true q = absurd (false≢true q)
behind Start.Equals b bs p e true q = absurd (false≢true q)
behind Start.Comma b bs p e true q = absurd (false≢true q)
behind Start.LeftSquareBracket b bs p e true q = absurd (false≢true q)
behind Start.RightSquareBracket b bs p e true q = absurd (false≢true q)
behind Start.LeftCurlyBracket b bs p e true q = absurd (false≢true q)
behind Start.RightCurlyBracket b bs p e true q = absurd (false≢true q)
behind Start.CommentStartSymbol b bs p e true q = absurd (false≢true q)
behind Start.CarriageReturn b bs p e true q = absurd (false≢true q)
behind Start.LineFeed b bs p e true q = absurd (false≢true q)
behind Start.Apostrophe b bs p e true q = absurd (false≢true q)
behind Start.QuotationMark b bs p e true q = absurd (false≢true q)
behind Start.Other b bs p e true q = absurd (false≢true q)

first_solid : {k : Kind} {a b : ℕ} {ts : List Tok} → Solid (tok k a b ∷ ts) → k ≡ Whitespace → ⊥
first_solid (solid h) = h

apart_on : (k : Kind) (a b : ℕ) (ts : List Tok) → (k ≡ Whitespace → Solid ts) → NoAdjacentWhitespace ts → NoAdjacentWhitespace (tok k a b ∷ ts)
apart_on k a b [] h x = one_token
apart_on k a b (tok l c d ∷ ts) h x = not_both (λ p q. first_solid (h p) q) x

pub apart : (m p : ℕ) (bs : List ℕ) → NoAdjacentWhitespace (lexer m p bs)
unfolding lexer
apart zero p [] = one_token
apart (suc m) p [] = one_token
apart zero p (b ∷ bs) = apart_on _ _ _ _ (λ e. behind (start_of b) b bs _ e (wschar (start_of b)) refl) (apart (piece_of b bs).more (p + suc (piece_of b bs).more) bs)
apart (suc m) p (b ∷ bs) = apart m p bs

pub text_regular : (text : List ℕ) → Regular (tokens_of text)
unfolding tokens_of
text_regular text = record { ends = one_eof 0 (base_of text) (drop (base_of text) text); apart = apart 0 (base_of text) (drop (base_of text) text) }
