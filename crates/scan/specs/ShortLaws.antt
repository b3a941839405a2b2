-- Laws of the rule's tokens: they lie end to end, as long as their kinds allow, and end where the bytes do. Proved; nothing here needs to be believed.
use Rattle.std.specs.Prelude.{◌≡◌, refl, Bool, true, false, cond, List, [], ◌∷◌, ℕ, zero, suc, ◌+◌, ◌-◌, ◌≤◌, ◌<◌, length, drop, eqb}
use Rattle.std.proofs.Common.{subst, arith, length-drop}
use Rattle.token.specs.declared.kind.Kind.{Kind}
use Rattle.token.specs.Kinds.{width_of}
use Rattle.token.specs.Laid.{Spans, Laid, laid_none, laid_token, end_of}
use Rattle.places.specs.Places.{is_byte, peeks, starts_with}
use Rattle.scan.specs.declared.start.Start.{Start}
use Rattle.scan.specs.Bytes.{apostrophe, quotation_mark, line_feed}
use Rattle.scan.specs.Lexer.{start_of, until, three_of, up_to_two, takes_next, lex_literal_string, lex_basic_string, lex_ml_literal_string, lex_ml_basic_string, Piece, piece, process_token, piece_of, lexer}

-- the two kinds of string
by_three : (P : Piece → Type 0) (t : Bool) (x y : Piece) → P x → P y → P (cond t x y)
by_three P true x y p q = p
by_three P false x y p q = q

-- as long as the kind allows
SpansAt : ℕ → Piece → Type 0
SpansAt p x = Spans (width_of x.kind) p (p + suc x.more)

spans : (x : Start) (b : ℕ) (bs : List ℕ) (p : ℕ) → SpansAt p (process_token x b bs)
unfolding SpansAt
spans Start.Dot b bs p = omega arith
spans Start.Equals b bs p = omega arith
spans Start.Comma b bs p = omega arith
spans Start.LeftSquareBracket b bs p = omega arith
spans Start.RightSquareBracket b bs p = omega arith
spans Start.LeftCurlyBracket b bs p = omega arith
spans Start.RightCurlyBracket b bs p = omega arith
spans Start.Wschar b bs p = omega arith
spans Start.CommentStartSymbol b bs p = omega arith
spans Start.CarriageReturn b bs p = omega arith
spans Start.LineFeed b bs p = omega arith
spans Start.Apostrophe b bs p = by_three (SpansAt p) (starts_with (three_of apostrophe) (b ∷ bs)) _ _ (omega arith) (omega arith)
spans Start.QuotationMark b bs p = by_three (SpansAt p) (starts_with (three_of quotation_mark) (b ∷ bs)) _ _ (omega arith) (omega arith)
spans Start.Other b bs p = omega arith

pub laid : (m p : ℕ) (bs : List ℕ) → Laid p (lexer m p bs)
unfolding lexer SpansAt
laid zero p [] = laid_token refl laid_none
laid (suc m) p [] = laid_token refl laid_none
laid zero p (b ∷ bs) = laid_token (spans (start_of b) b bs p) (laid (piece_of b bs).more (p + suc (piece_of b bs).more) bs)
laid (suc m) p (b ∷ bs) = laid m p bs

-- no token goes beyond the text
cond_short : (t : Bool) (m n k : ℕ) → m ≤ k → n ≤ k → cond t m n ≤ k
cond_short true m n k h l = h
cond_short false m n k h l = l

until_short : (set : ℕ → Bool) (bs : List ℕ) → until set bs ≤ length bs
unfolding until
until_short set [] = omega arith
until_short set (b ∷ bs) = cond_short (set b) _ _ _ (omega arith) (omega (arith, until_short set bs))

peek_short : (q : ℕ) (n : ℕ) (bs : List ℕ) → (0 < length bs → n ≤ length bs) → cond (peeks (is_byte q) bs) n 0 ≤ length bs
unfolding peeks
peek_short q n [] h = omega arith
peek_short q n (b ∷ bs) h = cond_short (is_byte q b) n 0 _ (h (omega arith)) (omega arith)

literal_short : (bs : List ℕ) → lex_literal_string bs ≤ length bs
unfolding lex_literal_string
literal_short [] = omega arith
literal_short (b ∷ bs) =
    cond_short (eqb b apostrophe) _ _ _ (omega arith) (cond_short (eqb b line_feed) _ _ _ (omega arith) (omega (arith, literal_short bs)))

basic_short : (t : Bool) (bs : List ℕ) → lex_basic_string t bs ≤ length bs
unfolding lex_basic_string
basic_short true [] = omega arith
basic_short false [] = omega arith
basic_short true (b ∷ bs) = omega (arith, basic_short false bs)
basic_short false (b ∷ bs) =
    cond_short (eqb b quotation_mark) _ _ _ (omega arith) (cond_short (eqb b line_feed) _ _ _ (omega arith) (omega (arith, basic_short (takes_next b bs) bs)))

two_short : (q : ℕ) (bs : List ℕ) → up_to_two q bs ≤ length bs
unfolding peeks
two_short q [] = omega arith
two_short q (a ∷ []) = cond_short (is_byte q a) _ _ _ (omega arith) (omega arith)
two_short q (a ∷ b ∷ bs) = cond_short (is_byte q a) _ _ _ (cond_short (is_byte q b) _ _ _ (omega arith) (omega arith)) (omega arith)

-- three quotes are three bytes
three_short : (q n : ℕ) (bs : List ℕ) (m k : ℕ) → (3 ≤ length bs → n ≤ k) → m ≤ k → cond (starts_with (three_of q) bs) n m ≤ k
unfolding peeks
three_short q n [] m k h l = l
three_short q n (a ∷ []) m k h l = by_test (is_byte q a)
  where
    by_test : (t : Bool) → cond (cond t false false) n m ≤ k
    by_test true = l
    by_test false = l
three_short q n (a ∷ b ∷ []) m k h l = by_test (is_byte q a) (is_byte q b)
  where
    by_test : (t u : Bool) → cond (cond t (cond u false false) false) n m ≤ k
    by_test true true = l
    by_test true false = l
    by_test false u = l
three_short q n (a ∷ b ∷ d ∷ bs) m k h l = cond_short (starts_with (three_of q) (a ∷ b ∷ d ∷ bs)) n m k (h (omega arith)) l

closing_short : (q b : ℕ) (bs : List ℕ) (n : ℕ) → n ≤ length bs → cond (starts_with (three_of q) (b ∷ bs)) (3 + up_to_two q (drop 2 bs)) (suc n) ≤ suc (length bs)
closing_short q b bs n h = three_short q _ (b ∷ bs) (suc n) _ (λ l. omega (arith, l, two_short q (drop 2 bs), length-drop 2 bs)) (omega (arith, h))

ml_literal_short : (bs : List ℕ) → lex_ml_literal_string bs ≤ length bs
unfolding lex_ml_literal_string
ml_literal_short [] = omega arith
ml_literal_short (b ∷ bs) = closing_short apostrophe b bs _ (ml_literal_short bs)

ml_basic_short : (t : Bool) (bs : List ℕ) → lex_ml_basic_string t bs ≤ length bs
unfolding lex_ml_basic_string
ml_basic_short true [] = omega arith
ml_basic_short false [] = omega arith
ml_basic_short true (b ∷ bs) = omega (arith, ml_basic_short false bs)
ml_basic_short false (b ∷ bs) = closing_short quotation_mark b bs _ (ml_basic_short (takes_next b bs) bs)

-- the more of a string
string_short : (q b : ℕ) (bs : List ℕ) (j k : Kind) (m n : ℕ) → (2 ≤ length bs → m ≤ length bs) → n ≤ length bs → (cond (starts_with (three_of q) (b ∷ bs)) (piece j m) (piece k n)).more ≤ length bs
string_short q b bs j k m n h l = subst (λ (x : ℕ). x ≤ length bs) (more_of (starts_with (three_of q) (b ∷ bs))) (three_short q m (b ∷ bs) n _ (λ z. h (omega (arith, z))) l)
  where
    more_of : (t : Bool) → cond t m n ≡ (cond t (piece j m) (piece k n)).more
    more_of true = refl
    more_of false = refl

pub more_short : (x : Start) (b : ℕ) (bs : List ℕ) → (process_token x b bs).more ≤ length bs
more_short Start.Dot b bs = omega arith
more_short Start.Equals b bs = omega arith
more_short Start.Comma b bs = omega arith
more_short Start.LeftSquareBracket b bs = omega arith
more_short Start.RightSquareBracket b bs = omega arith
more_short Start.LeftCurlyBracket b bs = omega arith
more_short Start.RightCurlyBracket b bs = omega arith
more_short Start.Wschar b bs = until_short _ bs
more_short Start.CommentStartSymbol b bs = until_short _ bs
more_short Start.CarriageReturn b bs = peek_short line_feed 1 bs (λ h. h)
more_short Start.LineFeed b bs = omega arith
more_short Start.Apostrophe b bs =
    string_short apostrophe b bs _ _ _ _ (λ h. omega (arith, h, ml_literal_short (drop 2 bs), length-drop 2 bs)) (literal_short bs)
more_short Start.QuotationMark b bs =
    string_short quotation_mark b bs _ _ _ _ (λ h. omega (arith, h, ml_basic_short false (drop 2 bs), length-drop 2 bs)) (basic_short false bs)
more_short Start.Other b bs = until_short _ bs

-- the tokens end where the bytes do
pub end_of_lem : (m p : ℕ) (bs : List ℕ) → m ≤ length bs → end_of p (lexer m p bs) ≡ p + (length bs - m)
unfolding lexer
end_of_lem zero p [] h = omega arith
end_of_lem (suc m) p [] h = absurd (omega (arith, h))
end_of_lem zero p (b ∷ bs) h =
    let l = more_short (start_of b) b bs in
    let e = end_of_lem (piece_of b bs).more (p + suc (piece_of b bs).more) bs l in
    omega (arith, e, l)
end_of_lem (suc m) p (b ∷ bs) h = let e = end_of_lem m p bs (omega (arith, h)) in omega (arith, e)
