-- Laws of the codes: the table has that of each byte, and what a code tells of its class. Proved; nothing here needs to be believed.
use Rattle.std.specs.Prelude.{◌≡◌, refl, not, List, ℕ, zero, suc, ◌+◌, ◌<◌, ◌≤◌, length, get_or, eqb, ltb}
use Rattle.std.proofs.Common.{ap, ◌∙◌, arith}
use Rattle.token.specs.declared.kind.Kind.{Kind}
use Rattle.token.specs.declared.kind.Kind.TheVariants.{Dot, Equals, Comma, LeftSquareBracket, RightSquareBracket, LeftCurlyBracket, RightCurlyBracket, Newline}
use Rattle.token.specs.Kinds.{number_of}
use Rattle.scan.specs.declared.start.Start.{Start}
use Rattle.scan.specs.Bytes.{carriage_return, space, quotation_mark, number_sign, apostrophe}
use Rattle.scan.specs.Lexer.{start_of, token_start, wschar, piece, process_token}
use Rattle.scan.specs.Codes.{code_of, codes_from, code_table}

codes_length : (b n : ℕ) → length (codes_from b n) ≡ n
unfolding codes_from
codes_length b zero = refl
codes_length b (suc n) = ap suc (codes_length (suc b) n)

codes_at : (b n i : ℕ) → i < n → get_or (codes_from b n) i 0 ≡ code_of (start_of (b + i))
unfolding codes_from
codes_at b zero i h = absurd (omega (arith, h))
codes_at b (suc n) zero h = let e : b ≡ b + 0 = omega arith in ap (λ (m : ℕ). code_of (start_of m)) e
codes_at b (suc n) (suc i) h =
    let e : suc b + i ≡ b + suc i = omega arith in
    codes_at (suc b) n i (omega (arith, h)) ∙ ap (λ (m : ℕ). code_of (start_of m)) e

pub table_length : length code_table ≡ 256
unfolding code_table
table_length = codes_length 0 256

pub table_at : (b : ℕ) → b < 256 → get_or code_table b 0 ≡ code_of (start_of b)
unfolding code_table
table_at b h = let e : 0 + b ≡ b = omega arith in codes_at 0 256 b h ∙ ap (λ (m : ℕ). code_of (start_of m)) e

-- whitespace, and what ends an atom
pub whitespace_code : (x : Start) → not (eqb (code_of x) 11) ≡ not (wschar x)
whitespace_code Start.Dot = refl
whitespace_code Start.Equals = refl
whitespace_code Start.Comma = refl
whitespace_code Start.LeftSquareBracket = refl
whitespace_code Start.RightSquareBracket = refl
whitespace_code Start.LeftCurlyBracket = refl
whitespace_code Start.RightCurlyBracket = refl
whitespace_code Start.Wschar = refl
whitespace_code Start.CommentStartSymbol = refl
whitespace_code Start.CarriageReturn = refl
whitespace_code Start.LineFeed = refl
whitespace_code Start.Apostrophe = refl
whitespace_code Start.QuotationMark = refl
whitespace_code Start.Other = refl

pub atom_code : (x : Start) → ltb (code_of x) 14 ≡ token_start x
atom_code Start.Dot = refl
atom_code Start.Equals = refl
atom_code Start.Comma = refl
atom_code Start.LeftSquareBracket = refl
atom_code Start.RightSquareBracket = refl
atom_code Start.LeftCurlyBracket = refl
atom_code Start.RightCurlyBracket = refl
atom_code Start.Wschar = refl
atom_code Start.CommentStartSymbol = refl
atom_code Start.CarriageReturn = refl
atom_code Start.LineFeed = refl
atom_code Start.Apostrophe = refl
atom_code Start.QuotationMark = refl
atom_code Start.Other = refl

pub other_code : (x : Start) → code_of x ≡ 16 → x ≡ Start.Other
other_code Start.Dot e = absurd (omega (arith, e))
other_code Start.Equals e = absurd (omega (arith, e))
other_code Start.Comma e = absurd (omega (arith, e))
other_code Start.LeftSquareBracket e = absurd (omega (arith, e))
other_code Start.RightSquareBracket e = absurd (omega (arith, e))
other_code Start.LeftCurlyBracket e = absurd (omega (arith, e))
other_code Start.RightCurlyBracket e = absurd (omega (arith, e))
other_code Start.Wschar e = absurd (omega (arith, e))
other_code Start.CommentStartSymbol e = absurd (omega (arith, e))
other_code Start.CarriageReturn e = absurd (omega (arith, e))
other_code Start.LineFeed e = absurd (omega (arith, e))
other_code Start.Apostrophe e = absurd (omega (arith, e))
other_code Start.QuotationMark e = absurd (omega (arith, e))
other_code Start.Other e = refl

-- a token of one byte: its code is its kind's number
pub record Alone (x : Start) (b : ℕ) (bs : List ℕ) : Type 0 where
  pub kind : Kind
  pub is : process_token x b bs ≡ piece kind 0
  pub number : number_of kind ≡ code_of x

pub alone : (x : Start) (b : ℕ) (bs : List ℕ) → code_of x ≤ 10 → Alone x b bs
alone Start.Dot b bs h = record { kind = Dot; is = refl; number = refl }
alone Start.Equals b bs h = record { kind = Equals; is = refl; number = refl }
alone Start.Comma b bs h = record { kind = Comma; is = refl; number = refl }
alone Start.LeftSquareBracket b bs h = record { kind = LeftSquareBracket; is = refl; number = refl }
alone Start.RightSquareBracket b bs h = record { kind = RightSquareBracket; is = refl; number = refl }
alone Start.LeftCurlyBracket b bs h = record { kind = LeftCurlyBracket; is = refl; number = refl }
alone Start.RightCurlyBracket b bs h = record { kind = RightCurlyBracket; is = refl; number = refl }
alone Start.Wschar b bs h = absurd (omega (arith, h))
alone Start.CommentStartSymbol b bs h = absurd (omega (arith, h))
alone Start.CarriageReturn b bs h = absurd (omega (arith, h))
alone Start.LineFeed b bs h = record { kind = Newline; is = refl; number = refl }
alone Start.Apostrophe b bs h = absurd (omega (arith, h))
alone Start.QuotationMark b bs h = absurd (omega (arith, h))
alone Start.Other b bs h = absurd (omega (arith, h))

-- the classes of five bytes
pub space_start : (b : ℕ) → b ≡ space → start_of b ≡ Start.Wschar
unfolding start_of
space_start b e = rw e

pub quotation_mark_start : (b : ℕ) → b ≡ quotation_mark → start_of b ≡ Start.QuotationMark
unfolding start_of
quotation_mark_start b e = rw e

pub apostrophe_start : (b : ℕ) → b ≡ apostrophe → start_of b ≡ Start.Apostrophe
unfolding start_of
apostrophe_start b e = rw e

pub number_sign_start : (b : ℕ) → b ≡ number_sign → start_of b ≡ Start.CommentStartSymbol
unfolding start_of
number_sign_start b e = rw e

pub carriage_return_start : (b : ℕ) → b ≡ carriage_return → start_of b ≡ Start.CarriageReturn
unfolding start_of
carriage_return_start b e = rw e
