-- Laws of kinds and their numbers. Proved; nothing here needs to be believed.
use Rattle.std.specs.Prelude.{◌≡◌, refl, ℕ, zero, suc, ◌≤◌}
use Rattle.std.proofs.Common.{ap, sym, ◌∙◌, arith}
use Rattle.token.specs.declared.kind.Kind.{Kind}
use Rattle.token.specs.declared.kind.Kind.TheVariants.{Dot, Equals, Comma, LeftSquareBracket, RightSquareBracket, LeftCurlyBracket, RightCurlyBracket, Whitespace, Comment, Newline, LiteralString, BasicString, MlLiteralString, MlBasicString, Atom, Eof}
use Rattle.token.specs.Kinds.{kind_of, number_of}

-- what is shown of each of the sixteen kinds, in the order of their numbers, holds of every kind
module _ (P : Kind → Type 0) (dot : P Dot) (equals : P Equals) (comma : P Comma) (open_square : P LeftSquareBracket) (close_square : P RightSquareBracket) (open_curly : P LeftCurlyBracket) (close_curly : P RightCurlyBracket)
    (whitespace : P Whitespace) (comment : P Comment) (newline : P Newline) (literal : P LiteralString) (basic : P BasicString) (mlLiteral : P MlLiteralString) (mlBasic : P MlBasicString) (atom : P Atom) (eof : P Eof) where
  pub every_kind : (k : Kind) → P k
  every_kind Dot = dot
  every_kind Equals = equals
  every_kind Comma = comma
  every_kind LeftSquareBracket = open_square
  every_kind RightSquareBracket = close_square
  every_kind LeftCurlyBracket = open_curly
  every_kind RightCurlyBracket = close_curly
  every_kind Whitespace = whitespace
  every_kind Comment = comment
  every_kind Newline = newline
  every_kind LiteralString = literal
  every_kind BasicString = basic
  every_kind MlLiteralString = mlLiteral
  every_kind MlBasicString = mlBasic
  every_kind Atom = atom
  every_kind Eof = eof

-- from kind to number and back
pub kind_back : (k : Kind) → kind_of (number_of k) ≡ k
unfolding kind_of
kind_back = every_kind (λ (k : Kind). kind_of (number_of k) ≡ k) refl refl refl refl refl refl refl refl refl refl refl refl refl refl refl refl

-- the numbers are 1 to 16
pub number_range : (k : Kind) → (1 ≤ number_of k) × (number_of k ≤ 16)
number_range Dot = (omega arith, omega arith)
number_range Equals = (omega arith, omega arith)
number_range Comma = (omega arith, omega arith)
number_range LeftSquareBracket = (omega arith, omega arith)
number_range RightSquareBracket = (omega arith, omega arith)
number_range LeftCurlyBracket = (omega arith, omega arith)
number_range RightCurlyBracket = (omega arith, omega arith)
number_range Whitespace = (omega arith, omega arith)
number_range Comment = (omega arith, omega arith)
number_range Newline = (omega arith, omega arith)
number_range LiteralString = (omega arith, omega arith)
number_range BasicString = (omega arith, omega arith)
number_range MlLiteralString = (omega arith, omega arith)
number_range MlBasicString = (omega arith, omega arith)
number_range Atom = (omega arith, omega arith)
number_range Eof = (omega arith, omega arith)

-- a kind is known by its number
pub same_kind : (j k : Kind) → number_of j ≡ number_of k → j ≡ k
same_kind j k e = sym (kind_back j) ∙ ap kind_of e ∙ kind_back k

-- every number but 1 to 15 is read as Eof
pub rest_eof : (k : ℕ) → (k ≡ 1 → ⊥) → (k ≡ 2 → ⊥) → (k ≡ 3 → ⊥) → (k ≡ 4 → ⊥) → (k ≡ 5 → ⊥) → (k ≡ 6 → ⊥) → (k ≡ 7 → ⊥) → (k ≡ 8 → ⊥) → (k ≡ 9 → ⊥) → (k ≡ 10 → ⊥) → (k ≡ 11 → ⊥) → (k ≡ 12 → ⊥) → (k ≡ 13 → ⊥) → (k ≡ 14 → ⊥) → (k ≡ 15 → ⊥) → kind_of k ≡ Eof
unfolding kind_of
rest_eof zero h1 h2 h3 h4 h5 h6 h7 h8 h9 h10 h11 h12 h13 h14 h15 = refl
rest_eof (suc zero) h1 h2 h3 h4 h5 h6 h7 h8 h9 h10 h11 h12 h13 h14 h15 = absurd (h1 refl)
rest_eof (suc (suc zero)) h1 h2 h3 h4 h5 h6 h7 h8 h9 h10 h11 h12 h13 h14 h15 = absurd (h2 refl)
rest_eof (suc (suc (suc zero))) h1 h2 h3 h4 h5 h6 h7 h8 h9 h10 h11 h12 h13 h14 h15 = absurd (h3 refl)
rest_eof (suc (suc (suc (suc zero)))) h1 h2 h3 h4 h5 h6 h7 h8 h9 h10 h11 h12 h13 h14 h15 = absurd (h4 refl)
rest_eof (suc (suc (suc (suc (suc zero))))) h1 h2 h3 h4 h5 h6 h7 h8 h9 h10 h11 h12 h13 h14 h15 = absurd (h5 refl)
rest_eof (suc (suc (suc (suc (suc (suc zero)))))) h1 h2 h3 h4 h5 h6 h7 h8 h9 h10 h11 h12 h13 h14 h15 = absurd (h6 refl)
rest_eof (suc (suc (suc (suc (suc (suc (suc zero))))))) h1 h2 h3 h4 h5 h6 h7 h8 h9 h10 h11 h12 h13 h14 h15 = absurd (h7 refl)
rest_eof (suc (suc (suc (suc (suc (suc (suc (suc zero)))))))) h1 h2 h3 h4 h5 h6 h7 h8 h9 h10 h11 h12 h13 h14 h15 = absurd (h8 refl)
rest_eof (suc (suc (suc (suc (suc (suc (suc (suc (suc zero))))))))) h1 h2 h3 h4 h5 h6 h7 h8 h9 h10 h11 h12 h13 h14 h15 = absurd (h9 refl)
rest_eof (suc (suc (suc (suc (suc (suc (suc (suc (suc (suc zero)))))))))) h1 h2 h3 h4 h5 h6 h7 h8 h9 h10 h11 h12 h13 h14 h15 = absurd (h10 refl)
rest_eof (suc (suc (suc (suc (suc (suc (suc (suc (suc (suc (suc zero))))))))))) h1 h2 h3 h4 h5 h6 h7 h8 h9 h10 h11 h12 h13 h14 h15 = absurd (h11 refl)
rest_eof (suc (suc (suc (suc (suc (suc (suc (suc (suc (suc (suc (suc zero)))))))))))) h1 h2 h3 h4 h5 h6 h7 h8 h9 h10 h11 h12 h13 h14 h15 = absurd (h12 refl)
rest_eof (suc (suc (suc (suc (suc (suc (suc (suc (suc (suc (suc (suc (suc zero))))))))))))) h1 h2 h3 h4 h5 h6 h7 h8 h9 h10 h11 h12 h13 h14 h15 = absurd (h13 refl)
rest_eof (suc (suc (suc (suc (suc (suc (suc (suc (suc (suc (suc (suc (suc (suc zero)))))))))))))) h1 h2 h3 h4 h5 h6 h7 h8 h9 h10 h11 h12 h13 h14 h15 = absurd (h14 refl)
rest_eof (suc (suc (suc (suc (suc (suc (suc (suc (suc (suc (suc (suc (suc (suc (suc zero))))))))))))))) h1 h2 h3 h4 h5 h6 h7 h8 h9 h10 h11 h12 h13 h14 h15 = absurd (h15 refl)
rest_eof (suc (suc (suc (suc (suc (suc (suc (suc (suc (suc (suc (suc (suc (suc (suc (suc n)))))))))))))))) h1 h2 h3 h4 h5 h6 h7 h8 h9 h10 h11 h12 h13 h14 h15 = refl
