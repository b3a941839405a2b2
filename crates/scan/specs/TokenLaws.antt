-- Laws of one token at a place of the text. Proved; nothing here needs to be believed.
use Rattle.std.specs.Prelude.{◌≡◌, true, false, List, ◌∷◌, ℕ, ◌+◌, ◌<◌, ◌≤◌, length, drop, get_or}
use Rattle.std.proofs.Common.{ap, sym, ◌∙◌}
use Rattle.places.specs.Places.{starts_with}
use Rattle.places.specs.PlaceLaws.{here, dropped_three}
use Rattle.token.specs.declared.kind.Kind.{Kind}
use Rattle.token.specs.declared.kind.Kind.TheVariants.{LiteralString, BasicString, MlLiteralString, MlBasicString}
use Rattle.scan.specs.declared.lexer.Found.{Found}
use Rattle.scan.specs.declared.start.Start.{Start}
use Rattle.scan.specs.Bytes.{quotation_mark, apostrophe}
use Rattle.scan.specs.Lexer.{three_of, start_of, Piece, piece, process_token, lex_literal_string, lex_basic_string, lex_ml_literal_string, lex_ml_basic_string}
use Rattle.scan.specs.Finding.{IsToken}

module _ (s : List ℕ) (at : ℕ) where
  -- the token as its class has it
  pub token_is : (x : Start) (k : Kind) (n end : ℕ) (f : Found) → start_of (get_or s at 0) ≡ x → process_token x (get_or s at 0) (drop (at + 1) s) ≡ piece k n → end ≡ at + 1 + n → end ≤ length s → f ≡ record { end = end; kind = k } → IsToken s at f
  token_is x k n end f p q e h r =
      let z : process_token (start_of (get_or s at 0)) (get_or s at 0) (drop (at + 1) s) ≡ piece k n = rw p q in
      record {
        kind = ap (λ (y : Found). y.kind) r ∙ sym (ap (λ (y : Piece). y.kind) z);
        end = ap (λ (y : Found). y.end) r ∙ e ∙ sym (ap (λ (y : Piece). at + 1 + y.more) z);
        within = rw r h;
      }

  module _ (h : at < length s) where
    three_here : (q : ℕ) → starts_with (three_of q) (get_or s at 0 ∷ drop (at + 1) s) ≡ starts_with (three_of q) (drop at s)
    three_here q = ap (starts_with (three_of q)) (sym (here s at h))

    pub literal_is : starts_with (three_of apostrophe) (drop at s) ≡ false → process_token Start.Apostrophe (get_or s at 0) (drop (at + 1) s) ≡ piece LiteralString (lex_literal_string (drop (at + 1) s))
    literal_is e = rw (three_here apostrophe ∙ e)

    pub basic_is : starts_with (three_of quotation_mark) (drop at s) ≡ false → process_token Start.QuotationMark (get_or s at 0) (drop (at + 1) s) ≡ piece BasicString (lex_basic_string false (drop (at + 1) s))
    basic_is e = rw (three_here quotation_mark ∙ e)

    pub ml_literal_is : starts_with (three_of apostrophe) (drop at s) ≡ true → process_token Start.Apostrophe (get_or s at 0) (drop (at + 1) s) ≡ piece MlLiteralString (2 + lex_ml_literal_string (drop (at + 3) s))
    ml_literal_is e = rw (three_here apostrophe ∙ e) (ap (λ (l : List ℕ). piece MlLiteralString (2 + lex_ml_literal_string l)) (dropped_three s at))

    pub ml_basic_is : starts_with (three_of quotation_mark) (drop at s) ≡ true → process_token Start.QuotationMark (get_or s at 0) (drop (at + 1) s) ≡ piece MlBasicString (2 + lex_ml_basic_string false (drop (at + 3) s))
    ml_basic_is e = rw (three_here quotation_mark ∙ e) (ap (λ (l : List ℕ). piece MlBasicString (2 + lex_ml_basic_string false l)) (dropped_three s at))
