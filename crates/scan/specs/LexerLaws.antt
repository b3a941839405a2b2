-- Laws of the lexer over a text: a token at a time, and how many there are. Proved; nothing here needs to be believed.
use Rattle.std.specs.Prelude.{◌≡◌, refl, length}
use Rattle.std.proofs.Math.Path.{ap}
use Rattle.std.proofs.Common.{sym, ◌∙◌, arith, drop_of_length-le}
use mathlib.Core.List.{List, [], ◌∷◌}
use Prim.Native.Nat.{ℕ, zero, suc, ◌+◌, ◌<◌, ◌≤◌}
use Rattle.std.proofs.Math.ListN.{drop}
use Rattle.std.proofs.Math.Seq.{drop-drop}
use Rattle.token.specs.declared.kind.Kind.{Kind}
use Rattle.token.specs.declared.kind.Kind.TheVariants.{Eof}
use Rattle.token.specs.Tokens.{Tok, tok}
use Rattle.places.specs.PlaceLaws.{here}
use Rattle.scan.specs.declared.lexer.Found.{Found}
use Rattle.scan.specs.Lexer.{lexer, piece_of}
use Rattle.scan.specs.Finding.{IsToken, piece_at}

-- bytes of the token before are passed over
pub lexer_skips : (m p : ℕ) (bs : List ℕ) → lexer m p bs ≡ lexer 0 p (drop m bs)
unfolding lexer
lexer_skips zero p bs = refl
lexer_skips (suc m) p [] = refl
lexer_skips (suc m) p (b ∷ bs) = lexer_skips m p bs

module _ (s : List ℕ) (at : ℕ) where
  pub lexer_on : at < length s → (f : Found) → IsToken s at f → lexer 0 at (drop at s) ≡ tok f.kind at f.end ∷ lexer 0 f.end (drop f.end s)
  unfolding lexer
  lexer_on h f x =
      let e : at + suc (piece_at s at).more ≡ f.end = omega (arith, x.end) in
      let d : drop (piece_at s at).more (drop (at + 1) s) ≡ drop f.end s = drop-drop _ (at + 1) s ∙ ap (λ (n : ℕ). drop n s) (sym x.end) in
      ap (lexer 0 at) (here s at h)
      ∙ ap (λ (n : ℕ). tok (piece_at s at).kind at n ∷ lexer (piece_at s at).more n (drop (at + 1) s)) e
      ∙ ap (λ (k : Kind). tok k at f.end ∷ lexer (piece_at s at).more f.end (drop (at + 1) s)) (sym x.kind)
      ∙ ap (λ (l : List Tok). tok f.kind at f.end ∷ l) (lexer_skips _ f.end (drop (at + 1) s) ∙ ap (lexer 0 f.end) d)

  pub lexer_end : length s ≤ at → lexer 0 at (drop at s) ≡ tok Eof at at ∷ []
  unfolding lexer
  lexer_end h = ap (lexer 0 at) (drop_of_length-le s h)

-- there is a token at least, and at most one more than bytes
pub lexer_some : (m p : ℕ) (bs : List ℕ) → 1 ≤ length (lexer m p bs)
unfolding lexer
lexer_some zero p [] = omega arith
lexer_some (suc m) p [] = omega arith
lexer_some zero p (b ∷ bs) = omega arith
lexer_some (suc m) p (b ∷ bs) = lexer_some m p bs

pub lexer_few : (m p : ℕ) (bs : List ℕ) → length (lexer m p bs) ≤ length bs + 1
unfolding lexer
lexer_few zero p [] = omega arith
lexer_few (suc m) p [] = omega arith
lexer_few zero p (b ∷ bs) = omega (arith, lexer_few (piece_of b bs).more (p + suc (piece_of b bs).more) bs)
lexer_few (suc m) p (b ∷ bs) = omega (arith, lexer_few m p bs)
