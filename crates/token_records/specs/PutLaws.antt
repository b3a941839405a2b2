-- Laws of the record of one token, case by case. Proved; nothing here needs to be believed.
use Rattle.std.specs.Prelude.{◌≡◌, refl, true, List, ℕ, ◌+◌, ◌-◌, ◌*◌, ◌<◌, ◌≤◌, length, drop, get_or}
use Rattle.std.proofs.Common.{ap, sym, ◌∙◌, arith}
use Rattle.token.specs.declared.kind.Kind.{Kind}
use Rattle.token.specs.declared.kind.Kind.TheVariants.{Whitespace}
use Rattle.token.specs.Kinds.{number_of}
use Rattle.token.specs.Writing.{put_at}
use Rattle.places.specs.Places.{peeks}
use Rattle.places.specs.PlaceLaws.{peeks_here, peeks_within}
use Rattle.scan.specs.declared.lexer.Found.{Found}
use Rattle.scan.specs.declared.start.Start.{Start}
use Rattle.scan.specs.Bytes.{space}
use Rattle.scan.specs.Lexer.{start_of, ends_whitespace, Piece, piece, process_token}
use Rattle.scan.specs.Finding.{IsToken}
use Rattle.scan.specs.ScanLaws.{until_hit}
use Rattle.scan.specs.Codes.{code_of}
use Rattle.scan.specs.CodeLaws.{Alone, alone, space_start}
use Rattle.token_records.specs.Put.{Put}

-- the size of one byte
one : (at : ℕ) (buffer : List ℕ) {out : ℕ} {after : List ℕ} (number : ℕ) → ((n : ℕ) → out ≡ 6 * n → after ≡ put_at buffer n 1 number) → (n : ℕ) → out ≡ 6 * n → after ≡ put_at buffer n (at + 1 - at) number
one at buffer number b n o = let e : 1 ≡ at + 1 - at = omega arith in b n o ∙ ap (λ (m : ℕ). put_at buffer n m number) e

module _ {s : List ℕ} {at : ℕ} {buffer : List ℕ} {out : ℕ} {after : List ℕ} where
  -- the token as its class has it
  pub put_is : (x : Start) (k : Kind) (m end number : ℕ) → start_of (get_or s at 0) ≡ x → process_token x (get_or s at 0) (drop (at + 1) s) ≡ piece k m → end ≡ at + 1 + m → end ≤ length s
      → number ≡ number_of k → ((n : ℕ) → out ≡ 6 * n → after ≡ put_at buffer n (end - at) number) → Put s at buffer out after end
  put_is x k m end number p q e h i b =
      let z : process_token (start_of (get_or s at 0)) (get_or s at 0) (drop (at + 1) s) ≡ piece k m = rw p q in
      record {
        token = record { kind = refl; end = e ∙ sym (ap (λ (y : Piece). at + 1 + y.more) z); within = h };
        bytes = λ n o. b n o ∙ ap (put_at buffer n (end - at)) (i ∙ ap (λ (y : Piece). number_of y.kind) (sym z));
      }

  -- as it was found
  pub put_found : (f : Found) (end number : ℕ) → IsToken s at f → end ≡ f.end → number ≡ number_of f.kind → ((n : ℕ) → out ≡ 6 * n → after ≡ put_at buffer n (end - at) number) → Put s at buffer out after end
  put_found f end number t e k b =
      record {
        token = record { kind = refl; end = e ∙ t.end; within = omega (arith, e, t.within) };
        bytes = λ n o. b n o ∙ ap (put_at buffer n (end - at)) (k ∙ ap number_of t.kind);
      }

  module _ (h : at < length s) where
    -- one byte
    pub put_alone : (code : ℕ) → code ≡ code_of (start_of (get_or s at 0)) → code ≤ 10 → ((n : ℕ) → out ≡ 6 * n → after ≡ put_at buffer n 1 code) → Put s at buffer out after (at + 1)
    put_alone code e l b =
        let x : Alone (start_of (get_or s at 0)) (get_or s at 0) (drop (at + 1) s) = alone _ _ _ (omega (arith, e, l)) in
        put_is _ x.kind 0 (at + 1) code refl x.is (omega arith) (omega (arith, h)) (e ∙ sym x.number) (one at buffer code b)

    -- one space
    pub put_space : get_or s at 0 ≡ space → peeks ends_whitespace (drop (at + 1) s) ≡ true → (number : ℕ) → number ≡ number_of Whitespace → ((n : ℕ) → out ≡ 6 * n → after ≡ put_at buffer n 1 number) → Put s at buffer out after (at + 1)
    put_space e p number i b =
        let l = peeks_within ends_whitespace s (at + 1) p in
        let z = until_hit ends_whitespace s (at + 1) l (sym (peeks_here ends_whitespace s (at + 1) l) ∙ p) in
        put_is Start.Wschar Whitespace _ (at + 1) number (space_start _ e) refl (omega (arith, z)) (omega (arith, h)) i (one at buffer number b)
