-- Laws of the records that go before a piece. Proved; nothing here needs to be believed.
use mathlib.Core.Path.{◌≡◌, refl, ap, sym, ◌∙◌}
use mathlib.Core.Bool.{Bool, true, false, cond}
use mathlib.Core.List.{List, [], ◌∷◌, ◌++◌, append_assoc}
use Prim.Native.Nat.{ℕ, zero, suc, ◌+◌, ◌-◌, ◌*◌, ◌<◌, ◌≤◌}
use native.Mathlib.Omega.{arith}
use native.Mathlib.Numerals.{add-one}
use lib.ListN.{length, get_or}
use Rattle.token.specs.Tokens.{Tok}
use Rattle.rules.specs.Answer.{error_size}
use Rattle.pieces.specs.declared.pieces.Piece.{Piece}
use Rattle.mistake_rules.specs.Mistakes.{error_at, errors_from, Mistake, reported, silent, goes_before, accounts_for, judged, placed, all_words}
use Rattle.mistake_steps.specs.Steps.{errors_left, accounted, Passes}

-- record r of m is in the buffer that holds them
pub error_held : (m r : ℕ) (buffer : List ℕ) → r < m → m * error_size ≤ length buffer → (r + 1) * error_size ≤ length buffer
error_held m r buffer less held = omega arith

-- the records from record r on: it, and those behind it
pub errors_on : (m r : ℕ) (buffer : List ℕ) → r < m → errors_left m r buffer ≡ error_at r buffer ∷ errors_left m (r + 1) buffer
unfolding errors_from
errors_on m r buffer h =
    let e : m - r ≡ suc (m - (r + 1)) = omega arith in
    ap (λ (k : ℕ). errors_from k r buffer) e ∙ ap (λ (j : ℕ). error_at r buffer ∷ errors_from (m - (r + 1)) j buffer) (sym (add-one r))

pub errors_end : (m r : ℕ) (buffer : List ℕ) → m ≤ r → errors_left m r buffer ≡ []
unfolding errors_from
errors_end m r buffer h = let e : m - r ≡ 0 = omega arith in rw e

-- one record more at the end
errors_more : (n r : ℕ) (buffer : List ℕ) → errors_from (suc n) r buffer ≡ errors_from n r buffer ++ (error_at (n + r) buffer ∷ [])
unfolding errors_from
errors_more zero r buffer = let e : 0 + r ≡ r = omega arith in rw e
errors_more (suc n) r buffer =
    let e : n + suc r ≡ suc n + r = omega arith in
    ap (λ (es : List (List ℕ)). error_at r buffer ∷ es) (errors_more n (suc r) buffer ∙ ap (λ (i : ℕ). errors_from n (suc r) buffer ++ (error_at i buffer ∷ [])) e)

errors_up_to : (j r : ℕ) (buffer : List ℕ) → r ≤ j → errors_left (j + 1) r buffer ≡ errors_left j r buffer ++ (error_at j buffer ∷ [])
errors_up_to j r buffer h =
    let m : (j + 1) - r ≡ suc (j - r) = omega arith in
    let e : (j - r) + r ≡ j = omega arith in
    ap (λ (n : ℕ). errors_from n r buffer) m ∙ errors_more (j - r) r buffer ∙ ap (λ (i : ℕ). errors_left j r buffer ++ (error_at i buffer ∷ [])) e

-- the records from r up to j go before the piece
pub record Passing (m : ℕ) (buffer : List ℕ) (r : ℕ) (p : Piece) (j : ℕ) : Type 0 where
  pub same : (all : List Tok) (on : List (List ℕ) → List Mistake)
      → all_words all (placed p on (errors_left m r buffer)) ≡ errors_left j r buffer ++ all_words all (placed p on (errors_left m j buffer))
  pub on : r ≤ j
  pub within : j ≤ m

pub passing_begun : (m : ℕ) (buffer : List ℕ) (r : ℕ) (p : Piece) → r ≤ m → Passing m buffer r p r
passing_begun m buffer r p h =
    record {
      same = λ all on. ap (λ (es : List (List ℕ)). es ++ all_words all (placed p on (errors_left m r buffer))) (sym (errors_end r r buffer (omega arith)));
      on = omega arith;
      within = h;
    }

module _ {m : ℕ} {buffer : List ℕ} {r : ℕ} {p : Piece} {j : ℕ} (x : Passing m buffer r p j) where
  placed_on : (b : Bool) → j < m → goes_before (get_or buffer (j * error_size + 4) 0) p ≡ b → (on : List (List ℕ) → List Mistake)
      → placed p on (errors_left m j buffer) ≡ cond b (reported (error_at j buffer) ∷ placed p on (errors_left m (j + 1) buffer)) (judged p on (errors_left m j buffer))
  placed_on b h e on =
      ap (placed p on) (errors_on m j buffer h)
      ∙ ap (λ (t : Bool). cond t (reported (error_at j buffer) ∷ placed p on (errors_left m (j + 1) buffer)) (judged p on (error_at j buffer ∷ errors_left m (j + 1) buffer))) e
      ∙ ap (λ (es : List (List ℕ)). cond b (reported (error_at j buffer) ∷ placed p on (errors_left m (j + 1) buffer)) (judged p on es)) (sym (errors_on m j buffer h))

  pub passing_more : j < m → goes_before (get_or buffer (j * error_size + 4) 0) p ≡ true → Passing m buffer r p (j + 1)
  passing_more h e =
      record {
        same = λ all on.
            let rest = all_words all (placed p on (errors_left m (j + 1) buffer)) in
            x.same all on
            ∙ ap (λ (ms : List Mistake). errors_left j r buffer ++ all_words all ms) (placed_on true h e on)
            ∙ sym (append_assoc (errors_left j r buffer) (error_at j buffer ∷ []) rest)
            ∙ ap (λ (es : List (List ℕ)). es ++ rest) (sym (errors_up_to j r buffer x.on));
        on = omega (arith, x.on);
        within = omega (arith, h);
      }

  pub passed_here : j < m → goes_before (get_or buffer (j * error_size + 4) 0) p ≡ false → Passes m buffer r p j
  passed_here h e =
      record {
        same = λ all on. x.same all on ∙ ap (λ (ms : List Mistake). errors_left j r buffer ++ all_words all ms) (placed_on false h e on);
        on = x.on;
        within = x.within;
      }

  pub passed_all : m ≤ j → Passes m buffer r p j
  passed_all h =
      let left = errors_end m j buffer h in
      record {
        same = λ all on.
            x.same all on
            ∙ ap (λ (ms : List Mistake). errors_left j r buffer ++ all_words all ms) (ap (placed p on) left ∙ sym (ap (judged p on) left));
        on = x.on;
        within = x.within;
      }

-- whether record r accounts for the piece
pub accounted_here : (m r : ℕ) (buffer : List ℕ) (p : Piece) → r < m → accounts_for (get_or buffer (r * error_size + 4) 0) p ≡ accounted p (errors_left m r buffer)
accounted_here m r buffer p h = ap (accounted p) (sym (errors_on m r buffer h))

pub accounted_none : (m r : ℕ) (buffer : List ℕ) (p : Piece) → m ≤ r → false ≡ accounted p (errors_left m r buffer)
accounted_none m r buffer p h = ap (accounted p) (sym (errors_end m r buffer h))

judged_by_lem : (p : Piece) (on : List (List ℕ) → List Mistake) (es : List (List ℕ)) → judged p on es ≡ cond (accounted p es) (on es) (silent p ∷ on es)
judged_by_lem p on [] = refl
judged_by_lem p on (e ∷ es) = refl

-- then it is not listed, and else it is
pub judged_told : (p : Piece) (on : List (List ℕ) → List Mistake) (es : List (List ℕ)) → accounted p es ≡ true → judged p on es ≡ on es
judged_told p on es h = judged_by_lem p on es ∙ ap (λ (b : Bool). cond b (on es) (silent p ∷ on es)) h

pub judged_silent : (p : Piece) (on : List (List ℕ) → List Mistake) (es : List (List ℕ)) → accounted p es ≡ false → judged p on es ≡ silent p ∷ on es
judged_silent p on es h = judged_by_lem p on es ∙ ap (λ (b : Bool). cond b (on es) (silent p ∷ on es)) h
