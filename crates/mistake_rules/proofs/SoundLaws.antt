-- When there are no pieces: every event is fine. Proved; nothing here needs to be believed.
use mathlib.Core.Path.{◌≡◌, refl, ap, sym, subst, ◌∙◌}
use mathlib.Core.Bool.{Bool, true, false, cond, false≢true}
use mathlib.Core.List.{List, [], ◌∷◌}
use Prim.Native.Nat.{ℕ, zero, suc, ◌+◌, ◌<◌}
use native.Mathlib.Omega.{arith}
use lib.ListN.{length}
use lib.Dec.{eqb}
use borrow.Author.Tests.{eqb-true, eq-eqb, ne_eqb}
use Rattle.fitting.specs.Quiet.{multi_line_key}
use Rattle.pieces.specs.declared.sorts.Sort.{Sort}
use Rattle.pieces.specs.declared.pieces.Piece.{Piece}
use Rattle.pieces.specs.Messages.{missing, multi_line_string}
use Rattle.pieces.specs.Pieces.{Seen, event_at, events_from, sort_of, skipped_to, pieces_by, pieces}
use Rattle.mistake_rules.specs.Mistakes.{merged}

-- no error event, no empty span, no multi-line string as a key
pub record Fine (e : Seen) : Type 0 where
  pub taken : e.kind ≡ 17 → ⊥
  pub present : e.start ≡ e.end → ⊥
  pub single : multi_line_key e.kind e.encoding ≡ false

-- the sort, by the four tests
abbrev sort_by : Bool → Bool → Bool → Bool → ℕ → Sort
sort_by a b c d message = cond a Sort.Skipped (cond b (Sort.Wrong message) (cond c Sort.Blank (cond d (Sort.Wrong multi_line_string) Sort.Sound)))

whitespace_single : (kind encoding : ℕ) → kind ≡ 14 → multi_line_key kind encoding ≡ false
whitespace_single kind encoding h = ap (λ (k : ℕ). multi_line_key k encoding) h

no_list : {A : Type 0} {x : A} {xs : List A} {B : Type 0} → x ∷ xs ≡ [] → B
no_list {A} {x} {xs} e = absurd (omega (arith, ap length e))

module _ (e : Seen) (end : ℕ) (on : Bool → List Piece) where
  -- an event that gives no piece is fine, and those behind it give none
  fine_by : (a b c d : Bool) → eqb e.kind 17 ≡ a → eqb e.start e.end ≡ b → eqb e.kind 14 ≡ c → multi_line_key e.kind e.encoding ≡ d
      → pieces_by (sort_by a b c d (missing e.kind)) false e end on ≡ [] → Fine e × (on false ≡ [])
  fine_by true b c d p q r s h = no_list h
  fine_by false true c d p q r s h = no_list h
  fine_by false false true d p q r s h =
      (record { taken = λ x. false≢true (sym p ∙ eq-eqb _ _ x); present = λ x. false≢true (sym q ∙ eq-eqb _ _ x); single = whitespace_single e.kind e.encoding (eqb-true _ _ r) }, h)
  fine_by false false false true p q r s h = no_list h
  fine_by false false false false p q r s h =
      (record { taken = λ x. false≢true (sym p ∙ eq-eqb _ _ x); present = λ x. false≢true (sym q ∙ eq-eqb _ _ x); single = s }, h)

  fine_one : pieces_by (sort_of e) false e end on ≡ [] → Fine e × (on false ≡ [])
  fine_one h = fine_by (eqb e.kind 17) (eqb e.start e.end) (eqb e.kind 14) (multi_line_key e.kind e.encoding) refl refl refl refl h

  -- and back
  sound_by : (c : Bool) → Fine e → pieces_by (sort_by false false c false (missing e.kind)) false e end on ≡ on false
  sound_by true f = refl
  sound_by false f = refl

  sound_one : Fine e → pieces_by (sort_of e) false e end on ≡ on false
  sound_one f =
      (λ i. pieces_by (sort_by (ne_eqb _ _ f.taken i) (ne_eqb _ _ f.present i) (eqb e.kind 14) (f.single i) (missing e.kind)) false e end on)
      ∙ sound_by (eqb e.kind 14) f

-- of n events
pub none_fine : (n i : ℕ) (buffer : List ℕ) → pieces (events_from n i buffer) false ≡ [] → (j : ℕ) → j < n → Fine (event_at (j + i) buffer)
unfolding pieces events_from
none_fine zero i buffer h j l = absurd (omega (arith, l))
none_fine (suc n) i buffer h zero l =
    let z : 0 + i ≡ i = omega arith in
    subst (λ (k : ℕ). Fine (event_at k buffer)) (sym z) (fine_one (event_at i buffer) (skipped_to (events_from n (suc i) buffer) (event_at i buffer).end) (pieces (events_from n (suc i) buffer)) h).0
none_fine (suc n) i buffer h (suc j) l =
    let z : j + suc i ≡ suc j + i = omega arith in
    subst (λ (k : ℕ). Fine (event_at k buffer)) z
    (none_fine n (suc i) buffer (fine_one (event_at i buffer) (skipped_to (events_from n (suc i) buffer) (event_at i buffer).end) (pieces (events_from n (suc i) buffer)) h).1 j (omega (arith, l)))

pub fine_none : (n i : ℕ) (buffer : List ℕ) → ((j : ℕ) → j < n → Fine (event_at (j + i) buffer)) → pieces (events_from n i buffer) false ≡ []
unfolding pieces events_from
fine_none zero i buffer f = refl
fine_none (suc n) i buffer f =
    let z : 0 + i ≡ i = omega arith in
    sound_one (event_at i buffer) (skipped_to (events_from n (suc i) buffer) (event_at i buffer).end) (pieces (events_from n (suc i) buffer)) (subst (λ (k : ℕ). Fine (event_at k buffer)) z (f 0 (omega arith)))
    ∙ fine_none n (suc i) buffer (λ j l. let z : suc j + i ≡ j + suc i = omega arith in subst (λ (k : ℕ). Fine (event_at k buffer)) z (f (suc j) (omega (arith, l))))

-- without records the mistakes are the pieces: if there are none of these there is none of those
pub none_left : (ps : List Piece) → merged ps [] ≡ [] → ps ≡ []
unfolding merged
none_left [] h = refl
none_left (p ∷ ps) h = no_list h
