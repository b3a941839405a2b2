-- Every error record and every piece that none accounts for is in the list. Proved; nothing here needs to be believed.
use mathlib.Core.Path.{◌≡◌, refl, ap, sym, subst, ◌∙◌}
use mathlib.Core.Bool.{Bool, true, false, cond, false≢true}
use mathlib.Core.List.{List, [], ◌∷◌}
use Prim.Native.Nat.{ℕ, zero, suc, ◌+◌, ◌≤◌}
use native.Mathlib.Omega.{arith}
use lib.ListN.{length}
use lib.Dec.{eqb}
use borrow.Author.Tests.{eqb-true, eq-eqb}
use Rattle.rules.specs.Answer.{Outcome}
use Rattle.pieces.specs.declared.sorts.Sort.{Sort}
use Rattle.pieces.specs.declared.pieces.Piece.{Piece}
use Rattle.pieces.specs.Messages.{multi_line_string}
use Rattle.pieces.specs.Pieces.{Seen, events_from, sort_of, skipped_to, pieces_by, pieces}
use Rattle.mistake_rules.specs.Mistakes.{errors_from, start_of, Mistake, reported, silent, goes_before, accounts_for, judged, placed, all_reported, merged}
use Rattle.mistake_rules.specs.Promises.{mistakes_of, records_of, reported_in, silent_in, here, later, Unaccounted, no_piece, kept, left, Complete}

-- the records
reported_all : (es : List (List ℕ)) → reported_in (all_reported es) ≡ es
reported_all [] = refl
reported_all (e ∷ es) = ap (λ (x : List (List ℕ)). e ∷ x) (reported_all es)

abbrev Keeps : (List (List ℕ) → List Mistake) → Type 0
Keeps on = (es : List (List ℕ)) → reported_in (on es) ≡ es

judged_keeps_by : (b : Bool) (p : Piece) (xs : List Mistake) → reported_in (cond b xs (silent p ∷ xs)) ≡ reported_in xs
judged_keeps_by true p xs = refl
judged_keeps_by false p xs = refl

judged_keeps : (p : Piece) (on : List (List ℕ) → List Mistake) → Keeps on → Keeps (judged p on)
judged_keeps p on h [] = h []
judged_keeps p on h (e ∷ es) = judged_keeps_by (accounts_for (start_of e) p) p (on (e ∷ es)) ∙ h (e ∷ es)

placed_keeps_by : (b : Bool) (p : Piece) (on : List (List ℕ) → List Mistake) (e : List ℕ) (es : List (List ℕ))
    → reported_in (placed p on es) ≡ es → reported_in (judged p on (e ∷ es)) ≡ e ∷ es → reported_in (cond b (reported e ∷ placed p on es) (judged p on (e ∷ es))) ≡ e ∷ es
placed_keeps_by true p on e es h g = ap (λ (x : List (List ℕ)). e ∷ x) h
placed_keeps_by false p on e es h g = g

placed_keeps : (p : Piece) (on : List (List ℕ) → List Mistake) → Keeps on → Keeps (placed p on)
placed_keeps p on h [] = judged_keeps p on h []
placed_keeps p on h (e ∷ es) = placed_keeps_by (goes_before (start_of e) p) p on e es (placed_keeps p on h es) (judged_keeps p on h (e ∷ es))

pub merged_keeps : (ps : List Piece) → Keeps (merged ps)
unfolding merged
merged_keeps [] es = reported_all es
merged_keeps (p ∷ ps) es = placed_keeps p (merged ps) (merged_keeps ps) es

-- the pieces
unaccounted_more : {e : List ℕ} {es : List (List ℕ)} {ps qs : List Piece} → Unaccounted es ps qs → Unaccounted (e ∷ es) ps qs
unaccounted_more no_piece = no_piece
unaccounted_more (kept u) = kept (unaccounted_more u)
unaccounted_more (left m s u) = left m (later s) (unaccounted_more u)

silent_none : (es : List (List ℕ)) → silent_in (all_reported es) ≡ []
silent_none [] = refl
silent_none (e ∷ es) = silent_none es

accounts_by : (b : Bool) (start : ℕ) (p : Piece) → eqb p.message multi_line_string ≡ b → cond b false (eqb start p.start) ≡ true → (p.message ≡ multi_line_string → ⊥) × (start ≡ p.start)
accounts_by true start p q e = absurd (false≢true e)
accounts_by false start p q e = (λ m. false≢true (sym q ∙ eq-eqb _ _ m), eqb-true _ _ e)

module _ (p : Piece) (on : List (List ℕ) → List Mistake) (ps : List Piece) where
  abbrev Tells : (List (List ℕ) → List Mistake) → List Piece → Type 0
  Tells f qs = (es : List (List ℕ)) → Unaccounted es qs (silent_in (f es))

  judged_tells_by : (b : Bool) (e : List ℕ) (es : List (List ℕ)) → accounts_for (start_of e) p ≡ b → Tells on ps
      → Unaccounted (e ∷ es) (p ∷ ps) (silent_in (cond b (on (e ∷ es)) (silent p ∷ on (e ∷ es))))
  judged_tells_by true e es q h = let a = accounts_by _ (start_of e) p refl q in left a.0 (here a.1) (h (e ∷ es))
  judged_tells_by false e es q h = kept (h (e ∷ es))

  judged_tells : Tells on ps → Tells (judged p on) (p ∷ ps)
  judged_tells h [] = kept (h [])
  judged_tells h (e ∷ es) = judged_tells_by (accounts_for (start_of e) p) e es refl h

  placed_tells_by : (b : Bool) (e : List ℕ) (es : List (List ℕ)) → Unaccounted es (p ∷ ps) (silent_in (placed p on es)) → Unaccounted (e ∷ es) (p ∷ ps) (silent_in (judged p on (e ∷ es)))
      → Unaccounted (e ∷ es) (p ∷ ps) (silent_in (cond b (reported e ∷ placed p on es) (judged p on (e ∷ es))))
  placed_tells_by true e es h g = unaccounted_more h
  placed_tells_by false e es h g = g

  placed_tells : Tells on ps → Tells (placed p on) (p ∷ ps)
  placed_tells h [] = judged_tells h []
  placed_tells h (e ∷ es) = placed_tells_by (goes_before (start_of e) p) e es (placed_tells h es) (judged_tells h (e ∷ es))

merged_tells : (ps : List Piece) (es : List (List ℕ)) → Unaccounted es ps (silent_in (merged ps es))
unfolding merged
merged_tells [] es = subst (λ (x : List Piece). Unaccounted es [] x) (sym (silent_none es)) no_piece
merged_tells (p ∷ ps) es = placed_tells p (merged ps) ps (merged_tells ps) es

-- how many there are
unaccounted_few : {es : List (List ℕ)} {ps qs : List Piece} → Unaccounted es ps qs → length qs ≤ length ps
unaccounted_few no_piece = omega arith
unaccounted_few (kept u) = let h = unaccounted_few u in omega (arith, h)
unaccounted_few (left m s u) = let h = unaccounted_few u in omega (arith, h)

both_kinds : (ms : List Mistake) → length ms ≡ length (reported_in ms) + length (silent_in ms)
both_kinds [] = refl
both_kinds (reported words ∷ ms) = let h = both_kinds ms in omega (arith, h)
both_kinds (silent p ∷ ms) = let h = both_kinds ms in omega (arith, h)

pieces_by_few : (sort : Sort) (skipping : Bool) (e : Seen) (end n : ℕ) (on : Bool → List Piece) → ((b : Bool) → length (on b) ≤ n) → length (pieces_by sort skipping e end on) ≤ suc n
pieces_by_few Sort.Skipped true e end n on h = let g = h true in omega (arith, g)
pieces_by_few Sort.Skipped false e end n on h = let g = h true in omega (arith, g)
pieces_by_few Sort.Blank skipping e end n on h = let g = h skipping in omega (arith, g)
pieces_by_few Sort.Sound skipping e end n on h = let g = h false in omega (arith, g)
pieces_by_few (Sort.Wrong message) skipping e end n on h = let g = h false in omega (arith, g)

pub pieces_few : (es : List Seen) (skipping : Bool) → length (pieces es skipping) ≤ length es
unfolding pieces
pieces_few [] skipping = omega arith
pieces_few (e ∷ es) skipping = pieces_by_few (sort_of e) skipping e (skipped_to es e.end) (length es) (pieces es) (pieces_few es)

events_length : (n i : ℕ) (buffer : List ℕ) → length (events_from n i buffer) ≡ n
unfolding events_from
events_length zero i buffer = refl
events_length (suc n) i buffer = ap suc (events_length n (suc i) buffer)

pub records_length : (n i : ℕ) (buffer : List ℕ) → length (errors_from n i buffer) ≡ n
unfolding errors_from
records_length zero i buffer = refl
records_length (suc n) i buffer = ap suc (records_length n (suc i) buffer)

pub complete : (run : Outcome) → Complete run
complete run =
    let ps = pieces (events_from run.answer.events 0 run.events) false in
    let told = merged_tells ps (records_of run) in
    let whole = merged_keeps ps (records_of run) in
    record {
      records = whole;
      others = told;
      few = omega (arith, both_kinds (mistakes_of run), ap length whole, records_length run.answer.errors 0 run.errors, unaccounted_few told, pieces_few (events_from run.answer.events 0 run.events) false, events_length run.answer.events 0 run.events);
    }
