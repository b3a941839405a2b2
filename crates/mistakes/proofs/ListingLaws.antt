-- Laws of the listing, piece by piece. Proved; nothing here needs to be believed.
use mathlib.Core.Path.{◌≡◌, refl, ap, ap₂, sym, subst, ◌∙◌}
use mathlib.Core.Bool.{Bool, true, false, cond}
use mathlib.Core.List.{List, [], ◌∷◌}
use Prim.Native.Nat.{ℕ, zero, suc, ◌+◌, ◌-◌, ◌<◌, ◌≤◌}
use native.Mathlib.Omega.{arith}
use native.Mathlib.Numerals.{add-one}
use lib.ListN.{length}
use Rattle.token.specs.Tokens.{Tok, all_tokens}
use Rattle.rules.specs.Answer.{error_size, filled}
use Rattle.line_points.specs.declared.points.LinePoint.{LinePoint}
use Rattle.line_points.specs.Points.{Counted, Numbered}
use Rattle.filling.specs.FillLaws.{Sized}
use Rattle.pieces.specs.declared.pieces.Piece.{Piece}
use Rattle.std.specs.Prelude.{Some, None}
use Rattle.mistakes.specs.declared.listing.Noted.{Noted}
use Rattle.pieces.specs.Messages.{expected_by}
use Rattle.pieces.specs.Pieces.{events_from, pieces}
use Rattle.mistake_rules.specs.Mistakes.{errors_from, start_of, Mistake, reported, silent, goes_before, accounts_for, judged, placed, all_reported, merged, mistakes_in, words_of, all_words}
use Rattle.mistake_rules.specs.Sheets.{Sheet, put_at, put_all}
use Rattle.pieces.specs.Finding.{events_left, Finds}
use Rattle.mistake_steps.specs.Steps.{errors_left, accounted, Passes}
use Rattle.mistakes.specs.Notes.{Notes}
use Rattle.mistake_steps.proofs.RecordLaws.{judged_told, judged_silent}
use Rattle.mistakes.proofs.SheetLaws.{put_append, put_filled}

-- the piece is accounted for, and nothing is put
module _ (s : List ℕ) (base m : ℕ) (errors : List ℕ) (r : ℕ) (p : Piece) (k : ℕ) (before : List ℕ) where
  pub noted_told : (told : Bool) (point : LinePoint) → told ≡ accounted p (errors_left m r errors) → told ≡ true → Counted s base point
      → Notes s base m errors r p k before before (record { point = point; count = k })
  noted_told told point e t q =
      record {
        same = λ on. ap (λ (ms : List Mistake). put_all (all_words (all_tokens s base) ms) (record { count = k; buffer = before })) (judged_told p on (errors_left m r errors) (sym e ∙ t));
        point = q;
        most = omega arith;
      }

  -- or put, with its line
  pub noted_silent : (told : Bool) (at : LinePoint) (expected : ℕ) (after : List ℕ) → told ≡ accounted p (errors_left m r errors) → told ≡ false → Numbered s base p.start at
      → expected ≡ expected_by p.message
      → after ≡ put_at k (p.message ∷ expected ∷ p.start ∷ p.end ∷ p.start ∷ p.end ∷ at.line ∷ []) before
      → Notes s base m errors r p k before after (record { point = at; count = k + 1 })
  unfolding put_all
  noted_silent told at expected after e t q x w =
      let words : after ≡ put_at k (words_of (all_tokens s base) (silent p)) before =
      w ∙ ap₂ (λ (g l : ℕ). put_at k (p.message ∷ g ∷ p.start ∷ p.end ∷ p.start ∷ p.end ∷ l ∷ []) before) x q.line in
      record {
        same = λ on.
            ap (λ (ms : List Mistake). put_all (all_words (all_tokens s base) ms) (record { count = k; buffer = before })) (judged_silent p on (errors_left m r errors) (sym e ∙ t))
            ∙ ap₂ (λ (n : ℕ) (b : List ℕ). put_all (all_words (all_tokens s base) (on (errors_left m r errors))) (record { count = n; buffer = b })) (sym (add-one k)) (sym words);
        point = q.point;
        most = omega arith;
      }

-- the base of a list is that of every point of it
pub notes_of : {s : List ℕ} {a base m : ℕ} {errors : List ℕ} {r : ℕ} {p : Piece} {k : ℕ} {before after : List ℕ} {x : Noted} → a ≡ base → Notes s a m errors r p k before after x → Notes s base m errors r p k before after x
notes_of {s} {m = m} {errors} {r} {p} {k} {before} {after} {x} e q = subst (λ (b : ℕ). Notes s b m errors r p k before after x) e q

pub counted_own : {s : List ℕ} {base : ℕ} {point : LinePoint} → Counted s base point → Counted s point.cur.base point
counted_own {s} {base} {point} q = subst (λ (b : ℕ). Counted s b point) (sym q.based) q

-- the listing has come to event i, record r and mistake k: what is left to be listed gives what there was
pub record Ongoing (s : List ℕ) (base n : ℕ) (events : List ℕ) (m : ℕ) (errors before : List ℕ) (i r k : ℕ) (point : LinePoint) (now : List ℕ) : Type 0 where
  pub same : put_all (all_words (all_tokens s base) (merged (pieces (events_left n i events) false) (errors_left m r errors))) (record { count = k; buffer = now })
      ≡ put_all (all_words (all_tokens s base) (mistakes_in n events m errors)) (record { count = 0; buffer = before })
  pub counted : Counted s base point
  pub low : i ≤ n
  pub within : r ≤ m
  pub few : k ≤ i + r
  pub kept : length now ≡ length before

pub listing_begun : (s : List ℕ) (base n : ℕ) (events : List ℕ) (m : ℕ) (errors before : List ℕ) (point : LinePoint) → Counted s base point → Ongoing s base n events m errors before 0 0 0 point before
listing_begun s base n events m errors before point q =
    let a : n - 0 ≡ n = omega arith in
    let b : m - 0 ≡ m = omega arith in
    record {
      same = ap₂ (λ (x y : ℕ). put_all (all_words (all_tokens s base) (merged (pieces (events_from x 0 events) false) (errors_from y 0 errors))) (record { count = 0; buffer = before })) a b;
      counted = q;
      low = omega arith;
      within = omega arith;
      few = omega arith;
      kept = refl;
    }

module _ {s : List ℕ} {base n : ℕ} {events : List ℕ} {m : ℕ} {errors before : List ℕ} {i r k : ℕ} {point : LinePoint} {now : List ℕ} (x : Ongoing s base n events m errors before i r k point now) where
  abbrev all : List Tok
  all = all_tokens s base

  -- a piece, behind the records that go before it
  module _ {p : Piece} {next : ℕ} (found : Finds n events i (Some (p, next))) where
    pub on_piece : i < next
    on_piece = found.1

    pub next_within : next ≤ n
    next_within = found.2

    pub listing_on : (j : ℕ) (between after : List ℕ) (y : Noted) → Passes m errors r p j
        → record { count = k + (j - r); buffer = between } ≡ put_all (errors_left j r errors) (record { count = k; buffer = now })
        → length between ≡ length now
        → Notes s base m errors j p (k + (j - r)) between after y
        → length after ≡ length between
        → Ongoing s base n events m errors before next j y.count y.point after
    unfolding merged
    listing_on j between after y passes put kept₁ noted kept₂ =
        let rest = pieces (events_left n next events) false in
        let q = found in
        record {
          same =
              sym (noted.same (merged rest))
              ∙ ap (λ (o : Sheet). put_all (all_words all (judged p (merged rest) (errors_left m j errors))) o) put
              ∙ sym (put_append (errors_left j r errors) (all_words all (judged p (merged rest) (errors_left m j errors))) (record { count = k; buffer = now }))
              ∙ ap (λ (ws : List (List ℕ)). put_all ws (record { count = k; buffer = now })) (sym (passes.same all (merged rest)))
              ∙ ap (λ (ps : List Piece). put_all (all_words all (merged ps (errors_left m r errors))) (record { count = k; buffer = now })) (sym q.0)
              ∙ x.same;
          counted = noted.point;
          low = q.2;
          within = passes.within;
          few = omega (arith, x.few, noted.most, q.1, passes.on);
          kept = kept₂ ∙ kept₁ ∙ x.kept;
        }

  -- no piece is left: the records that are left come last
  reported_words : (es : List (List ℕ)) → all_words all (all_reported es) ≡ es
  reported_words [] = refl
  reported_words (e ∷ es) = ap (λ (ws : List (List ℕ)). e ∷ ws) (reported_words es)

  pub listing_end : (after : List ℕ) → Finds n events i None
      → record { count = k + (m - r); buffer = after } ≡ put_all (errors_left m r errors) (record { count = k; buffer = now })
      → record { count = k + (m - r); buffer = after } ≡ put_all (all_words all (mistakes_in n events m errors)) (record { count = 0; buffer = before })
  unfolding merged
  listing_end after found put =
      put
      ∙ ap (λ (ws : List (List ℕ)). put_all ws (record { count = k; buffer = now })) (sym (reported_words (errors_left m r errors)))
      ∙ ap (λ (ps : List Piece). put_all (all_words all (merged ps (errors_left m r errors))) (record { count = k; buffer = now })) (sym found)
      ∙ x.same

-- every mistake has seven words
errors_sized : (m r : ℕ) (buffer : List ℕ) → Sized error_size (errors_from m r buffer)
unfolding errors_from
errors_sized zero r buffer = tt
errors_sized (suc m) r buffer = (refl, errors_sized m (suc r) buffer)

module _ (all : List Tok) where
  reported_sized : (es : List (List ℕ)) → Sized error_size es → Sized error_size (all_words all (all_reported es))
  reported_sized [] z = tt
  reported_sized (e ∷ es) z = (z.0, reported_sized es z.1)

  abbrev SizedOn : (List (List ℕ) → List Mistake) → Type 0
  SizedOn on = (es : List (List ℕ)) → Sized error_size es → Sized error_size (all_words all (on es))

  sized_if : (b : Bool) (xs ys : List Mistake) → Sized error_size (all_words all xs) → Sized error_size (all_words all ys) → Sized error_size (all_words all (cond b xs ys))
  sized_if true xs ys z y = z
  sized_if false xs ys z y = y

  judged_sized : (p : Piece) (on : List (List ℕ) → List Mistake) → SizedOn on → SizedOn (judged p on)
  judged_sized p on h [] z = (refl, h [] z)
  judged_sized p on h (e ∷ es) z = sized_if (accounts_for (start_of e) p) (on (e ∷ es)) (silent p ∷ on (e ∷ es)) (h (e ∷ es) z) (refl, h (e ∷ es) z)

  placed_sized : (p : Piece) (on : List (List ℕ) → List Mistake) → SizedOn on → SizedOn (placed p on)
  placed_sized p on h [] z = judged_sized p on h [] z
  placed_sized p on h (e ∷ es) z =
      sized_if (goes_before (start_of e) p) (reported e ∷ placed p on es) (judged p on (e ∷ es)) (z.0, placed_sized p on h es z.1) (judged_sized p on h (e ∷ es) z)

  merged_sized : (ps : List Piece) → SizedOn (merged ps)
  unfolding merged
  merged_sized [] es z = reported_sized es z
  merged_sized (p ∷ ps) es z = placed_sized p (merged ps) (merged_sized ps) es z

  words_length : (ms : List Mistake) → length (all_words all ms) ≡ length ms
  words_length [] = refl
  words_length (x ∷ xs) = ap suc (words_length xs)

-- all of them, put from the start
pub listing_filled : (all : List Tok) (n : ℕ) (events : List ℕ) (m : ℕ) (errors before : List ℕ)
    → put_all (all_words all (mistakes_in n events m errors)) (record { count = 0; buffer = before })
    ≡ record { count = length (mistakes_in n events m errors); buffer = filled error_size (all_words all (mistakes_in n events m errors)) before }
listing_filled all n events m errors before =
    let ms = mistakes_in n events m errors in
    put_filled (all_words all ms) before (merged_sized all (pieces (events_from n 0 events) false) (errors_from m 0 errors) (errors_sized m 0 errors))
    ∙ ap (λ (c : ℕ). record { count = c; buffer = filled error_size (all_words all ms) before }) (words_length all ms)
