-- Laws of the rules for a token's end, at places of the text. Proved; nothing here needs to be believed.
use Rattle.std.specs.Prelude.{◌≡◌, refl, Bool, cond, ◌&&◌, ℕ, suc, ◌+◌, ◌<◌, ◌≤◌, length, drop, get_or, eqb}
use Rattle.std.proofs.Math.Path.{ap}
use Rattle.std.proofs.Common.{sym, ◌∙◌, arith, drop-drop}
use Rattle.std.proofs.Math.Bool.{true, false}
use Rattle.std.proofs.lemmas.Bool.{false≢true}
use mathlib.Core.List.{List, [], ◌∷◌}
use borrow.Author.Tests.{ne_eqb}
use Rattle.std.specs.List.{position_or_len}
use Rattle.std.proofs.lemmas.List.Recursion.{is_position_or_len}
use Rattle.places.specs.Places.{Scanned, is_byte, peeks, starts_with, none_of}
use Rattle.places.specs.Plain.{in_comment, in_literal, in_ml_literal, in_basic, in_ml_basic}
use Rattle.places.specs.PlaceLaws.{Still, here, peeks_within, dropped, dropped_two, dropped_three}
use Rattle.scan.specs.Bytes.{line_feed, carriage_return, quotation_mark, apostrophe, backslash}
use Rattle.scan.specs.Lexer.{until, three_of, up_to_two, takes_next, taken, lex_comment, lex_literal_string, lex_basic_string, lex_ml_literal_string, lex_ml_basic_string}

module _ (set : ℕ → Bool) (s : List ℕ) (i : ℕ) (h : i < length s) where
  pub until_hit : set (get_or s i 0) ≡ true → until set (drop i s) ≡ 0
  unfolding until
  until_hit e = rw (here s i h, e)

  pub until_on : set (get_or s i 0) ≡ false → until set (drop i s) ≡ suc (until set (drop (i + 1) s))
  unfolding until
  until_on e = rw (here s i h, e)

-- the library's word for it
pub until_is : (set : ℕ → Bool) (bs : List ℕ) → until set bs ≡ position_or_len set bs
unfolding until
until_is set bs = is_position_or_len (until set) set refl (λ x xs. let e : suc (until set xs) ≡ 1 + until set xs = omega arith in ap (λ (n : ℕ). cond (set x) 0 n) e) bs

-- from a place of a token that goes on to the first byte of the set
module _ (set : ℕ → Bool) {s : List ℕ} {i₀ i j : ℕ} where
  pub until_found : Still (λ bs. until set bs) s i₀ i → Scanned (λ bs. position_or_len set bs) s i j → Scanned (λ bs. until set bs) s i₀ j
  until_found x y = record { is = omega (arith, x.same, y.is, until_is set (drop i s)); within = y.within }

-- three of a byte
abbrev three_by : Bool → Bool → Bool → Bool
three_by a b c = cond a (cond b (cond c true false) false) false

cond_self : (b : Bool) → cond b true false ≡ b
cond_self true = refl
cond_self false = refl

module _ (q : ℕ) (s : List ℕ) (i : ℕ) where
  three_at : starts_with (three_of q) (drop i s) ≡ three_by (peeks (is_byte q) (drop i s)) (peeks (is_byte q) (drop (i + 1) s)) (peeks (is_byte q) (drop (i + 2) s))
  three_at =
      ap (λ (l : List ℕ). three_by (peeks (is_byte q) (drop i s)) (peeks (is_byte q) l) (peeks (is_byte q) (drop 1 (drop 1 (drop i s))))) (dropped s i)
      ∙ ap (λ (l : List ℕ). three_by (peeks (is_byte q) (drop i s)) (peeks (is_byte q) (drop (i + 1) s)) (peeks (is_byte q) l)) (dropped_two s i)

  pub three_first : peeks (is_byte q) (drop i s) ≡ false → starts_with (three_of q) (drop i s) ≡ false
  three_first e = three_at ∙ rw e

  pub three_second : peeks (is_byte q) (drop i s) ≡ true → peeks (is_byte q) (drop (i + 1) s) ≡ false → starts_with (three_of q) (drop i s) ≡ false
  three_second d e = three_at ∙ rw (d, e)

  pub three_third : peeks (is_byte q) (drop i s) ≡ true → peeks (is_byte q) (drop (i + 1) s) ≡ true → starts_with (three_of q) (drop i s) ≡ peeks (is_byte q) (drop (i + 2) s)
  three_third d e = three_at ∙ rw (d, e) (cond_self _)

  three_true : (a b c : Bool) → three_by a b c ≡ true → c ≡ true
  three_true true true true e = refl
  three_true true true false e = absurd (false≢true e)
  three_true true false c e = absurd (false≢true e)
  three_true false b c e = absurd (false≢true e)

  pub three_within : starts_with (three_of q) (drop i s) ≡ true → i + 3 ≤ length s
  three_within e =
      let l : i + 2 < length s = peeks_within (is_byte q) s (i + 2) (three_true (peeks (is_byte q) (drop i s)) (peeks (is_byte q) (drop (i + 1) s)) _ (sym three_at ∙ e)) in
      omega (arith, l)

  -- up to two more
  up_at : up_to_two q (drop i s) ≡ cond (peeks (is_byte q) (drop i s)) (cond (peeks (is_byte q) (drop (i + 1) s)) 2 1) 0
  up_at = ap (λ (l : List ℕ). cond (peeks (is_byte q) (drop i s)) (cond (peeks (is_byte q) l) 2 1) 0) (dropped s i)

  pub up_none : peeks (is_byte q) (drop i s) ≡ false → up_to_two q (drop i s) ≡ 0
  up_none e = up_at ∙ rw e

  pub up_one : peeks (is_byte q) (drop i s) ≡ true → peeks (is_byte q) (drop (i + 1) s) ≡ false → up_to_two q (drop i s) ≡ 1
  up_one d e = up_at ∙ rw (d, e)

  pub up_two : peeks (is_byte q) (drop i s) ≡ true → peeks (is_byte q) (drop (i + 1) s) ≡ true → up_to_two q (drop i s) ≡ 2
  up_two d e = up_at ∙ rw (d, e)

-- a byte of a literal string
module _ (s : List ℕ) (i : ℕ) (h : i < length s) where
  pub literal_close : get_or s i 0 ≡ apostrophe → lex_literal_string (drop i s) ≡ 1
  unfolding lex_literal_string
  literal_close e = rw (here s i h, e)

  pub literal_line : get_or s i 0 ≡ line_feed → lex_literal_string (drop i s) ≡ 0
  unfolding lex_literal_string
  literal_line e = rw (here s i h, e)

  pub literal_on : (get_or s i 0 ≡ apostrophe → ⊥) → (get_or s i 0 ≡ line_feed → ⊥) → lex_literal_string (drop i s) ≡ suc (lex_literal_string (drop (i + 1) s))
  unfolding lex_literal_string
  literal_on d e = rw (here s i h) (simp (ne_eqb _ _ d, ne_eqb _ _ e))

-- what an escape takes with it
and_false : (b : Bool) → (b && false) ≡ false
and_false true = refl
and_false false = refl

takes_on : (rule : Bool → List ℕ → ℕ) → ((t : Bool) → rule t [] ≡ 0) → ((b : ℕ) (bs : List ℕ) → rule true (b ∷ bs) ≡ suc (rule false bs)) → (b : ℕ) (bs : List ℕ) → rule (takes_next b bs) bs ≡ taken b bs + rule false (drop (taken b bs) bs)
unfolding peeks
takes_on rule none more b [] = none _ ∙ rw (and_false (eqb b backslash)) (let e : 0 ≡ 0 + rule false [] = omega (arith, none false) in e)
takes_on rule none more b (d ∷ bs) = by_test (takes_next b (d ∷ bs))
  where
    by_test : (t : Bool) → rule t (d ∷ bs) ≡ cond t 1 0 + rule false (drop (cond t 1 0) (d ∷ bs))
    by_test true = more d bs ∙ (let e : suc (rule false bs) ≡ 1 + rule false bs = omega arith in e)
    by_test false = let e : rule false (d ∷ bs) ≡ 0 + rule false (d ∷ bs) = omega arith in e

-- a byte of a basic string
basic_none : (t : Bool) → lex_basic_string t [] ≡ 0
unfolding lex_basic_string
basic_none true = refl
basic_none false = refl

basic_escaped : (b : ℕ) (bs : List ℕ) → lex_basic_string true (b ∷ bs) ≡ suc (lex_basic_string false bs)
unfolding lex_basic_string
basic_escaped b bs = refl

ml_none : (t : Bool) → lex_ml_basic_string t [] ≡ 0
unfolding lex_ml_basic_string
ml_none true = refl
ml_none false = refl

ml_escaped : (b : ℕ) (bs : List ℕ) → lex_ml_basic_string true (b ∷ bs) ≡ suc (lex_ml_basic_string false bs)
unfolding lex_ml_basic_string
ml_escaped b bs = refl

module _ (s : List ℕ) (i : ℕ) (h : i < length s) where
  pub basic_close : get_or s i 0 ≡ quotation_mark → lex_basic_string false (drop i s) ≡ 1
  unfolding lex_basic_string
  basic_close e = rw (here s i h, e)

  pub basic_line : get_or s i 0 ≡ line_feed → lex_basic_string false (drop i s) ≡ 0
  unfolding lex_basic_string
  basic_line e = rw (here s i h, e)

  -- on to j, behind what an escape takes with it
  module _ (j : ℕ) (x : j ≡ i + 1 + taken (get_or s i 0) (drop (i + 1) s)) where
    rest_is : drop (taken (get_or s i 0) (drop (i + 1) s)) (drop (i + 1) s) ≡ drop j s
    rest_is = drop-drop _ (i + 1) s ∙ ap (λ (n : ℕ). drop n s) (sym x)

    behind_it : (rule : Bool → List ℕ → ℕ) → ((t : Bool) → rule t [] ≡ 0) → ((b : ℕ) (bs : List ℕ) → rule true (b ∷ bs) ≡ suc (rule false bs)) → i + suc (rule (takes_next (get_or s i 0) (drop (i + 1) s)) (drop (i + 1) s)) ≡ j + rule false (drop j s)
    behind_it rule none on =
        let e = takes_on rule none on (get_or s i 0) (drop (i + 1) s) ∙ ap (λ (l : List ℕ). taken (get_or s i 0) (drop (i + 1) s) + rule false l) rest_is in
        omega (arith, x, e)

    pub basic_on : (get_or s i 0 ≡ quotation_mark → ⊥) → (get_or s i 0 ≡ line_feed → ⊥) → i + lex_basic_string false (drop i s) ≡ j + lex_basic_string false (drop j s)
    unfolding lex_basic_string
    basic_on d e = ap (λ (l : List ℕ). i + lex_basic_string false l) (here s i h) ∙ simp (ne_eqb _ _ d, ne_eqb _ _ e) (behind_it lex_basic_string basic_none basic_escaped)

    pub ml_basic_on : starts_with (three_of quotation_mark) (drop i s) ≡ false → i + lex_ml_basic_string false (drop i s) ≡ j + lex_ml_basic_string false (drop j s)
    unfolding lex_ml_basic_string
    ml_basic_on e =
        ap (λ (l : List ℕ). i + lex_ml_basic_string false l) (here s i h)
        ∙ rw (rw (here s i h) at e) (behind_it lex_ml_basic_string ml_none ml_escaped)

  pub ml_basic_close : starts_with (three_of quotation_mark) (drop i s) ≡ true → lex_ml_basic_string false (drop i s) ≡ 3 + up_to_two quotation_mark (drop (i + 3) s)
  unfolding lex_ml_basic_string
  ml_basic_close e =
      ap (lex_ml_basic_string false) (here s i h)
      ∙ rw (rw (here s i h) at e) (ap (λ (l : List ℕ). 3 + up_to_two quotation_mark l) (dropped_three s i))

  pub ml_literal_close : starts_with (three_of apostrophe) (drop i s) ≡ true → lex_ml_literal_string (drop i s) ≡ 3 + up_to_two apostrophe (drop (i + 3) s)
  unfolding lex_ml_literal_string
  ml_literal_close e =
      ap lex_ml_literal_string (here s i h)
      ∙ rw (rw (here s i h) at e) (ap (λ (l : List ℕ). 3 + up_to_two apostrophe l) (dropped_three s i))

  pub ml_literal_on : starts_with (three_of apostrophe) (drop i s) ≡ false → lex_ml_literal_string (drop i s) ≡ suc (lex_ml_literal_string (drop (i + 1) s))
  unfolding lex_ml_literal_string
  ml_literal_on e = ap lex_ml_literal_string (here s i h) ∙ rw (rw (here s i h) at e)

-- a byte that is none of those that end a token is passed over
not_first : (x : ℕ) (xs : List ℕ) (b : ℕ) → none_of (x ∷ xs) b ≡ true → eqb b x ≡ false
not_first x xs b e = by_test (eqb b x) e
  where
    by_test : (t : Bool) → cond t false (none_of xs b) ≡ true → t ≡ false
    by_test true q = absurd (false≢true q)
    by_test false q = refl

not_rest : (x : ℕ) (xs : List ℕ) (b : ℕ) → none_of (x ∷ xs) b ≡ true → none_of xs b ≡ true
not_rest x xs b e = by_test (eqb b x) e
  where
    by_test : (t : Bool) → cond t false (none_of xs b) ≡ true → none_of xs b ≡ true
    by_test true q = absurd (false≢true q)
    by_test false q = q

module _ (b : ℕ) (bs : List ℕ) where
  pub comment_passes : in_comment b ≡ true → lex_comment (b ∷ bs) ≡ suc (lex_comment bs)
  unfolding until
  comment_passes e =
      rw (not_first carriage_return (line_feed ∷ 0 ∷ []) b e, not_first line_feed (0 ∷ []) b (not_rest carriage_return (line_feed ∷ 0 ∷ []) b e))

  pub literal_passes : in_literal b ≡ true → lex_literal_string (b ∷ bs) ≡ suc (lex_literal_string bs)
  unfolding lex_literal_string
  literal_passes e =
      rw (not_first apostrophe (line_feed ∷ 0 ∷ []) b e, not_first line_feed (0 ∷ []) b (not_rest apostrophe (line_feed ∷ 0 ∷ []) b e))

  three_not : (q : ℕ) → eqb b q ≡ false → starts_with (three_of q) (b ∷ bs) ≡ false
  unfolding peeks
  three_not q e = rw e

  pub ml_literal_passes : in_ml_literal b ≡ true → lex_ml_literal_string (b ∷ bs) ≡ suc (lex_ml_literal_string bs)
  unfolding lex_ml_literal_string
  ml_literal_passes e = rw (three_not apostrophe (not_first apostrophe (0 ∷ 127 ∷ []) b e))

  pub basic_passes : in_basic b ≡ true → lex_basic_string false (b ∷ bs) ≡ suc (lex_basic_string false bs)
  unfolding lex_basic_string
  basic_passes e =
      let r : none_of (backslash ∷ line_feed ∷ []) b ≡ true = not_rest quotation_mark (backslash ∷ line_feed ∷ []) b e in
      rw (not_first quotation_mark (backslash ∷ line_feed ∷ []) b e, not_first line_feed [] b (not_rest backslash (line_feed ∷ []) b r), not_first backslash (line_feed ∷ []) b r)

  pub ml_basic_passes : in_ml_basic b ≡ true → lex_ml_basic_string false (b ∷ bs) ≡ suc (lex_ml_basic_string false bs)
  unfolding lex_ml_basic_string
  ml_basic_passes e =
      rw (three_not quotation_mark (not_first quotation_mark (backslash ∷ 0 ∷ []) b e), not_first backslash (0 ∷ []) b (not_rest quotation_mark (backslash ∷ 0 ∷ []) b e))
