-- The answer, by what is asked first. Proved; nothing here needs to be believed.
use mathlib.Core.Path.{◌≡◌, refl, ap, ap₂, sym, subst, ◌∙◌}
use native.Mathlib.Omega.{arith}
use mathlib.Core.Bool.{Bool, true, false, cond}
use mathlib.Core.List.{List}
use Prim.Native.Nat.{ℕ, ◌/◌, ◌<◌, ◌≤◌}
use lib.ListN.{length}
use lib.Dec.{ltb}
use borrow.Author.Tests.{ltb-true, lt-ltb, le-ltb, eq-eqb, ne_eqb}
use Rattle.std.specs.Prelude.{Ok, Err}
use Rattle.token.specs.declared.checked.Refused.{Refused}
use Rattle.token.specs.Refusals.{refusal_number}
use Rattle.token.specs.Tokens.{Tok, all_tokens}
use Rattle.token.specs.Check.{checked, Checked}
use Rattle.token.specs.Limits.{max_end}
use Rattle.token.specs.Records.{count, start_at}
use Rattle.token.specs.CheckLaws.{checked_passes, passed_good}
use Rattle.rules.specs.Answer.{event_size, error_size, Outcome, filled}
use Rattle.mistake_rules.specs.declared.answer.Listed.{Listed}
use Rattle.mistake_rules.specs.Mistakes.{Mistake, mistakes_in, all_words}
use Rattle.mistake_rules.specs.Sheets.{Sheet}
use Rattle.mistake_rules.specs.Outcome.{no_room_for_mistakes, Listing, unlisted, listed, listed_held, listed_by, listing, ListingDetermined}

-- the text of a list that passes the check ends within the limit
pub passed_end : (s : List ℕ) (base : ℕ) → checked s base ≡ Ok tt → start_at s base (count s) ≤ max_end
passed_end s base p = (passed_good s base (record { at = 0; place = base; base = base }) (checked_passes s base p) (record { base = refl; at = refl; place = refl })).most

-- an answer without a list
pub answered : {r : Listed} (refusal place : ℕ) (buffer : List ℕ) → r ≡ record { refusal = refusal; place = place; mistakes = 0 } → record { answer = r; buffer = buffer } ≡ unlisted refusal place buffer
answered refusal place buffer e = ap (λ (x : Listed). record { answer = x; buffer = buffer }) e

module _ (all : List Tok) (run : Outcome) (buffer : List ℕ) where
  abbrev found : List Mistake
  found = mistakes_in run.answer.events run.events run.answer.errors run.errors

  abbrev held : Bool → Bool → Listing
  held a b = cond a (unlisted 7 0 buffer) (cond b (unlisted 8 0 buffer) (listed all found buffer))

  abbrev short_events : Bool
  short_events = ltb (length run.events / event_size) run.answer.events

  abbrev short_errors : Bool
  short_errors = ltb (length run.errors / error_size) run.answer.errors

  pub events_short : length run.events / event_size < run.answer.events → unlisted 7 0 buffer ≡ listed_held all run buffer
  events_short h = ap (λ (t : Bool). held t short_errors) (sym (lt-ltb _ _ h))

  module _ (h : run.answer.events ≤ length run.events / event_size) where
    pub errors_short : length run.errors / error_size < run.answer.errors → unlisted 8 0 buffer ≡ listed_held all run buffer
    errors_short g = ap₂ held (sym (le-ltb _ _ h)) (sym (lt-ltb _ _ g))

    pub held_listed : run.answer.errors ≤ length run.errors / error_size → listed_held all run buffer ≡ listed all found buffer
    held_listed g = sym (ap₂ held (sym (le-ltb _ _ h)) (sym (le-ltb _ _ g)))

    module _ (g : run.answer.errors ≤ length run.errors / error_size) (k : ℕ) (after : List ℕ)
        (e : ◌≡◌ {A = Sheet} (record { count = k; buffer = after }) (record { count = length found; buffer = filled error_size (all_words all found) buffer })) where
      abbrev answer : Bool → Sheet → Listing
      answer t x = record { answer = record { refusal = cond t no_room_for_mistakes 0; place = 0; mistakes = x.count }; buffer = x.buffer }

      counted : (t : Bool) → ltb (length buffer / error_size) k ≡ t → answer t (record { count = k; buffer = after }) ≡ listed_held all run buffer
      counted t q =
          ap (λ (u : Bool). answer u (record { count = k; buffer = after })) (sym q ∙ ap (λ (x : Sheet). ltb (length buffer / error_size) x.count) e)
          ∙ ap (answer (ltb (length buffer / error_size) (length found))) e
          ∙ sym (held_listed g)

      pub mistakes_short : length buffer / error_size < k → record { answer = record { refusal = no_room_for_mistakes; place = 0; mistakes = k }; buffer = after } ≡ listed_held all run buffer
      mistakes_short l = counted true (lt-ltb _ _ l)

      pub mistakes_held : k ≤ length buffer / error_size → record { answer = record { refusal = 0; place = 0; mistakes = k }; buffer = after } ≡ listed_held all run buffer
      mistakes_held l = counted false (le-ltb _ _ l)

  -- what is counted, by the three tests
  abbrev counted_by : Bool → Bool → Bool → Listed
  counted_by a b c =
      cond a (record { refusal = 7; place = 0; mistakes = 0 })
      (cond b (record { refusal = 8; place = 0; mistakes = 0 })
      (record { refusal = cond c no_room_for_mistakes 0; place = 0; mistakes = length found }))

  abbrev short_mistakes : Bool
  short_mistakes = ltb (length buffer / error_size) (length found)

  answer_by : (a b : Bool) → (held a b).answer ≡ counted_by a b short_mistakes
  answer_by true b = refl
  answer_by false true = refl
  answer_by false false = refl

  zero_by : (a b c : Bool) → (counted_by a b c).refusal ≡ 0 → (counted_by a b c).mistakes ≡ length found
  zero_by true b c z = absurd (omega (arith, z))
  zero_by false true c z = absurd (omega (arith, z))
  zero_by false false c z = refl

  most_by : (a b c : Bool) → (counted_by a b c).mistakes ≤ length found
  most_by true b c = omega arith
  most_by false true c = omega arith
  most_by false false c = omega arith

  short_by : (a b c : Bool) → (counted_by a b c).refusal ≡ no_room_for_mistakes → c ≡ true
  short_by true b c z = absurd (omega (arith, z))
  short_by false true c z = absurd (omega (arith, z))
  short_by false false true z = refl
  short_by false false false z = absurd (omega (arith, z))

  pub held_counted : (listed_held all run buffer).answer.refusal ≡ 0 → (listed_held all run buffer).answer.mistakes ≡ length found
  held_counted z =
      let e = answer_by short_events short_errors in
      ap (λ (x : Listed). x.mistakes) e ∙ zero_by short_events short_errors short_mistakes (ap (λ (x : Listed). x.refusal) (sym e) ∙ z)

  pub held_most : (listed_held all run buffer).answer.mistakes ≤ length found
  held_most = subst (λ (x : Listed). x.mistakes ≤ length found) (sym (answer_by short_events short_errors)) (most_by short_events short_errors short_mistakes)

  pub held_short : (listed_held all run buffer).answer.refusal ≡ no_room_for_mistakes → length buffer / error_size < length found
  held_short z = ltb-true _ _ (short_by short_events short_errors short_mistakes (ap (λ (x : Listed). x.refusal) (sym (answer_by short_events short_errors)) ∙ z))

module _ (s : List ℕ) (base : ℕ) (run : Outcome) (buffer : List ℕ) where
  abbrev judged_by : Bool → Checked → Listing
  judged_by t c = cond t (listed_by c (all_tokens s base) run buffer) (unlisted run.answer.refusal run.answer.place buffer)

  -- a run that was refused
  pub run_refused : (run.answer.refusal ≡ 0 → ⊥) → unlisted run.answer.refusal run.answer.place buffer ≡ listing s base run buffer
  unfolding listing
  run_refused h = ap (λ (t : Bool). judged_by t (checked s base)) (sym (ne_eqb _ 0 h))

  -- records that are
  pub records_refused : (r : Refused) → run.answer.refusal ≡ 0 → checked s base ≡ Err r → unlisted (refusal_number r.refusal) r.place buffer ≡ listing s base run buffer
  unfolding listing
  records_refused r h e = ap₂ judged_by (sym (eq-eqb _ 0 h)) (sym e)

  -- or not
  pub records_passed : run.answer.refusal ≡ 0 → checked s base ≡ Ok tt → listed_held (all_tokens s base) run buffer ≡ listing s base run buffer
  unfolding listing
  records_passed h e = ap₂ judged_by (sym (eq-eqb _ 0 h)) (sym e)

  pub determined : ListingDetermined s base run buffer
  determined x y p q = p ∙ sym q
