-- The counts of an answer are within the most, and with room for it no refusal comes for want of room. Proved; nothing here needs to be
-- believed.
use Rattle.std.specs.Prelude.{◌≡◌, Bool, true, false, cond, List, ℕ, zero, suc, ◌+◌, ◌*◌, ◌/◌, ◌%◌, ◌≤◌, eqb, ltb, Option, Some, None, Ok, Err}
use Rattle.std.proofs.Common.{subst, le-ltb}
use native.Mathlib.Omega.{arith}
use Rattle.std.proofs.Math.ListN.{length}
use Rattle.token.specs.declared.refusal.Refusal.{Refusal}
use Rattle.token.specs.Refusals.{refusal_number}
use Rattle.token.specs.Limits.{max_records, max_end}
use Rattle.token.specs.Kinds.{kind_of, width_of, width_fits}
use Rattle.token.specs.Records.{count, length_at, kind_number_at}
use Rattle.token.specs.Tokens.{all_tokens}
use Rattle.token.specs.Check.{record_refusal, refused_at, checked_from, checked, Checked}
use Rattle.token.specs.CursorLaws.{all_length}
use Rattle.rules.specs.declared.options.Options.{Options}
use Rattle.rules.specs.Words.{events_of, errors_of, Halt, ended, refused_level, halt_of}
use Rattle.rules.specs.Entries.{Entry, parse}
use Rattle.rules.specs.Answer.{event_size, error_size, refusal_by, walked, outcome_by, outcome}
use Rattle.bounds.specs.Most.{most_events, most_errors}
use Rattle.bounds.proofs.EntryRates.{most_events_lem, most_errors_lem}
use Rattle.bounds.proofs.Bounds.{three_events, two_errors}

-- a refusal of the check is one of 1 to 5
abbrev Low : Checked → Type 0
Low (Ok u) = Unit {0}
Low (Err r) = refusal_number r.refusal ≤ 5

cond_low : (t : Bool) (a b : Checked) → Low a → Low b → Low (cond t a b)
cond_low true a b m n = m
cond_low false a b m n = n

abbrev LowAt : Option Refusal → Type 0
LowAt None = Unit {0}
LowAt (Some r) = refusal_number r ≤ 5

cond_five : (t : Bool) (a b : Option Refusal) → LowAt a → LowAt b → LowAt (cond t a b)
cond_five true a b m n = m
cond_five false a b m n = n

record_five : (k n e : ℕ) → LowAt (record_refusal k n e)
record_five k n e =
    cond_five (ltb k 1) _ _ (omega arith)
    (cond_five (ltb 16 k) _ _ (omega arith) (cond_five (width_fits (width_of (kind_of k)) n) _ _ (cond_five (ltb max_end e) _ _ (omega arith) tt) (omega arith)))

at_low : (r : Option Refusal) (i : ℕ) (rest : Checked) → LowAt r → Low rest → Low (refused_at r i rest)
at_low None i rest h n = n
at_low (Some r) i rest h n = h

from_low : (n : ℕ) (s : List ℕ) (i p : ℕ) → Low (checked_from n s i p)
unfolding checked_from
from_low zero s i p = tt
from_low (suc n) s i p = at_low _ i _ (record_five (kind_number_at s i) (length_at s i) (p + length_at s i)) (from_low n s (suc i) (p + length_at s i))

checked_low : (s : List ℕ) (base : ℕ) → Low (checked s base)
unfolding checked
checked_low s base =
    cond_low (eqb (length s % 6) 0) _ _
    (cond_low (ltb max_records (count s)) _ _ (omega arith) (cond_low (ltb max_end base) _ _ (omega arith) (from_low (count s) s 0 base)))
    (omega arith)

-- 7 comes only where the events do not fit, 8 only where the errors do not
not_seven : (h : Halt) (short_errors : Bool) → refusal_by h false short_errors ≡ 7 → ⊥
not_seven ended true e = omega (arith, e)
not_seven ended false e = omega (arith, e)
not_seven (refused_level n) short_errors e = omega (arith, e)

not_eight : (h : Halt) (short_events : Bool) → refusal_by h short_events false ≡ 8 → ⊥
not_eight ended true e = omega (arith, e)
not_eight ended false e = omega (arith, e)
not_eight (refused_level n) short_events e = omega (arith, e)

low_refusal : (h : Halt) (short_events short_errors : Bool) → refusal_by h short_events short_errors ≤ 8
low_refusal ended true short_errors = omega arith
low_refusal ended false true = omega arith
low_refusal ended false false = omega arith
low_refusal (refused_level n) short_events short_errors = omega arith

module _ (options : Options) (e : Entry) (s : List ℕ) (base : ℕ) (events errors : List ℕ) where
  passed_events : length (events_of (all_tokens s base) (parse e (all_tokens s base)).items) ≤ most_events e (count s)
  passed_events = subst (λ (n : ℕ). length (events_of (all_tokens s base) (parse e (all_tokens s base)).items) ≤ most_events e n) (all_length s base) (most_events_lem e (all_tokens s base) (all_tokens s base))

  passed_errors : length (errors_of options.mode (all_tokens s base) (parse e (all_tokens s base)).items) ≤ most_errors e (count s)
  passed_errors = subst (λ (n : ℕ). length (errors_of options.mode (all_tokens s base) (parse e (all_tokens s base)).items) ≤ most_errors e n) (all_length s base) (most_errors_lem options.mode e (all_tokens s base) (all_tokens s base))

  by_check : (c : Checked) → ((outcome_by c options e s base events errors).answer.events ≤ most_events e (count s)) × ((outcome_by c options e s base events errors).answer.errors ≤ most_errors e (count s))
  unfolding walked
  by_check (Ok u) = (passed_events, passed_errors)
  by_check (Err r) = (omega arith, omega arith)

  pub counts_most : ((outcome options e s base events errors).answer.events ≤ most_events e (count s)) × ((outcome options e s base events errors).answer.errors ≤ most_errors e (count s))
  unfolding outcome
  counts_most = by_check (checked s base)

  pub counts_within : ((outcome options e s base events errors).answer.events ≤ 3 * count s) × ((outcome options e s base events errors).answer.errors ≤ 2 * count s + 1)
  counts_within = (omega (arith, counts_most.0, three_events e (count s)), omega (arith, counts_most.1, two_errors e (count s)))

  seven_by : (c : Checked) → Low c → most_events e (count s) ≤ length events / event_size → (outcome_by c options e s base events errors).answer.refusal ≡ 7 → ⊥
  unfolding walked
  seven_by (Ok u) low h q =
      let fits : length (events_of (all_tokens s base) (parse e (all_tokens s base)).items) ≤ length events / event_size = omega (arith, h, passed_events) in
      not_seven (halt_of (parse e (all_tokens s base)).items) _
      (subst (λ (b : Bool). refusal_by (halt_of (parse e (all_tokens s base)).items) b (ltb (length errors / error_size) (length (errors_of options.mode (all_tokens s base) (parse e (all_tokens s base)).items))) ≡ 7) (le-ltb _ _ fits) q)
  seven_by (Err r) low h q = omega (arith, low, q)

  eight_by : (c : Checked) → Low c → most_errors e (count s) ≤ length errors / error_size → (outcome_by c options e s base events errors).answer.refusal ≡ 8 → ⊥
  unfolding walked
  eight_by (Ok u) low h q =
      let fits : length (errors_of options.mode (all_tokens s base) (parse e (all_tokens s base)).items) ≤ length errors / error_size = omega (arith, h, passed_errors) in
      not_eight (halt_of (parse e (all_tokens s base)).items) _
      (subst (λ (b : Bool). refusal_by (halt_of (parse e (all_tokens s base)).items) (ltb (length events / event_size) (length (events_of (all_tokens s base) (parse e (all_tokens s base)).items))) b ≡ 8) (le-ltb _ _ fits) q)
  eight_by (Err r) low h q = omega (arith, low, q)

  -- room for the most events, and for the most errors
  pub room_events : most_events e (count s) ≤ length events / event_size → (outcome options e s base events errors).answer.refusal ≡ 7 → ⊥
  unfolding outcome
  room_events = seven_by (checked s base) (checked_low s base)

  pub room_errors : most_errors e (count s) ≤ length errors / error_size → (outcome options e s base events errors).answer.refusal ≡ 8 → ⊥
  unfolding outcome
  room_errors = eight_by (checked s base) (checked_low s base)

  -- no other refusal comes
  eight_most : (c : Checked) → Low c → (outcome_by c options e s base events errors).answer.refusal ≤ 8
  unfolding walked
  eight_most (Ok u) low = low_refusal (halt_of (parse e (all_tokens s base)).items) _ _
  eight_most (Err r) low = omega (arith, low)

  pub refusal_most : (outcome options e s base events errors).answer.refusal ≤ 8
  unfolding outcome
  refusal_most = eight_most (checked s base) (checked_low s base)
