-- The check of a list: refusals 1 to 5 in document 01's order, with their places. Assumes nothing.
use Rattle.std.specs.Prelude.{Bool, true, false, cond, List, ℕ, zero, suc, ◌+◌, ◌%◌, length, eqb, ltb, Option, Some, None, Result, Ok, Err}
use Rattle.token.specs.declared.refusal.Refusal.{Refusal}
use Rattle.token.specs.declared.checked.Refused.{Refused}
use Rattle.token.specs.Limits.{max_records, max_end}
use Rattle.token.specs.Kinds.{kind_of, width_of, width_fits}
use Rattle.token.specs.Records.{count, length_at, kind_number_at}

-- what the check of a list answers
abbrev pub Checked : Type 0
Checked = Result (Unit {0}) Refused

abbrev pub refused_for : Refusal → ℕ → Checked
refused_for refusal place = Err (record { refusal = refusal; place = place })

-- at one record: 3, a kind outside 1 to 16; 4, a length wrong for its kind; 5, an end beyond the limit; or none of these
abbrev pub record_refusal : ℕ → ℕ → ℕ → Option Refusal
record_refusal kind length end =
    cond (ltb kind 1) (Some Refusal.Kind)
    (cond (ltb 16 kind) (Some Refusal.Kind) (cond (width_fits (width_of (kind_of kind)) length) (cond (ltb max_end end) (Some Refusal.Bytes) None) (Some Refusal.Length)))

-- the first bad record decides: `rest` is what the later ones say
abbrev pub refused_at : Option Refusal → ℕ → Checked → Checked
refused_at None i rest = rest
refused_at (Some refusal) i rest = refused_for refusal i

-- n records from record i on, which starts at p
unfoldable pub checked_from : ℕ → List ℕ → ℕ → ℕ → Checked
checked_from zero s i p = Ok tt
checked_from (suc n) s i p =
    refused_at (record_refusal (kind_number_at s i) (length_at s i) (p + length_at s i)) i (checked_from n s (suc i) (p + length_at s i))

-- whether no record is refused
abbrev pub passed : Checked → Bool
passed (Ok u) = true
passed (Err e) = false

-- 1, the byte length is no multiple of 6; 2, too many records; 5, the base is beyond the limit; then record by record
unfoldable pub checked : List ℕ → ℕ → Checked
checked s base =
    cond (eqb (length s % 6) 0)
    (cond (ltb max_records (count s))
    (refused_for Refusal.Records max_records)
    (cond (ltb max_end base) (refused_for Refusal.Bytes 0) (checked_from (count s) s 0 base)))
    (refused_for Refusal.PartialRecord (count s))
