-- Laws of records made from structs: their length, a turn of the copying loop, and the refusal of a list that is too long.
-- Proved; nothing here needs to be believed.
use mathlib.Core.Path.{◌≡◌, refl, sym, ap, ◌∙◌}
use mathlib.Core.Bool.{true}
use Rattle.std.specs.Prelude.{Option, Some, None}
use mathlib.Core.List.{List, [], ◌∷◌, ◌++◌}
use Prim.Native.Nat.{ℕ, ◌+◌, ◌*◌, ◌/◌, ◌%◌, ◌≤◌, ◌<◌}
use native.Mathlib.Omega.{arith}
use native.Mathlib.Numerals.{add-one}
use lib.Dec.{eqb, ltb}
use lib.ListN.{length, get_or, take, drop, length-drop, take-append-drop, drop_of_length-le}
use lib.Seq.{take_at, drop-cons}
use borrow.Author.Tests.{lt-ltb, eq-eqb}
use Rattle.token.specs.Limits.{max_records}
use Rattle.token.specs.Check.{checked}
use Rattle.token.specs.Writing.{record_of, put_at}
use Rattle.token.specs.WritingLaws.{written_from, written_record}
use Rattle.rules.specs.Entries.{document_entry}
use Rattle.rules.specs.declared.options.Options.{Options}
use Rattle.rules.specs.declared.answer.Answer.{Answer}
use Rattle.rules.specs.Answer.{outcome}
use Rattle.choices.specs.Modes.{chosen_by, outcome_of, AnswersIn}
use Rattle.struct_records.specs.declared.Token.{Token}
use Rattle.struct_records.specs.Structs.{records_of, too_many_by, too_many}

-- what stands for an element beyond the end
abbrev pub none : Token
none = record { length = 0; kind = 0 }

pub length_records : (ys : List Token) → length (records_of ys) ≡ 6 * length ys
unfolding records_of
length_records [] = refl
length_records (y ∷ ys) = let h = length_records ys in omega (arith, h)

-- the records stand before what was behind them
pub first_records : (ys : List Token) (s : List ℕ) → take (6 * length ys) (records_of ys ++ s) ≡ records_of ys
first_records ys s = take_at (records_of ys) s (6 * length ys) (length_records ys)

-- the records of the structs before i are in s: what the loop is to leave, from there
abbrev pub Copied : List Token → ℕ → List ℕ → List ℕ
Copied ys i s = take (6 * i) s ++ (records_of (drop i ys) ++ drop (6 * length ys) s)

records_from : (ys : List Token) (i : ℕ) → i < length ys → records_of (drop i ys) ≡ record_of (get_or ys i none).length (get_or ys i none).kind ++ records_of (drop (i + 1) ys)
unfolding records_of
records_from ys i less = rw (add-one, drop-cons ys i none)

-- that is what writing the records from i on leaves
copied_is : (ys : List Token) (i : ℕ) (s : List ℕ) → i ≤ length ys → Copied ys i s ≡ written_from (records_of (drop i ys)) i s
copied_is ys i s h =
    let l = length_records (drop i ys) in
    let e : 6 * length ys ≡ 6 * i + length (records_of (drop i ys)) = omega (arith, l, length-drop i ys) in
    ap (λ (k : ℕ). take (6 * i) s ++ (records_of (drop i ys) ++ drop k s)) e

pub copy_step : (ys : List Token) (i : ℕ) (s : List ℕ) → i < length ys → 6 * length ys ≤ length s → Copied ys (i + 1) (put_at s i (get_or ys i none).length (get_or ys i none).kind) ≡ Copied ys i s
copy_step ys i s less h =
    let t : Token = get_or ys i none in
    let l = length_records (drop (i + 1) ys) in
    let room : 6 * i + 6 + length (records_of (drop (i + 1) ys)) ≤ length s = omega (arith, l, length-drop (i + 1) ys) in
    copied_is ys (i + 1) (put_at s i t.length t.kind) (omega arith)
    ∙ written_record (records_of (drop (i + 1) ys)) i t.length t.kind s room
    ∙ ap (λ (r : List ℕ). written_from r i s) (sym (records_from ys i less))
    ∙ sym (copied_is ys i s (omega arith))

pub copy_done : (ys : List Token) (i : ℕ) (s : List ℕ) → i ≤ length ys → length ys ≤ i → Copied ys i s ≡ s
unfolding records_of
copy_done ys i s le ge =
    let e : i ≡ length ys = omega arith in
    ap (λ (l : List Token). take (6 * i) s ++ (records_of l ++ drop (6 * length ys) s)) (drop_of_length-le ys ge)
    ∙ ap (λ (k : ℕ). take (6 * k) s ++ drop (6 * length ys) s) e
    ∙ take-append-drop (6 * length ys) s

-- more structs than there may be records: refusal 2, as for their records, or an unknown mode
too_many_known : (options : Options) (ys : List Token) (base : ℕ) (events errors : List ℕ) → max_records < length ys
    → record { answer = record { refusal = 2; place = max_records; events = 0; errors = 0 }; events = events; errors = errors } ≡ outcome options document_entry (records_of ys) base events errors
unfolding outcome checked
too_many_known options ys base events errors h =
    let l = length_records ys in
    let whole : eqb (length (records_of ys) % 6) 0 ≡ true = eq-eqb (length (records_of ys) % 6) 0 (omega (arith, l)) in
    let many : ltb max_records (length (records_of ys) / 6) ≡ true = lt-ltb max_records (length (records_of ys) / 6) (omega (arith, l)) in
    rw (whole, many)

too_many_by_lem : (x : Option Options) (ys : List Token) (base : ℕ) (events errors : List ℕ) → max_records < length ys
    → record { answer = too_many_by x; events = events; errors = errors } ≡ outcome_of x document_entry (records_of ys) base events errors
too_many_by_lem (Some options) ys base events errors h = too_many_known options ys base events errors h
too_many_by_lem None ys base events errors h = refl

pub too_many_lem : (mode : ℕ) (ys : List Token) (base : ℕ) (events errors : List ℕ) (r : Answer) → max_records < length ys → r ≡ too_many mode → AnswersIn mode document_entry (records_of ys) base events errors events errors r
too_many_lem mode ys base events errors r h e = ap (λ (z : Answer). record { answer = z; events = events; errors = errors }) e ∙ too_many_by_lem (chosen_by mode) ys base events errors h
