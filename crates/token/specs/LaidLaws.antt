-- Tokens that lie end to end, written as records, are read again and pass the check. Proved; nothing here needs to be believed.
use Rattle.std.specs.Prelude.{◌≡◌, refl, true, ℕ, zero, suc, ◌+◌, ◌-◌, ◌%◌, ◌≤◌, length, Option, Some, None, Ok, Err}
use Rattle.std.proofs.Math.Path.{ap}
use Rattle.std.proofs.Common.{sym, subst, ◌∙◌, arith, le-ltb, eq-eqb, le-leb}
use mathlib.Core.List.{List, ◌∷◌, ◌++◌}
use Rattle.token.specs.declared.kind.Kind.{Kind}
use Rattle.token.specs.declared.refusal.Refusal.{Refusal}
use Rattle.token.specs.Limits.{max_records, max_end}
use Rattle.token.specs.Kinds.{Width, one_byte, no_byte, some_bytes, number_of, kind_of, width_of, width_fits}
use Rattle.token.specs.KindLaws.{kind_back, number_range}
use Rattle.token.specs.Records.{count, length_at, kind_number_at, kind_at}
use Rattle.token.specs.Tokens.{Tok, tok, tokens_from, all_tokens}
use Rattle.token.specs.Check.{Checked, record_refusal, refused_at, checked_from, checked}
use Rattle.token.specs.CheckLaws.{checked_records}
use Rattle.token.specs.Laid.{Spans, Laid, laid_none, laid_token, end_of}
use Rattle.token.specs.Writing.{record_of, records_of}
use Rattle.token.specs.WritingLaws.{records_length}
use Rattle.token.specs.ReadingLaws.{first_length, first_kind_lem, length_behind, kind_behind, tokens_behind}

-- no token ends before it starts
spans_up : (w : Width) (p e : ℕ) → Spans w p e → p ≤ e
spans_up one_byte p e h = omega (arith, h)
spans_up no_byte p e h = omega (arith, h)
spans_up some_bytes p e h = omega (arith, h)

pub end_up : {p : ℕ} {ts : List Tok} → Laid p ts → p ≤ end_of p ts
end_up laid_none = omega arith
end_up (laid_token {k} {p} {e} {ts} h x) = omega (arith, spans_up (width_of k) p e h, end_up x)

-- a token's record, with others behind it
module _ (k : Kind) (p e : ℕ) (s : List ℕ) (h : Spans (width_of k) p e) (l : e ≤ max_end) where
  abbrev bytes : List ℕ
  bytes = record_of (e - p) (number_of k) ++ s

  length_here : length_at bytes 0 ≡ e - p
  length_here = first_length (e - p) (number_of k) s (omega (arith, l))

  number_here : kind_number_at bytes 0 ≡ number_of k
  number_here = first_kind_lem (e - p) (number_of k) s (omega (arith, (number_range k).1))

  kind_here : kind_at bytes 0 ≡ k
  kind_here = ap kind_of number_here ∙ kind_back k

  ends_here : p + (e - p) ≡ e
  ends_here = omega (arith, spans_up (width_of k) p e h)

  -- is read as the token
  pub read_first : (n : ℕ) → tokens_from (suc n) bytes 0 p ≡ tok k p e ∷ tokens_from n s 0 e
  unfolding tokens_from
  read_first n =
      ap (λ (m : ℕ). tok (kind_at bytes 0) p (p + m) ∷ tokens_from n bytes 1 (p + m)) length_here
      ∙ ap (λ (m : ℕ). tok (kind_at bytes 0) p m ∷ tokens_from n bytes 1 m) ends_here
      ∙ ap (λ (j : Kind). tok j p e ∷ tokens_from n bytes 1 e) kind_here
      ∙ ap (λ (us : List Tok). tok k p e ∷ us) (tokens_behind (e - p) (number_of k) s n 0 e)

  fits_width : (w : Width) → Spans w p e → width_fits w (e - p) ≡ true
  fits_width one_byte x = eq-eqb (e - p) 1 (omega (arith, x))
  fits_width no_byte x = eq-eqb (e - p) 0 (omega (arith, x))
  fits_width some_bytes x = le-leb 1 (e - p) (omega (arith, x))

  -- and passes
  record_passes : record_refusal (number_of k) (e - p) e ≡ None
  record_passes = simp (le-ltb _ _ (number_range k).0, le-ltb _ _ (number_range k).1, kind_back k, fits_width (width_of k) h, le-ltb _ _ l)

  pub pass_first : (n : ℕ) → checked_from (suc n) bytes 0 p ≡ checked_from n bytes 1 e
  unfolding checked_from
  pass_first n =
      ap (λ (m : ℕ). refused_at (record_refusal m (length_at bytes 0) (p + length_at bytes 0)) 0 (checked_from n bytes 1 (p + length_at bytes 0))) number_here
      ∙ ap (λ (m : ℕ). refused_at (record_refusal (number_of k) m (p + m)) 0 (checked_from n bytes 1 (p + m))) length_here
      ∙ ap (λ (m : ℕ). refused_at (record_refusal (number_of k) (e - p) m) 0 (checked_from n bytes 1 m)) ends_here
      ∙ ap (λ (r : Option Refusal). refused_at r 0 (checked_from n bytes 1 e)) record_passes

-- what passes by itself passes behind a record
abbrev IsPassed : Checked → Type 0
IsPassed (Ok u) = Unit {0}
IsPassed (Err e) = ⊥

passes_on : (r : Option Refusal) (i j : ℕ) (rest rest' : Checked) → (rest ≡ Ok tt → rest' ≡ Ok tt) → refused_at r i rest ≡ Ok tt → refused_at r j rest' ≡ Ok tt
passes_on None i j rest rest' f e = f e
passes_on (Some r) i j rest rest' f e = absurd (subst IsPassed (sym e) tt)

pass_behind : (l k : ℕ) (s : List ℕ) (m i p : ℕ) → checked_from m s i p ≡ Ok tt → checked_from m (record_of l k ++ s) (suc i) p ≡ Ok tt
unfolding checked_from
pass_behind l k s zero i p e = refl
pass_behind l k s (suc m) i p e =
    rw (length_behind l k s i, kind_behind l k s i)
    (passes_on (record_refusal (kind_number_at s i) (length_at s i) (p + length_at s i)) i (suc i) _ _ (pass_behind l k s m (suc i) (p + length_at s i)) e)

-- tokens that end within the limit
tokens_back : {p : ℕ} {ts : List Tok} → Laid p ts → end_of p ts ≤ max_end → tokens_from (length ts) (records_of ts) 0 p ≡ ts
unfolding tokens_from records_of
tokens_back laid_none h = refl
tokens_back (laid_token {k} {p} {e} {ts} s x) h =
    read_first k p e (records_of ts) s (omega (arith, h, end_up x)) (length ts) ∙ ap (λ (us : List Tok). tok k p e ∷ us) (tokens_back x h)

check_back : {p : ℕ} {ts : List Tok} → Laid p ts → end_of p ts ≤ max_end → checked_from (length ts) (records_of ts) 0 p ≡ Ok tt
unfolding checked_from records_of
check_back laid_none h = refl
check_back (laid_token {k} {p} {e} {ts} s x) h =
    pass_first k p e (records_of ts) s (omega (arith, h, end_up x)) (length ts) ∙ pass_behind (e - p) (number_of k) (records_of ts) (length ts) 0 e (check_back x h)

pub records_count : (ts : List Tok) → count (records_of ts) ≡ length ts
records_count ts = let e = records_length ts in omega (arith, e)

-- all tokens of the records of tokens are these tokens
pub read_back : {p : ℕ} {ts : List Tok} → Laid p ts → end_of p ts ≤ max_end → all_tokens (records_of ts) p ≡ ts
unfolding all_tokens
read_back {p} {ts} x h = ap (λ (n : ℕ). tokens_from n (records_of ts) 0 p) (records_count ts) ∙ tokens_back x h

-- and the records pass the check, if they are not too many
pub pass_back : {p : ℕ} {ts : List Tok} → Laid p ts → end_of p ts ≤ max_end → length ts ≤ max_records → checked (records_of ts) p ≡ Ok tt
pass_back {p} {ts} x h few =
    let whole : length (records_of ts) % 6 ≡ 0 = omega (arith, records_length ts) in
    let many : count (records_of ts) ≤ max_records = omega (arith, records_count ts, few) in
    let low : p ≤ max_end = omega (arith, h, end_up x) in
    sym (checked_records (records_of ts) p p whole many low refl)
    ∙ ap (λ (m : ℕ). checked_from m (records_of ts) 0 p) (records_count ts)
    ∙ check_back x h
