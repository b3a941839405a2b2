-- When a list of token records is good to act on, and what `fits` answers. The yes is said over the grammar; the run is how it is found.
-- Assumes nothing.
use Rattle.std.specs.Prelude.{ℕ, ◌≤◌, ◌/◌, ◌≡◌, Bool, true, false, cond, ◌↔◌, List, [], length, ltb, Ok}
use Rattle.token.specs.Records.{count}
use Rattle.token.specs.Tokens.{all_tokens}
use Rattle.token.specs.Check.{checked}
use Rattle.rules.specs.Limits.{max_depth}
use Rattle.rules.specs.declared.answer.Answer.{Answer}
use Rattle.rules.specs.Answer.{as_crate, event_size}
use Rattle.fitting.specs.Grammar.{FitsWithin}
use Rattle.fitting.specs.Premises.{Regular, document_run}
use Rattle.judging.specs.declared.verdict.Verdict.{Verdict}

-- the records s, the first of which starts at base, pass the check, have one Eof, at the end, and no two Whitespace in a row, and fit the
-- token grammar with at most 64 arrays and inline tables open within one another
pub record Sound (s : List ℕ) (base : ℕ) : Type 0 where
  pub passed : checked s base ≡ Ok tt
  pub regular : Regular (all_tokens s base)
  pub fitting : FitsWithin max_depth (all_tokens s base)

-- the buffer has room for as many events as there are records
abbrev pub Roomy : List ℕ → List ℕ → Type 0
Roomy s events = count s ≤ length events / event_size

-- refusals 1 to 6 of a run, by which a list is not judged
abbrev pub unjudged : ℕ → Bool
unjudged refusal = cond (ltb refusal 7) (ltb 0 refusal) false

-- 7 where there is too little room, else 0
abbrev pub short_of_room : Bool → ℕ
short_of_room true = 7
short_of_room false = 0

-- the refusal's number and its place, by the run's answer and by whether there is too little room: a refusal of the run by which the list is
-- not judged is handed on
abbrev pub refusal_of : Answer → Bool → ℕ
refusal_of answer short = cond (unjudged answer.refusal) answer.refusal (short_of_room short)

abbrev pub place_of : Answer → ℕ
place_of answer = cond (unjudged answer.refusal) answer.place 0

-- `fits`: v is its answer, and `after` the event buffer behind it. Yes is said exactly of a list that is sound and has room; the event
-- buffer is left as the run leaves it
pub record Judges (s : List ℕ) (base : ℕ) (events after : List ℕ) (v : Verdict) : Type 0 where
  pub yes : (v.fits ≡ true) ↔ (Sound s base × Roomy s events)
  pub refusal : v.refusal ≡ refusal_of (document_run as_crate s base events []).answer (ltb (length events / event_size) (count s))
  pub place : v.place ≡ place_of (document_run as_crate s base events []).answer
  pub left : after ≡ (document_run as_crate s base events []).events

-- an answer of `fits` with the event buffer behind it
pub record Judgement : Type 0 where
  pub verdict : Verdict
  pub events : List ℕ

-- two that meet the contract for the same input are equal
abbrev pub DeterminedVerdict : List ℕ → ℕ → List ℕ → Type 0
DeterminedVerdict s base events = (x y : Judgement) → Judges s base events x.events x.verdict → Judges s base events y.events y.verdict → x ≡ y

-- where there is no refusal the answer is yes exactly when the list is sound; and where it is yes there is no refusal
pub record Judged (s : List ℕ) (base : ℕ) (v : Verdict) : Type 0 where
  pub decides : v.refusal ≡ 0 → (v.fits ≡ true) ↔ Sound s base
  pub accepted : v.fits ≡ true → v.refusal ≡ 0
