-- When a text is good to act on, and what `text_fits` answers. The yes is said over the grammar; the run is how it is found. Assumes nothing.
use Rattle.std.specs.Prelude.{ℕ, ◌≤◌, ◌/◌, ◌≡◌, Bool, true, cond, ◌↔◌, List, [], length, eqb, ltb}
use Rattle.rules.specs.Limits.{max_depth}
use Rattle.rules.specs.declared.answer.Answer.{Answer}
use Rattle.rules.specs.Answer.{as_crate, event_size}
use Rattle.fitting.specs.Grammar.{FitsWithin}
use Rattle.judging.specs.declared.verdict.Verdict.{Verdict}
use Rattle.judging.specs.Verdicts.{refusal_of, place_of}
use Rattle.lex.specs.declared.Lexed.{Lexed}
use Rattle.scan.specs.Lexer.{tokens_of}
use Rattle.lex.specs.Lexed.{lex_outcome}
use Rattle.text_rules.specs.TextOutcome.{text_outcome, text_run}
use Rattle.text_rules.specs.TextPremises.{WithinLimits, RecordRoom}

-- the text is within the limits, and its tokens fit the token grammar with at most 64 arrays and inline tables open within one another
pub record SoundText (text : List ℕ) : Type 0 where
  pub within : WithinLimits text
  pub fitting : FitsWithin max_depth (tokens_of text)

-- the buffer has room for as many events as there are tokens
abbrev pub EventRoom : List ℕ → List ℕ → Type 0
EventRoom text events = length (tokens_of text) ≤ length events / event_size

-- the refusal's number and its place: the lexer's, if it refused the text; else as `fits` has them, by the answer of the run and by whether
-- there is too little room
abbrev pub text_refusal_of : Lexed → Answer → Bool → ℕ
text_refusal_of lexed answer short = cond (eqb lexed.refusal 0) (refusal_of answer short) lexed.refusal

abbrev pub text_place_of : Lexed → Answer → ℕ
text_place_of lexed answer = cond (eqb lexed.refusal 0) (place_of answer) lexed.place

-- `text_fits`: v is its answer, with the two buffers behind it. Yes is said exactly of a text that is sound and has room; the buffers are left
-- as the joined entry leaves them that has no room for errors
pub record JudgesText (text records events recordsAfter eventsAfter : List ℕ) (v : Verdict) : Type 0 where
  pub yes : (v.fits ≡ true) ↔ (SoundText text × RecordRoom text records × EventRoom text events)
  pub refusal : v.refusal ≡ text_refusal_of (lex_outcome text records).answer (text_run as_crate text records events []).answer (ltb (length events / event_size) (length (tokens_of text)))
  pub place : v.place ≡ text_place_of (lex_outcome text records).answer (text_run as_crate text records events []).answer
  pub records_left : recordsAfter ≡ (text_outcome as_crate text records events []).records
  pub events_left : eventsAfter ≡ (text_outcome as_crate text records events []).events

-- an answer of `text_fits` with the buffers behind it
pub record TextJudgement : Type 0 where
  pub verdict : Verdict
  pub records : List ℕ
  pub events : List ℕ

-- two that meet the contract for the same input are equal
abbrev pub DeterminedTextVerdict : List ℕ → List ℕ → List ℕ → Type 0
DeterminedTextVerdict text records events =
    (x y : TextJudgement) → JudgesText text records events x.records x.events x.verdict → JudgesText text records events y.records y.events y.verdict → x ≡ y

-- what an answer says by itself: where there is no refusal it is yes exactly when the text is sound; and where it is yes there is no refusal
pub record JudgedText (text : List ℕ) (v : Verdict) : Type 0 where
  pub decides : v.refusal ≡ 0 → (v.fits ≡ true) ↔ SoundText text
  pub accepted : v.fits ≡ true → v.refusal ≡ 0

abbrev pub TextVerdictsJudge : List ℕ → List ℕ → List ℕ → Type 0
TextVerdictsJudge text records events = (recordsAfter eventsAfter : List ℕ) (v : Verdict) → JudgesText text records events recordsAfter eventsAfter v → JudgedText text v
