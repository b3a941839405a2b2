-- What the exported functions over texts promise. Assumes nothing.
use Rattle.std.specs.Prelude.{◌≡◌, List, ℕ, Option, Some, None}
use Rattle.lex.specs.declared.Lexed.{Lexed}
use Rattle.lex.specs.Lexed.{lex_outcome}
use Rattle.text_rules.specs.declared.answer.TextAnswer.{TextAnswer}
use Rattle.text_rules.specs.TextOutcome.{TextOutcome, text_outcome}
use Rattle.rules.specs.declared.options.Options.{Options}
use Rattle.choices.specs.Modes.{chosen_by}
use Rattle.text_steps.specs.TextVerdicts.{JudgesText}
use Rattle.export_texts.specs.declared.judgements.ExportedVerdict.{ExportedVerdict}
use Rattle.export_texts.specs.ExportedVerdicts.{plain_verdict}
use Rattle.export_texts.specs.declared.text.ExportedLexed.{ExportedLexed}
use Rattle.export_texts.specs.declared.text.ExportedTextAnswer.{ExportedTextAnswer}

-- the answers that the C structures hold
abbrev pub plain_lexed : ExportedLexed → Lexed
plain_lexed r = record { refusal = r.refusal; place = r.place; base = r.base; records = r.records }

abbrev pub plain_text : ExportedTextAnswer → TextAnswer
plain_text r = record { refusal = r.refusal; place = r.place; base = r.base; records = r.records; events = r.events; errors = r.errors }

-- the C structure r, with the record buffer after it, holds the answer of the lexer's definition
abbrev pub ExportsLexed : List ℕ → List ℕ → List ℕ → ExportedLexed → Type 0
ExportsLexed text records after r = record { answer = plain_lexed r; buffer = after } ≡ lex_outcome text records

-- what the joined entry does for what was chosen: an unknown mode is refused before all else, and nothing is written
abbrev pub text_outcome_of : Option Options → List ℕ → List ℕ → List ℕ → List ℕ → TextOutcome
text_outcome_of (Some options) text records events errors = text_outcome options text records events errors
text_outcome_of None text records events errors = record { answer = record { refusal = 15; place = 0; base = 0; records = 0; events = 0; errors = 0 }; records = records; events = events; errors = errors }

-- the C structure r, with the three buffers after it, holds the answer of that definition for the mode's number
abbrev pub ExportsText : ℕ → List ℕ → List ℕ → List ℕ → List ℕ → List ℕ → List ℕ → List ℕ → ExportedTextAnswer → Type 0
ExportsText mode text records events errors recordsAfter eventsAfter errorsAfter r =
    record { answer = plain_text r; records = recordsAfter; events = eventsAfter; errors = errorsAfter } ≡ text_outcome_of (chosen_by mode) text records events errors

-- the C structure r, with the two buffers after it, holds the answer of `text_fits`
abbrev pub ExportsTextVerdict : List ℕ → List ℕ → List ℕ → List ℕ → List ℕ → ExportedVerdict → Type 0
ExportsTextVerdict text records events recordsAfter eventsAfter r = JudgesText text records events recordsAfter eventsAfter (plain_verdict r)

-- the C structures, each with the buffers after it
pub record ExportedLexedOutcome : Type 0 where
  pub answer : ExportedLexed
  pub records : List ℕ

pub record ExportedTextOutcome : Type 0 where
  pub answer : ExportedTextAnswer
  pub records : List ℕ
  pub events : List ℕ
  pub errors : List ℕ

pub record ExportedTextJudgement : Type 0 where
  pub verdict : ExportedVerdict
  pub records : List ℕ
  pub events : List ℕ

-- two that meet the same contract for the same input are equal
pub record ExportedTextsDetermined (text records events errors : List ℕ) : Type 0 where
  pub lexed : (x y : ExportedLexedOutcome) → ExportsLexed text records x.records x.answer → ExportsLexed text records y.records y.answer → x ≡ y
  pub parsed : (mode : ℕ) (x y : ExportedTextOutcome) → ExportsText mode text records events errors x.records x.events x.errors x.answer → ExportsText mode text records events errors y.records y.events y.errors y.answer → x ≡ y
  pub judged : (x y : ExportedTextJudgement) → ExportsTextVerdict text records events x.records x.events x.verdict → ExportsTextVerdict text records events y.records y.events y.verdict → x ≡ y
