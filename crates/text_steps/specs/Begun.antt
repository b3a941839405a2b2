-- What the entries from a text begin with: a text that is not read is answered, whatever the run would be. Assumes nothing.
use Rattle.std.specs.Prelude.{◌≡◌, List, ℕ, ◌≤◌, Result, Ok, Err}
use Rattle.token.specs.Limits.{max_records}
use Rattle.rules.specs.declared.options.Options.{Options}
use Rattle.lex.specs.Lexed.{lex_outcome}
use Rattle.text_rules.specs.TextOutcome.{TextAnswers}
use Rattle.text_rules.specs.declared.answer.TextAnswer.{TextAnswer}
use Rattle.judging.specs.declared.verdict.Verdict.{Verdict}
use Rattle.text_steps.specs.TextVerdicts.{JudgesText}

-- the lexer took the text, and left these records in the buffer, not too many
pub record Readable (text records after : List ℕ) (base count : ℕ) : Type 0 where
  pub place : ℕ
  pub lexed : record { answer = record { refusal = 0; place = place; base = base; records = count }; buffer = after } ≡ lex_outcome text records
  pub few : count ≤ max_records

abbrev pub BeginsText : List ℕ → List ℕ → List ℕ → Result (ℕ × ℕ) TextAnswer → Type 0
BeginsText text records after (Err r) = (options : Options) (events errors : List ℕ) → TextAnswers options text records events errors after events errors r
BeginsText text records after (Ok (base, count)) = Readable text records after base count

abbrev pub BeginsVerdict : List ℕ → List ℕ → List ℕ → Result (ℕ × ℕ) Verdict → Type 0
BeginsVerdict text records after (Err v) = (events : List ℕ) → JudgesText text records events after events v
BeginsVerdict text records after (Ok (base, count)) = Readable text records after base count
