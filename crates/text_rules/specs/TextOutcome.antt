-- What the joined entry leaves: the answer, and the three buffers after it. It is the lexer's outcome, and then the document entry's on the
-- records that the lexer wrote. Assumes nothing.
use Rattle.std.specs.Prelude.{◌≡◌, Bool, true, false, List, ℕ, ◌*◌, take, eqb}
use Rattle.rules.specs.Entries.{document_entry}
use Rattle.rules.specs.declared.options.Options.{Options}
use Rattle.rules.specs.Answer.{Outcome, outcome}
use Rattle.lex.specs.Lexed.{LexOutcome, lex_outcome}
use Rattle.text_rules.specs.declared.answer.TextAnswer.{TextAnswer}

-- the answer and the buffers after it
pub record TextOutcome : Type 0 where
  pub answer : TextAnswer
  pub records : List ℕ
  pub events : List ℕ
  pub errors : List ℕ

-- the records of a text that was lexed: they stand first in the record buffer, six bytes each
abbrev pub records_left : LexOutcome → List ℕ
records_left lexed = take (6 * lexed.answer.records) lexed.buffer

-- what reading gives: a text that was lexed is read as a document; one that was refused is not read, and nothing is written
abbrev pub reading_by : Options → Bool → LexOutcome → List ℕ → List ℕ → Outcome
reading_by options true lexed events errors = outcome options document_entry (records_left lexed) lexed.answer.base events errors
reading_by options false lexed events errors = record { answer = record { refusal = lexed.answer.refusal; place = lexed.answer.place; events = 0; errors = 0 }; events = events; errors = errors }

abbrev pub reading : Options → LexOutcome → List ℕ → List ℕ → Outcome
reading options lexed events errors = reading_by options (eqb lexed.answer.refusal 0) lexed events errors

-- both together: base, count of records and record buffer are the lexer's, all else is the reading's
abbrev pub lexed_and_read : LexOutcome → Outcome → TextOutcome
lexed_and_read lexed read =
    record {
      answer = record {
        refusal = read.answer.refusal;
        place = read.answer.place;
        base = lexed.answer.base;
        records = lexed.answer.records;
        events = read.answer.events;
        errors = read.answer.errors;
      };
      records = lexed.buffer;
      events = read.events;
      errors = read.errors;
    }

-- what the joined entry does, with the options, with a text and the three buffers
unfoldable pub text_outcome : Options → List ℕ → List ℕ → List ℕ → List ℕ → TextOutcome
text_outcome options text records events errors = lexed_and_read (lex_outcome text records) (reading options (lex_outcome text records) events errors)

-- the answer r, with the three buffers after it, is that of the definition: one equation for all inputs, refusals too
abbrev pub TextAnswers : Options → List ℕ → List ℕ → List ℕ → List ℕ → List ℕ → List ℕ → List ℕ → TextAnswer → Type 0
TextAnswers options text records events errors recordsAfter eventsAfter errorsAfter r =
    record { answer = r; records = recordsAfter; events = eventsAfter; errors = errorsAfter } ≡ text_outcome options text records events errors

-- two answers, each with the buffers after it, that are that of the definition are equal
abbrev pub TextDetermined : List ℕ → List ℕ → List ℕ → List ℕ → Type 0
TextDetermined text records events errors =
    (options : Options) (x y : TextOutcome) → TextAnswers options text records events errors x.records x.events x.errors x.answer
    → TextAnswers options text records events errors y.records y.events y.errors y.answer → x ≡ y

-- the part of it that a run of the document entry has
abbrev pub run_of : TextOutcome → Outcome
run_of o =
    record {
      answer = record { refusal = o.answer.refusal; place = o.answer.place; events = o.answer.events; errors = o.answer.errors };
      events = o.events;
      errors = o.errors;
    }

-- the run over a text
abbrev pub text_run : Options → List ℕ → List ℕ → List ℕ → List ℕ → Outcome
text_run options text records events errors = run_of (text_outcome options text records events errors)
