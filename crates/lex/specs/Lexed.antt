-- What `lex` answers, and what it leaves in the record buffer. Assumes nothing.
use Rattle.std.specs.Prelude.{cond, List, ◌++◌, ℕ, ◌*◌, ◌/◌, length, drop, ltb}
use Rattle.token.specs.Limits.{max_end}
use Rattle.token.specs.Writing.{records_of}
use Rattle.utf8_sequences.specs.Utf8.{valid_up_to}
use Rattle.scan.specs.Lexer.{tokens_of, base_of}
use Rattle.lex.specs.declared.Lexed.{Lexed}
use Rattle.lex.specs.Refusals.{text_too_long, not_utf8, no_room_for_tokens}

-- the answer, and the buffer after it
pub record LexOutcome : Type 0 where
  pub answer : Lexed
  pub buffer : List ℕ

-- a refusal: its place, how many records the text needs, and the buffer as it was
abbrev pub refused : ℕ → ℕ → ℕ → List ℕ → LexOutcome
refused refusal place records buffer =
    record { answer = record { refusal = refusal; place = place; base = 0; records = records }; buffer = buffer }

-- else the records of the text's tokens, and behind them the buffer as it was
abbrev pub lexed : List ℕ → List ℕ → LexOutcome
lexed text buffer =
    record {
      answer = record { refusal = 0; place = 0; base = base_of text; records = length (tokens_of text) };
      buffer = records_of (tokens_of text) ++ drop (6 * length (tokens_of text)) buffer;
    }

-- any text, any buffer: six bytes of it are room for a record
unfoldable pub lex_outcome : List ℕ → List ℕ → LexOutcome
lex_outcome text buffer =
    cond (ltb max_end (length text)) (refused text_too_long max_end 0 buffer)
    (cond (ltb (valid_up_to text) (length text)) (refused not_utf8 (valid_up_to text) 0 buffer)
    (cond (ltb (length buffer / 6) (length (tokens_of text))) (refused no_room_for_tokens 0 (length (tokens_of text)) buffer)
    (lexed text buffer)))
