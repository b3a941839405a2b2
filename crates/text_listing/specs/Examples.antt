-- Texts, and the mistakes that `check_text` lists of them, written down by hand. Assumes nothing.
use Rattle.std.specs.Prelude.{ℕ, ◌*◌, ◌-◌, List, [], ◌∷◌, ◌++◌, length}
use Rattle.rules.specs.Answer.{error_size, joined}
use Rattle.rules.specs.TextWords.{words, reported}
use Rattle.text_rules.specs.Ascii.{ascii}
use Rattle.text_listing.specs.Checking.{check_outcome}

-- a text and the words of its mistakes
pub record Example : Type 0 where
  pub text : List ℕ
  pub mistakes : List (List ℕ)

abbrev pub lists : List ℕ → List (List ℕ) → Example
lists text mistakes = record { text = text; mistakes = mistakes }

-- a mistake that the Rust is silent about: message, expected, the span, the line
abbrev pub ours : ℕ → ℕ → ℕ → ℕ → ℕ → List ℕ
ours message expected a b line = message ∷ expected ∷ a ∷ b ∷ a ∷ b ∷ line ∷ []

unfoldable pub examples : List Example
examples =
    -- these fit
    lists (ascii "") []
    ∷ lists (ascii "a=1") []
    ∷ lists (ascii "x={a=[1]}") []
    -- the slip that no error record tells
    ∷ lists (ascii "[=ledger]\n") (ours 101 4 1 1 1 ∷ ours 103 1 1 9 1 ∷ [])
    -- a key, a value that is not there
    ∷ lists (ascii "[]\n") (ours 101 4 1 1 1 ∷ [])
    ∷ lists (ascii "=1") (ours 101 4 0 0 1 ∷ [])
    ∷ lists (ascii "a=\n") (ours 102 6 2 2 1 ∷ [])
    -- a multi-line string as a key
    ∷ lists (ascii "\"\"\"k\"\"\"=1") (ours 104 14 0 7 1 ∷ [])
    -- whitespace is passed in skipped text, but not before or behind it; the line counts
    ∷ lists (ascii "[= b ] # c") (ours 101 4 1 1 1 ∷ ours 103 1 1 6 1 ∷ [])
    ∷ lists (ascii "a=1\n\n[=b]") (ours 101 4 6 6 3 ∷ ours 103 1 6 9 3 ∷ [])
    -- the record accounts for the text that is skipped where it stands
    ∷ lists (ascii "a b") (reported 5 5 2 2 2 2 1 ∷ [])
    ∷ lists (ascii ",a") (reported 26 4 0 1 0 0 1 ∷ [])
    -- but not behind a space
    ∷ lists (ascii "[a b]") (reported 2 2 0 2 2 2 1 ∷ ours 103 1 3 5 1 ∷ [])
    -- brackets that are given up are accounted for, also where places fall; one record accounts for a key and a close at the same place
    ∷ lists (ascii "x=[[\n") (reported 7 2 3 4 5 5 2 ∷ reported 7 2 2 3 4 4 1 ∷ [])
    ∷ lists (ascii "=[{. ") (ours 101 4 0 0 1 ∷ ours 101 4 3 3 1 ∷ reported 14 10 2 3 5 5 1 ∷ reported 7 2 1 2 4 4 1 ∷ [])
    ∷ []

-- in buffers that all hold 0: the refusal, how many mistakes there are, and what the buffer holds
pub record Told : Type 0 where
  pub refusal : ℕ
  pub mistakes : ℕ
  pub buffer : List ℕ

abbrev pub record_buffer : ℕ
record_buffer = 96

abbrev pub word_buffer : ℕ
word_buffer = 64

abbrev pub told_by : List Example → List Told
told_by [] = []
told_by (x ∷ xs) =
    (let o = check_outcome x.text (words 0 record_buffer) (words 0 word_buffer) (words 0 word_buffer) (words 0 word_buffer) in
    record { refusal = o.answer.refusal; mistakes = o.answer.mistakes; buffer = o.mistakes }) ∷ told_by xs

abbrev pub as_listed : List Example → List Told
as_listed [] = []
as_listed (x ∷ xs) =
    record {
      refusal = 0;
      mistakes = length x.mistakes;
      buffer = joined x.mistakes ++ words 0 (word_buffer - error_size * length x.mistakes);
    }
    ∷ as_listed xs
