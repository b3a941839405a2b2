-- What is supposed of a text and of the buffers where demand 3 speaks of a text that fits. Of its tokens nothing is supposed: that they lie end
-- to end, have one Eof, the last, and no two Whitespace in a row is proved of every text. Assumes nothing.
use Rattle.std.specs.Prelude.{◌≡◌, List, ℕ, ◌≤◌, ◌/◌, length}
use Rattle.token.specs.Limits.{max_records, max_end}
use Rattle.scan.specs.Lexer.{tokens_of}
use Rattle.utf8_sequences.specs.Utf8.{valid_up_to}
use Rattle.text_rules.specs.TextOutcome.{text_run}
use Rattle.rules.specs.declared.options.Options.{Options}

-- the text is within the limits: its length (refusal 9), UTF-8 (10), the count of its tokens (2)
pub record WithinLimits (text : List ℕ) : Type 0 where
  pub short : length text ≤ max_end
  pub formed : valid_up_to text ≡ length text
  pub few : length (tokens_of text) ≤ max_records

-- there is room for its tokens
abbrev pub RecordRoom : List ℕ → List ℕ → Type 0
RecordRoom text records = length (tokens_of text) ≤ length records / 6

-- no refusal comes but 6, which is of the nesting, and 8, which is of errors: this says nothing of the grammar
pub record TextReady (options : Options) (text records events errors : List ℕ) : Type 0 where
  pub within : WithinLimits text
  pub lexed : RecordRoom text records
  pub room : (text_run options text records events errors).answer.refusal ≡ 7 → ⊥
