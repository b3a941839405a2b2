-- What is said of the tokens of every text. Assumes nothing.
use Rattle.std.specs.Prelude.{◌≡◌, List, ℕ, ◌+◌, ◌≤◌, length, Ok}
use Rattle.token.specs.Limits.{max_records, max_end}
use Rattle.token.specs.Tokens.{all_tokens}
use Rattle.token.specs.Check.{checked}
use Rattle.token.specs.Laid.{Laid, end_of}
use Rattle.token.specs.Writing.{records_of}
use Rattle.scan.specs.Lexer.{tokens_of, base_of}

-- they lie end to end from the base to the text's end, each as long as its kind allows; and are at most one more than bytes
pub record TokensEndToEnd (text : List ℕ) : Type 0 where
  pub laid : Laid (base_of text) (tokens_of text)
  pub end : end_of (base_of text) (tokens_of text) ≡ length text
  pub few : length (tokens_of text) ≤ length text + 1

-- the records of a text that is not too long stand for its tokens; and if they are not too many, they pass the check of a list
pub record RecordsReadAgain (text : List ℕ) : Type 0 where
  pub read : length text ≤ max_end → all_tokens (records_of (tokens_of text)) (base_of text) ≡ tokens_of text
  pub passed : length text ≤ max_end → length (tokens_of text) ≤ max_records → checked (records_of (tokens_of text)) (base_of text) ≡ Ok tt
