-- Bytes that fill whole words in a file. Assumes nothing.
use Rattle.std.specs.Prelude.{◌≡◌, ℕ, ◌+◌, ◌%◌, ◌<◌, Option, List, ◌++◌, length}
use Rattle.std.specs.Io.KnownBytes.{Consumes}

-- the reader gave these bytes and fewer than four more, which make the words whole
pub record ReadsPadded (before after : Option (List ℕ)) (bytes : List ℕ) : Type 0 where
  pub padding : List ℕ
  pub few : length padding < 4
  pub whole : (length bytes + length padding) % 4 ≡ 0
  pub given : Consumes before after (bytes ++ padding)
