-- What the functions of this crate promise one another. Assumes nothing.
use Rattle.std.specs.Prelude.{◌≡◌, Bool, List, ℕ, ◌+◌, ◌≤◌, length, drop, leb}
use Rattle.utf8_sequences.specs.Utf8.{valid_up_to}

abbrev pub is_ascii : ℕ → Bool
is_ascii b = leb b 127

-- from `at` on to `end` all is well-formed; and where that is no byte, none starts a sequence
pub record Stepped (text : List ℕ) (at end : ℕ) : Type 0 where
  pub up : at ≤ end
  pub within : end ≤ length text
  pub same : end + valid_up_to (drop end text) ≡ at + valid_up_to (drop at text)
  pub stuck : end ≡ at → valid_up_to (drop at text) ≡ 0
