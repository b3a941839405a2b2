-- Which words name an event. Assumes nothing.
use Rattle.std.specs.Prelude.{ℕ, ◌≤◌}

-- the number of an event kind
pub record Named (k : ℕ) : Type 0 where
  pub low : 1 ≤ k
  pub high : k ≤ 17
