-- Bytes put into a buffer. Assumes nothing.
use Rattle.std.specs.Prelude.{List, ◌++◌, ℕ, ◌+◌, length, take, drop}

-- a buffer in which these bytes stand from `at` on, and all others are as they were
unfoldable pub placed : ℕ → List ℕ → List ℕ → List ℕ
placed at bytes buffer = take at buffer ++ (bytes ++ drop (at + length bytes) buffer)
