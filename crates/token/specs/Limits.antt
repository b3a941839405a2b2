-- The limits of a token list, named once. Assumes nothing.
use Rattle.std.specs.Prelude.{ℕ}

-- how many records a list may have
abbrev pub max_records : ℕ
max_records = 65536

-- where the text may end at the latest
abbrev pub max_end : ℕ
max_end = 16777216
