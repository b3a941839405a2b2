-- The limit on nesting, named once. Assumes nothing.
use Rattle.std.specs.Prelude.{ℕ}

-- how many arrays and inline tables may be open within one another
abbrev pub max_depth : ℕ
max_depth = 64
