-- The version of the library, named once: a million times the major number, a thousand times the minor one, and the patch number.
-- Assumes nothing.
use Rattle.std.specs.Prelude.{ℕ}

abbrev pub version : ℕ
version = 10002
