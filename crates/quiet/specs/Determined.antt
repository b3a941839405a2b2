-- What it is for a test to be determined by its contract. Assumes nothing.
use Rattle.std.specs.Prelude.{◌≡◌, Bool, true, ◌↔◌}

-- two tests that are true exactly when the statement holds are equal
abbrev pub DeterminedTest : Type 0 → Type 0
DeterminedTest statement = (x y : Bool) → (x ≡ true) ↔ statement → (y ≡ true) ↔ statement → x ≡ y
