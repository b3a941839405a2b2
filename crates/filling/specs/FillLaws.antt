-- Entries of one size. Assumes nothing.
use Rattle.std.specs.Prelude.{◌≡◌, List, [], ◌∷◌, ℕ, length}

-- every entry has so many words
abbrev pub Sized : ℕ → List (List ℕ) → Type 0
Sized size [] = Unit {0}
Sized size (w ∷ ws) = (length w ≡ size) × Sized size ws
