-- What the search for pieces promises: the piece that it finds is the first, and the others come from the events behind it. Assumes nothing.
use Rattle.std.specs.Prelude.{ℕ, ◌-◌, ◌<◌, ◌≤◌, ◌≡◌, true, false, List, [], ◌∷◌, Option, Some, None}
use Rattle.pieces.specs.declared.pieces.Piece.{Piece}
use Rattle.pieces.specs.declared.pieces.Skip.{Skip}
use Rattle.pieces.specs.Pieces.{Seen, events_from, skipped_to, pieces}

-- the events from event i on, of n
abbrev pub events_left : ℕ → ℕ → List ℕ → List Seen
events_left n i buffer = events_from (n - i) i buffer

-- skipped text that has come to `end` before event i: where it ends, and that its events give no more pieces
pub record Skips (n : ℕ) (buffer : List ℕ) (i end : ℕ) (r : Skip) : Type 0 where
  pub ends : r.end ≡ skipped_to (events_left n i buffer) end
  pub behind : pieces (events_left n i buffer) true ≡ pieces (events_left n r.next buffer) false
  pub on : i ≤ r.next
  pub within : r.next ≤ n

-- the pieces from event i on are the one that was found and those behind it, or none
abbrev pub Finds : ℕ → List ℕ → ℕ → Option (Piece × ℕ) → Type 0
Finds n buffer i (Some (p, next)) = (pieces (events_left n i buffer) false ≡ p ∷ pieces (events_left n next buffer) false) × (i < next) × (next ≤ n)
Finds n buffer i None = pieces (events_left n i buffer) false ≡ []
