-- The refusals of the index, named once, in the order in which they are tried. Assumes nothing.
use Rattle.std.specs.Prelude.{ℕ}

-- the run is not quiet
abbrev pub not_quiet : ℕ
not_quiet = 12

-- the index has no room
abbrev pub no_room_for_index : ℕ
no_room_for_index = 13
