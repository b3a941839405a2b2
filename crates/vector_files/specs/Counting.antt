-- What one more list does to the counts. Assumes nothing.
use Rattle.std.specs.Prelude.{Bool, cond, ◌+◌, ◌%◌, ◌^◌}
use Rattle.vector_files.specs.declared.tally.Counts.{Counts}

-- one list more, which is the same or differs
abbrev pub counted : Bool → Counts → Counts
counted same c = record { lists = (c.lists + 1) % 2 ^ 64; differ = (c.differ + cond same 0 1) % 2 ^ 64 }
