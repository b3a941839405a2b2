-- The report where the list ends before what is expected. Assumes nothing.
use Rattle.std.specs.Prelude.{ℕ}
use Rattle.rules.specs.Out.{Item, report, found, after_found}
use Rattle.rules.specs.Keys.{last_significant}

abbrev pub nothing_left : ℕ → ℕ → Item
nothing_left m x = report m x (found last_significant) (after_found last_significant)
