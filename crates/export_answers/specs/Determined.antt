-- That the contract of a function for C leaves nothing open. Assumes nothing.
use Rattle.std.specs.Prelude.{◌≡◌, List, ℕ}
use Rattle.rules.specs.Entries.{Entry}
use Rattle.export_answers.specs.declared.answer.ExportedAnswer.{ExportedAnswer}
use Rattle.export_answers.specs.Exported.{Exports}

-- the C structure and the buffers after it
pub record ExportedOutcome : Type 0 where
  pub answer : ExportedAnswer
  pub events : List ℕ
  pub errors : List ℕ

-- for the mode's number, the record bytes s (those of token structs too), the base and the buffers before it, two outcomes that meet the contract of the entry's
-- function are equal
abbrev pub ExportsDetermined : Type 0
ExportsDetermined =
    (mode : ℕ) (entry : Entry) (s : List ℕ) (base : ℕ) (events errors : List ℕ) (x y : ExportedOutcome)
    → Exports mode entry s base events errors x.events x.errors x.answer → Exports mode entry s base events errors y.events y.errors y.answer → x ≡ y
