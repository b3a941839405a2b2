-- From the index's answer to the C structure that holds it. Proved; nothing here needs to be believed.
use Rattle.std.specs.Prelude.{◌≡◌, List, ℕ}
use Rattle.std.proofs.Common.{sym, subst}
use Rattle.rules.specs.declared.answer.Answer.{Answer}
use Rattle.index.specs.declared.Indexed.{Indexed}
use Rattle.index.specs.Outcome.{Indexes}
use Rattle.export_indexes.specs.declared.indexes.ExportedIndexed.{ExportedIndexed}
use Rattle.export_indexes.specs.ExportedIndexes.{plain_indexed, ExportsIndex}

pub exports_index : (answer plain : Answer) (events index after : List ℕ) (r : Indexed) (e : ExportedIndexed) → answer ≡ plain → plain_indexed e ≡ r → Indexes answer events index after r → ExportsIndex plain events index after e
exports_index answer plain events index after r e a p q =
    subst (λ (x : Indexed). Indexes plain events index after x) (sym p) (subst (λ (x : Answer). Indexes x events index after r) a q)
