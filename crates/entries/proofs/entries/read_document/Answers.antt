-- The walk from the start, and the end that all entries have.
use mathlib.Core.Path.{refl}
use Rattle.rules.specs.Entries.{document_entry}
use Rattle.rules.specs.Limits.{max_depth}
use Rattle.rules.specs.Document.{document}
use Rattle.entry_steps.proofs.EntryLaws.{start_good, still_passed, entered}
use Rattle.entries.proofs.entries.read_document.Goals as goal

pub document-w-requires : goal.document-w-requires
document-w-requires c = start_good (record { passed = c.requires; at = c.new-c.ensures; none = refl })

pub answered-requires : goal.answered-requires
answered-requires c = record { good = c.document-w.ensures.good; base_value = still_passed (record { passed = c.requires; at = c.new-c.ensures; none = refl }) c.document-w.ensures }

pub returns : goal.returns
returns c = c.answered.ensures document_entry _ _ _ (entered document_entry (document max_depth) refl (record { passed = c.requires; at = c.new-c.ensures; none = refl }) c.document-w.ensures c.document-w.auto.events c.document-w.auto.errors)
