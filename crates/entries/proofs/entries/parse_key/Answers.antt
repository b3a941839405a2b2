-- A list that the check refuses is not read; else the walk from the start, and the end that all entries have.
use mathlib.Core.Path.{refl}
use Rattle.rules.specs.Entries.{key_entry}
use Rattle.rules.specs.Messages as message
use Rattle.rules.specs.Keys.{key}
use Rattle.nest.specs.NestedLaws.{nested_goes}
use Rattle.entry_steps.proofs.EntryLaws.{begun_start, start_good, still_passed, entered}
use Rattle.entries.proofs.entries.parse_key.Goals as goal

pub key-k-requires : goal.key-k-requires
key-k-requires c = start_good (begun_start c.begin.ensures c.in-Ok.is)

pub answered-requires : goal.answered-requires
answered-requires c = record { good = (nested_goes c.key-k.ensures.goes).good; base_value = still_passed (begun_start c.begin.ensures c.in-Ok.is) (nested_goes c.key-k.ensures.goes) }

pub returns-in-Ok : goal.returns-in-Ok
returns-in-Ok c = c.answered.ensures key_entry _ _ _ (entered key_entry (key message.invalid_key) refl (begun_start c.begin.ensures c.in-Ok.is) (nested_goes c.key-k.ensures.goes) c.key-k.auto.events c.key-k.auto.errors)
