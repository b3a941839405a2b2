-- A list that the check refuses is not read; else the walk from the start, and the end that all entries have.
use mathlib.Core.Path.{refl}
use Rattle.rules.specs.Entries.{simple_key_entry}
use Rattle.rules.specs.Messages as message
use Rattle.rules.specs.Keys.{simple_key}
use Rattle.nest.specs.NestedLaws.{nested_goes}
use Rattle.entry_steps.proofs.EntryLaws.{begun_start, start_good, still_passed, entered}
use Rattle.entries.proofs.entries.parse_simple_key.Goals as goal

pub simple_key-w-requires : goal.simple_key-w-requires
simple_key-w-requires c = start_good (begun_start c.begin.ensures c.in-Ok.is)

pub answered-requires : goal.answered-requires
answered-requires c = record { good = (nested_goes c.simple_key-w.ensures).good; base_value = still_passed (begun_start c.begin.ensures c.in-Ok.is) (nested_goes c.simple_key-w.ensures) }

pub returns-in-Ok : goal.returns-in-Ok
returns-in-Ok c = c.answered.ensures simple_key_entry _ _ _ (entered simple_key_entry (simple_key message.invalid_key) refl (begun_start c.begin.ensures c.in-Ok.is) (nested_goes c.simple_key-w.ensures) c.simple_key-w.auto.events c.simple_key-w.auto.errors)
