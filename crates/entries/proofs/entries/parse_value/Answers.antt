-- A list that the check refuses is not read; else the walk from the start, and the end that all entries have.
use mathlib.Core.Path.{refl}
use Rattle.rules.specs.Entries.{value_entry}
use Rattle.rules.specs.Limits.{max_depth}
use Rattle.rules.specs.Value.{value}
use Rattle.entry_steps.proofs.EntryLaws.{begun_start, start_good, still_passed, entered}
use Rattle.entries.proofs.entries.parse_value.Goals as goal

pub value-w-requires : goal.value-w-requires
value-w-requires c = start_good (begun_start c.begin.ensures c.in-Ok.is)

pub answered-requires : goal.answered-requires
answered-requires c = record { good = c.value-w.ensures.good; base_value = still_passed (begun_start c.begin.ensures c.in-Ok.is) c.value-w.ensures }

pub returns-in-Ok : goal.returns-in-Ok
returns-in-Ok c = c.answered.ensures value_entry _ _ _ (entered value_entry (value max_depth) refl (begun_start c.begin.ensures c.in-Ok.is) c.value-w.ensures c.value-w.auto.events c.value-w.auto.errors)
