-- What is left behind the walk, the lines of the errors, and the answer, whatever the entry.
use mathlib.Core.Path.{sym, ◌∙◌}
use Rattle.token.specs.CheckLaws.{checked_passes, passed_laid}
use Rattle.entry_steps.proofs.EntryLaws.{entry_answers}
use Rattle.entry_steps.proofs.steps.answered.Goals as goal

pub closing-v-requires : goal.closing-v-requires
closing-v-requires c = c.requires.good

pub number_errors-requires : goal.number_errors-requires
number_errors-requires c = rw c.walk_of-base.ensures (record { text_ends = c.requires.good.most; laid = passed_laid _ _ (checked_passes _ _ c.requires.base_value); few_records = (checked_passes _ _ c.requires.base_value).few })

pub returns : goal.returns
returns c =
    λ entry base events errors x.
    entry_answers c.args.options x (c.closing-v.ensures _ _ _ x.walk) (rw (sym c.walk_of-base.ensures, sym c.walk_of.ensures) c.number_errors.ensures) c.closing-v.auto.events (c.number_errors.auto.errors ∙ c.closing-v.auto.errors) _ c.answer_of.ensures
