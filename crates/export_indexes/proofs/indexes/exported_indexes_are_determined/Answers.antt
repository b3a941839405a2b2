-- Both hold the same answer, and a C structure is known by what it holds.
-- what a C structure and the buffer behind it hold
use mathlib.Core.Path.{sym, subst, ◌∙◌}
use Rattle.rules.specs.declared.answer.Answer.{Answer}
use Rattle.index.specs.Outcome.{IndexDetermined}
use Rattle.export_indexes.proofs.ExportedIndexesAreDeterminedSteps.{held, from_held}
use Rattle.export_indexes.proofs.indexes.exported_indexes_are_determined.Goals as goal

pub returns : goal.returns
unfolding held from_held
returns c =
    record {
      indexed = λ x y p q. λ i. from_held ((subst (λ (a : Answer). IndexDetermined a c.args.events.now c.args.index.now) c.from.ensures c.indexes_are_determined.ensures) (held x) (held y) p q i);
      header = λ x y p q. p ∙ sym q;
    }
