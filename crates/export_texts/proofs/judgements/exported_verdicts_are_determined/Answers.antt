-- Both hold the same verdict, and a C structure is known by what it holds.
-- what a C structure and the buffer behind it hold
use Rattle.export_texts.proofs.ExportedVerdictsAreDeterminedSteps.{held, from_held}
use Rattle.export_texts.proofs.judgements.exported_verdicts_are_determined.Goals as goal

pub returns : goal.returns
unfolding held from_held
returns c = λ x y p q. λ i. from_held (c.verdicts_are_determined.ensures (held x) (held y) p q i)
