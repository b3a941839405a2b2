-- Both hold the same answer, and a C structure is known by what it holds.
-- the C structures that hold an answer, with its buffers
use mathlib.Core.Path.{sym, ◌∙◌}
use Rattle.export_texts.proofs.ExportedTextsAreDeterminedSteps.{from_lexed, from_text, from_judged, held}
use Rattle.export_texts.proofs.text.exported_texts_are_determined.Goals as goal

pub returns : goal.returns
unfolding from_lexed from_text from_judged held
returns c =
    record {
      lexed = λ x y p q. λ i. from_lexed ((p ∙ sym q) i);
      parsed = λ mode x y p q. λ i. from_text ((p ∙ sym q) i);
      judged = λ x y p q. λ i. from_judged (c.text_verdicts_are_determined.ensures (held x) (held y) p q i);
    }
