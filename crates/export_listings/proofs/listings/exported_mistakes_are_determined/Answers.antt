-- Both hold the same answer, and a C structure is known by what it holds.
-- the C structures that hold an answer, with its buffers
use mathlib.Core.Path.{sym, ◌∙◌}
use Rattle.export_listings.proofs.ExportedMistakesAreDeterminedSteps.{from_listing, from_check}
use Rattle.export_listings.proofs.listings.exported_mistakes_are_determined.Goals as goal

pub returns : goal.returns
unfolding from_listing from_check
returns c =
    record {
      listed = λ x y p q. λ i. from_listing ((p ∙ sym q) i);
      checked = λ x y p q. λ i. from_check ((p ∙ sym q) i);
    }
