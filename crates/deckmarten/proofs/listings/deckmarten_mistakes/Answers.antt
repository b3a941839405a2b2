-- The C structure holds the listing's answer.
use Rattle.export_listings.specs.MistakeExports.{exports_listing}
use Rattle.deckmarten.proofs.listings.deckmarten_mistakes.Goals as goal

pub returns : goal.returns
returns c = exports_listing _ _ _ _ _ _ _ _ _ _ c.from.ensures c.from-2.ensures c.mistakes-r.ensures
