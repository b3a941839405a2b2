-- The C structure holds the check's answer.
use Rattle.export_listings.specs.MistakeExports.{exports_check}
use Rattle.deckmarten.proofs.listings.deckmarten_check_text.Goals as goal

pub returns : goal.returns
returns c = exports_check _ _ _ _ _ _ _ _ _ _ _ c.from.ensures c.check_text.ensures
