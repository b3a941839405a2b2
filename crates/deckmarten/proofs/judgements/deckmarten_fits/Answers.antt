-- The C structure holds the verdict.
use Rattle.export_texts.specs.VerdictExports.{exports_verdict}
use Rattle.deckmarten.proofs.judgements.deckmarten_fits.Goals as goal

pub returns : goal.returns
returns c = exports_verdict _ _ _ _ _ _ c.from.ensures c.fits.ensures
