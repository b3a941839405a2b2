-- The C structure holds the verdict.
use Rattle.export_texts.specs.TextExportLaws.{exports_text_verdict}
use Rattle.deckmarten.proofs.text.deckmarten_text_fits.Goals as goal

pub returns : goal.returns
returns c = exports_text_verdict _ _ _ _ _ _ _ c.from.ensures c.text_fits.ensures
