-- The C structure holds the joined entry's answer, or that to an unknown mode.
use Rattle.export_texts.specs.TextExportLaws.{exports_text, exports_unknown}
use Rattle.deckmarten.proofs.text.deckmarten_parse_text.Goals as goal

pub returns-in-Some : goal.returns-in-Some
returns-in-Some c = exports_text c.args.options.mode c.args.text.now c.args.records.now c.args.events.now c.args.errors.now _ c.choose.ensures _ _ _ _ _ _ c.in-Some.is c.from.ensures c.parse_text.ensures

pub returns-in-None : goal.returns-in-None
returns-in-None c = exports_unknown c.args.options.mode c.args.text.now c.args.records.now c.args.events.now c.args.errors.now _ c.choose.ensures _ c.in-None.is c.exported_unknown.ensures
