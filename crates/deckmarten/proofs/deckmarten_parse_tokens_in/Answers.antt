-- The C structure holds the answer over the structs' records.
use Rattle.rules.specs.Entries.{document_entry}
use Rattle.struct_records.specs.Structs.{records_of}
use Rattle.export_answers.specs.ExportLaws.{exports}
use Rattle.deckmarten.proofs.deckmarten_parse_tokens_in.Goals as goal

pub returns : goal.returns
returns c = exports c.args.mode document_entry (records_of c.args.tokens.now) c.args.base c.args.events.now c.args.errors.now _ _ _ _ c.from.ensures c.parse_tokens.ensures
