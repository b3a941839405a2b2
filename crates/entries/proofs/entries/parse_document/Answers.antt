-- A list that the check refuses is not read; else it is what the walk promises.
use Rattle.entry_steps.proofs.EntryLaws.{begun_start}
use Rattle.entries.proofs.entries.parse_document.Goals as goal

pub read_document-requires : goal.read_document-requires
read_document-requires c = (begun_start c.begin.ensures c.in-Ok.is).passed
