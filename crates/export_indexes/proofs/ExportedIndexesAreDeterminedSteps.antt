-- What the proof of exported_indexes_are_determined goes by. Proved; nothing here needs to be believed.
use Rattle.index.specs.Outcome.{IndexOutcome}
use Rattle.export_indexes.specs.ExportedIndexes.{plain_indexed, ExportedIndexOutcome}

unfoldable pub held : ExportedIndexOutcome → IndexOutcome
held x = record { answer = plain_indexed x.answer; buffer = x.index }

unfoldable pub from_held : IndexOutcome → ExportedIndexOutcome
from_held o = record { answer = record { refusal = o.answer.refusal; headers = o.answer.headers; bytes = o.answer.bytes }; index = o.buffer }
