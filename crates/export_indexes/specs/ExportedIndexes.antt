-- What the exported functions of the index promise. Assumes nothing.
use Rattle.std.specs.Prelude.{◌≡◌, List, ℕ}
use Rattle.rules.specs.declared.answer.Answer.{Answer}
use Rattle.index.specs.declared.Indexed.{Indexed}
use Rattle.index_entries.specs.declared.reading.HeaderAt.{HeaderAt}
use Rattle.headers.specs.Headers.{mark}
use Rattle.index.specs.Outcome.{Indexes}
use Rattle.index_entries.specs.Reading.{header_at}
use Rattle.export_indexes.specs.declared.indexes.ExportedIndexed.{ExportedIndexed}
use Rattle.export_indexes.specs.declared.indexes.ExportedHeader.{ExportedHeader}

-- the answer that a C structure holds
abbrev pub plain_indexed : ExportedIndexed → Indexed
plain_indexed r = record { refusal = r.refusal; headers = r.headers; bytes = r.bytes }

-- the C structure r, with the index buffer after it, holds the answer of the index's definition
abbrev pub ExportsIndex : Answer → List ℕ → List ℕ → List ℕ → ExportedIndexed → Type 0
ExportsIndex answer events index after r = Indexes answer events index after (plain_indexed r)

-- the C structure of what stands at a position of index bytes
abbrev pub header_structure : HeaderAt → ExportedHeader
header_structure (HeaderAt.Entry h next) = record { found = 1; array = mark h.array; place = h.place; parts = h.parts; events = h.events; next = next }
header_structure HeaderAt.End = record { found = 0; array = 0; place = 0; parts = 0; events = 0; next = 0 }
header_structure HeaderAt.NoEntry = record { found = 2; array = 0; place = 0; parts = 0; events = 0; next = 0 }

-- the C structure r is the one of what stands at this position
abbrev pub ExportsHeader : List ℕ → ℕ → ExportedHeader → Type 0
ExportsHeader index at r = r ≡ header_structure (header_at index at)

-- the C structure and the index buffer behind it
pub record ExportedIndexOutcome : Type 0 where
  pub answer : ExportedIndexed
  pub index : List ℕ

-- two that meet the same contract for the same input are equal
pub record ExportedIndexesDetermined (answer : Answer) (events index : List ℕ) (at : ℕ) : Type 0 where
  pub indexed : (x y : ExportedIndexOutcome) → ExportsIndex answer events index x.index x.answer → ExportsIndex answer events index y.index y.answer → x ≡ y
  pub header : (x y : ExportedHeader) → ExportsHeader index at x → ExportsHeader index at y → x ≡ y
