-- Reading an index from its start: each header in order, then the end. Assumes nothing.
use Rattle.std.specs.Prelude.{◌≡◌, List, [], ◌∷◌, ℕ, ◌+◌, ◌≤◌}
use Rattle.token.specs.Limits.{max_records}
use Rattle.index_entries.specs.declared.reading.HeaderAt.{HeaderAt}
use Rattle.headers.specs.declared.header.Header.{Header}
use Rattle.headers.specs.Headers.{headers_in, index_bytes, entry_size}
use Rattle.index_entries.specs.Reading.{header_at}

-- from this position on the bytes read as these headers, and then they end
abbrev pub ReadsFrom : List ℕ → ℕ → List Header → Type 0
ReadsFrom bytes at [] = header_at bytes at ≡ HeaderAt.End
ReadsFrom bytes at (h ∷ hs) =
    (header_at bytes at ≡ HeaderAt.Entry h (at + entry_size)) × ReadsFrom bytes (at + entry_size) hs

-- the index of as many events as a quiet run can have reads as their headers: every place fits in its two bytes, and every count in its four
abbrev pub IndexReads : List ℕ → ℕ → Type 0
IndexReads events n = n ≤ max_records → ReadsFrom (index_bytes (headers_in n events)) 0 (headers_in n events)
