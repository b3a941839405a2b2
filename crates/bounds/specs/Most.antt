-- The most events and the most errors that a list of n records can give, entry by entry. Assumes nothing.
use Rattle.std.specs.Prelude.{ℕ, zero, suc, ◌+◌, ◌*◌, ◌/◌}
use Rattle.rules.specs.Entries.{Entry, document_entry, key_entry, simple_key_entry, value_entry}

-- document: 0, 3, 5, 7, then 3n - 3; value: 0, 2, 5, then 3n - 2
abbrev pub most_events : Entry → ℕ → ℕ
most_events document_entry zero = 0
most_events document_entry (suc zero) = 3
most_events document_entry (suc (suc zero)) = 5
most_events document_entry (suc (suc (suc zero))) = 7
most_events document_entry (suc (suc (suc (suc n)))) = 3 * n + 9
most_events key_entry n = 2 * n
most_events simple_key_entry n = n
most_events value_entry zero = 0
most_events value_entry (suc zero) = 2
most_events value_entry (suc (suc zero)) = 5
most_events value_entry (suc (suc (suc n))) = 3 * n + 7

-- document: 0, 1, 2, 3, then 2n - 4; value: 1, 2, 3, then 2n - 2
abbrev pub most_errors : Entry → ℕ → ℕ
most_errors document_entry zero = 0
most_errors document_entry (suc zero) = 1
most_errors document_entry (suc (suc zero)) = 2
most_errors document_entry (suc (suc (suc zero))) = 3
most_errors document_entry (suc (suc (suc (suc n)))) = 2 * n + 4
most_errors key_entry n = 1
most_errors simple_key_entry n = n / 2 + 1
most_errors value_entry zero = 1
most_errors value_entry (suc zero) = 2
most_errors value_entry (suc (suc zero)) = 3
most_errors value_entry (suc (suc (suc n))) = 2 * n + 4
