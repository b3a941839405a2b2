-- For n records at any entry: at most 3 n events and 2 n + 1 errors. Proved; nothing here needs to be believed.
use Rattle.std.specs.Prelude.{List, ℕ, zero, suc, ◌+◌, ◌*◌, ◌≤◌, length}
use Rattle.std.proofs.Common.{arith}
use Rattle.token.specs.Limits.{max_records}
use Rattle.token.specs.Tokens.{Tok}
use Rattle.rules.specs.declared.options.Mode.{Mode}
use Rattle.rules.specs.Words.{events_of, errors_of}
use Rattle.rules.specs.Entries.{Entry, document_entry, key_entry, simple_key_entry, value_entry, parse}
use Rattle.bounds.specs.Most.{most_events, most_errors}
use Rattle.bounds.proofs.DocumentRates.{low_two, low_three, low_one, low_errors}
use Rattle.bounds.proofs.EntryRates.{most_events_lem, most_errors_lem}

-- the most of any entry
pub three_events : (e : Entry) (n : ℕ) → most_events e n ≤ 3 * n
three_events document_entry zero = omega arith
three_events document_entry (suc zero) = omega arith
three_events document_entry (suc (suc zero)) = omega arith
three_events document_entry (suc (suc (suc zero))) = omega arith
three_events document_entry (suc (suc (suc (suc n)))) = omega arith
three_events key_entry n = omega arith
three_events simple_key_entry n = omega arith
three_events value_entry zero = omega arith
three_events value_entry (suc zero) = omega arith
three_events value_entry (suc (suc zero)) = omega arith
three_events value_entry (suc (suc (suc n))) = omega arith

pub two_errors : (e : Entry) (n : ℕ) → most_errors e n ≤ 2 * n + 1
two_errors document_entry zero = omega arith
two_errors document_entry (suc zero) = omega arith
two_errors document_entry (suc (suc zero)) = omega arith
two_errors document_entry (suc (suc (suc zero))) = omega arith
two_errors document_entry (suc (suc (suc (suc n)))) = omega arith
two_errors key_entry n = omega arith
two_errors simple_key_entry n = omega arith
two_errors value_entry zero = omega arith
two_errors value_entry (suc zero) = omega arith
two_errors value_entry (suc (suc zero)) = omega arith
two_errors value_entry (suc (suc (suc n))) = omega arith

-- the lists of a run; `all` says only what a look back finds
pub event_bound : (e : Entry) (ts all : List Tok) → length (events_of all (parse e ts).items) ≤ 3 * length ts
event_bound e ts all = omega (arith, most_events_lem e ts all, three_events e (length ts))

pub error_bound : (mode : Mode) (e : Entry) (ts all : List Tok) → length (errors_of mode all (parse e ts).items) ≤ 2 * length ts + 1
error_bound mode e ts all = omega (arith, most_errors_lem mode e ts all, two_errors e (length ts))

-- so no count of an accepted list comes near the bound at which the code's counts stop
pub counts_fit : (mode : Mode) (e : Entry) (ts all : List Tok) → length ts ≤ max_records → (length (events_of all (parse e ts).items) ≤ 2147483647) × (length (errors_of mode all (parse e ts).items) ≤ 2147483647)
counts_fit mode e ts all h = (omega (arith, event_bound e ts all), omega (arith, error_bound mode e ts all))

-- a longer document can give more
pub more_events : (n m : ℕ) → n ≤ m → most_events document_entry n ≤ most_events document_entry m
more_events zero m h = omega arith
more_events (suc n) zero h = omega (arith, h)
more_events (suc zero) (suc m) h = omega (arith, h, low_two m)
more_events (suc (suc zero)) (suc m) h = omega (arith, h, low_two m)
more_events (suc (suc (suc zero))) (suc m) h = omega (arith, h, low_two m)
more_events (suc (suc (suc (suc n)))) (suc m) h = omega (arith, h, low_three (suc m))

pub more_errors : (n m : ℕ) → n ≤ m → most_errors document_entry n ≤ most_errors document_entry m
more_errors zero m h = omega arith
more_errors (suc zero) m h = omega (arith, h, low_one m)
more_errors (suc (suc zero)) m h = omega (arith, h, low_one m)
more_errors (suc (suc (suc zero))) m h = omega (arith, h, low_one m)
more_errors (suc (suc (suc (suc n)))) m h = omega (arith, h, low_errors m)
