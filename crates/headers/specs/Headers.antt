-- The headers of a list of events, worked out from the kinds of the events alone, and the bytes that stand for them. Assumes nothing.
use Rattle.std.specs.Prelude.{ℕ, zero, suc, ◌*◌, ◌/◌, ◌%◌, Bool, true, false, cond, List, [], ◌∷◌, ◌++◌, eqb, get_or}
use Rattle.rules.specs.Answer.{event_size}
use Rattle.headers.specs.declared.header.Header.{Header}

-- 1, std_table_open, and 3, array_table_open
abbrev pub opens_header : ℕ → Bool
opens_header kind = cond (eqb kind 1) true (eqb kind 3)

-- 2, std_table_close; of an array table 4, array_table_close
abbrev pub closing : Bool → ℕ
closing true = 4
closing false = 2

-- the simple_key events (kind 5) up to the event that closes. In a quiet run it comes; in other words the next header or the end may come
-- before it
abbrev pub parts_up_to : ℕ → List ℕ → ℕ
parts_up_to close [] = 0
parts_up_to close (kind ∷ kinds) =
    cond (opens_header kind) 0 (cond (eqb kind close) 0 (cond (eqb kind 5) (suc (parts_up_to close kinds)) (parts_up_to close kinds)))

-- the events up to the next header or the end
abbrev pub up_to_header : List ℕ → ℕ
up_to_header [] = 0
up_to_header (kind ∷ kinds) = cond (opens_header kind) 0 (suc (up_to_header kinds))

-- the headers of events of these kinds, the first of which has the number n
abbrev pub headers_from : ℕ → List ℕ → List Header
headers_from n [] = []
headers_from n (kind ∷ kinds) =
    cond (opens_header kind)
    (record { place = n; parts = parts_up_to (closing (eqb kind 3)) kinds; array = eqb kind 3; events = suc (up_to_header kinds) } ∷ headers_from (suc n) kinds)
    (headers_from (suc n) kinds)

-- the kinds of n events in a buffer, from event i on: word 0 of each
abbrev pub kinds_from : ℕ → ℕ → List ℕ → List ℕ
kinds_from zero i buffer = []
kinds_from (suc n) i buffer = get_or buffer (i * event_size) 0 ∷ kinds_from n (suc i) buffer

-- the headers of the first n events in a buffer
unfoldable pub headers_in : ℕ → List ℕ → List Header
headers_in n buffer = headers_from 0 (kinds_from n 0 buffer)

-- numbers of two and of four bytes, least byte first
abbrev pub two_bytes : ℕ → List ℕ
two_bytes n = n % 256 ∷ n / 256 % 256 ∷ []

abbrev pub four_bytes : ℕ → List ℕ
four_bytes n = n % 256 ∷ n / 256 % 256 ∷ n / 65536 % 256 ∷ n / 16777216 % 256 ∷ []

abbrev pub mark : Bool → ℕ
mark true = 1
mark false = 0

-- the length of an entry in bytes
abbrev pub entry_size : ℕ
entry_size = 17

-- an entry: its length in bytes, the kind of entry, place, key parts, the array mark, events
abbrev pub entry_bytes : Header → List ℕ
entry_bytes h = four_bytes entry_size ++ two_bytes 1 ++ two_bytes h.place ++ four_bytes h.parts ++ mark h.array ∷ four_bytes h.events

-- the entries of these headers, one after the other
unfoldable pub index_bytes : List Header → List ℕ
index_bytes [] = []
index_bytes (h ∷ hs) = entry_bytes h ++ index_bytes hs
