-- Pieces: what is wrong in a run by its events alone. An event gives at most one piece, and error events with nothing but whitespace between
-- them give one together. Assumes nothing.
use Rattle.std.specs.Prelude.{ℕ, zero, suc, ◌+◌, ◌*◌, Bool, true, false, cond, List, [], ◌∷◌, get_or, eqb}
use Rattle.rules.specs.Answer.{event_size}
use Rattle.fitting.specs.Quiet.{multi_line_key}
use Rattle.pieces.specs.declared.sorts.Sort.{Sort}
use Rattle.pieces.specs.declared.pieces.Piece.{Piece}
use Rattle.pieces.specs.Messages.{missing, multi_line_string, text_skipped}

-- the four words of an event
pub record Seen : Type 0 where
  pub kind : ℕ
  pub encoding : ℕ
  pub start : ℕ
  pub end : ℕ

-- event i in a buffer
abbrev pub event_at : ℕ → List ℕ → Seen
event_at i buffer =
    record {
      kind = get_or buffer (i * event_size) 0;
      encoding = get_or buffer (i * event_size + 1) 0;
      start = get_or buffer (i * event_size + 2) 0;
      end = get_or buffer (i * event_size + 3) 0;
    }

-- n events in a buffer, from event i on
unfoldable pub events_from : ℕ → ℕ → List ℕ → List Seen
events_from zero i buffer = []
events_from (suc n) i buffer = event_at i buffer ∷ events_from n (suc i) buffer

-- an error event (kind 17) is skipped text; an event of empty span is wrong, something is missing; whitespace (14) is blank; a key that is a
-- multi-line string is wrong; every other event is sound
abbrev pub sort_of : Seen → Sort
sort_of e =
    cond (eqb e.kind 17) Sort.Skipped
    (cond (eqb e.start e.end) (Sort.Wrong (missing e.kind))
    (cond (eqb e.kind 14) Sort.Blank
    (cond (multi_line_key e.kind e.encoding) (Sort.Wrong multi_line_string)
    Sort.Sound)))

-- where skipped text ends that has come to `end`: it goes on over skipped text and blanks, and ends with skipped text
abbrev pub end_by : Sort → ℕ → ℕ → (ℕ → ℕ) → ℕ
end_by Sort.Skipped end next on = on next
end_by Sort.Blank end next on = on end
end_by Sort.Sound end next on = end
end_by (Sort.Wrong message) end next on = end

abbrev pub skipped_to : List Seen → ℕ → ℕ
skipped_to [] end = end
skipped_to (e ∷ es) end = end_by (sort_of e) end e.end (skipped_to es)

-- the pieces of an event and those behind it. `skipping` says whether skipped text has begun before; `end` is where it ends if it begins here
abbrev pub pieces_by : Sort → Bool → Seen → ℕ → (Bool → List Piece) → List Piece
pieces_by Sort.Skipped true e end on = on true
pieces_by Sort.Skipped false e end on = record { message = text_skipped; start = e.start; end = end } ∷ on true
pieces_by Sort.Blank skipping e end on = on skipping
pieces_by Sort.Sound skipping e end on = on false
pieces_by (Sort.Wrong message) skipping e end on = record { message = message; start = e.start; end = e.end } ∷ on false

-- the pieces of events, in order
unfoldable pub pieces : List Seen → Bool → List Piece
pieces [] skipping = []
pieces (e ∷ es) skipping = pieces_by (sort_of e) skipping e (skipped_to es e.end) (pieces es)
