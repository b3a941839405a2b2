-- What is found in the first events of a buffer is found in those events cut off, and the other way round. Proved; nothing here needs to be believed.
use Rattle.std.proofs.Common.{◌≡◌, refl, ap, ◌↔◌, List, ◌∷◌, ℕ, zero, suc, ◌+◌, ◌-◌, ◌*◌, ◌/◌, ◌≤◌, length, take, length-take-le, Option, Some, None, arith}
use Rattle.std.proofs.lemmas.List.{get_or-take}
use Rattle.rules.specs.Answer.{event_size}
use Rattle.pieces.specs.declared.pieces.Piece.{Piece}
use Rattle.pieces.specs.Pieces.{Seen, event_at, events_from}
use Rattle.pieces.specs.Finding.{events_left, Finds}

pub events_taken : (m n i : ℕ) (buffer : List ℕ) → n * event_size ≤ m - i * event_size → events_from n i (take m buffer) ≡ events_from n i buffer
unfolding events_from
events_taken m zero i buffer h = refl
events_taken m (suc n) i buffer h =
    rw (get_or-take m buffer (i * event_size) 0 (omega arith), get_or-take m buffer (i * event_size + 1) 0 (omega arith), get_or-take m buffer (i * event_size + 2) 0 (omega arith), get_or-take m buffer (i * event_size + 3) 0 (omega arith))
    (ap (λ (es : List Seen). event_at i buffer ∷ es) (events_taken m n (suc i) buffer (omega arith)))

pub left_taken : (n i : ℕ) (buffer : List ℕ) → n * event_size ≤ length buffer → events_left (length (take (n * event_size) buffer) / event_size) i (take (n * event_size) buffer) ≡ events_left n i buffer
left_taken n i buffer held =
    let whole : length (take (n * event_size) buffer) / event_size ≡ n = omega (arith, length-take-le (n * event_size) buffer held) in
    rw whole (events_taken (n * event_size) (n - i) i buffer (omega arith))

-- so `next_piece` over the first n events cut off finds what is to be found in n events of the buffer
pub finds_taken : (n i : ℕ) (buffer : List ℕ) (r : Option (Piece × ℕ)) → n * event_size ≤ length buffer
    → Finds (length (take (n * event_size) buffer) / event_size) (take (n * event_size) buffer) i r ↔ Finds n buffer i r
finds_taken n i buffer (Some (p, next)) held =
    let whole : length (take (n * event_size) buffer) / event_size ≡ n = omega (arith, length-take-le (n * event_size) buffer held) in
    rw (left_taken n i buffer held, left_taken n next buffer held, whole) ((λ x. x), (λ x. x))
finds_taken n i buffer None held = rw (left_taken n i buffer held) ((λ x. x), (λ x. x))
