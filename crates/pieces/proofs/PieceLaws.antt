-- Laws of the search for pieces, event by event. Proved; nothing here needs to be believed.
use Rattle.std.proofs.Common.{◌≡◌, ap, sym, ◌∙◌, Bool, List, [], ◌∷◌, ℕ, suc, ◌+◌, ◌-◌, ◌*◌, ◌<◌, ◌≤◌, get_or, add-one, arith}
use Rattle.rules.specs.Answer.{event_size}
use Rattle.pieces.specs.declared.sorts.Sort.{Sort}
use Rattle.pieces.specs.Pieces.{Seen, event_at, events_from, sort_of, end_by, skipped_to, pieces_by, pieces}
use Rattle.pieces.specs.Finding.{events_left}

-- the events from event i on: it, and those behind it
pub events_on : (n i : ℕ) (buffer : List ℕ) → i < n → events_left n i buffer ≡ event_at i buffer ∷ events_left n (i + 1) buffer
unfolding events_from
events_on n i buffer h =
    let e : n - i ≡ suc (n - (i + 1)) = omega arith in
    ap (λ (k : ℕ). events_from k i buffer) e ∙ ap (λ (j : ℕ). event_at i buffer ∷ events_from (n - (i + 1)) j buffer) (sym (add-one i))

-- what an event of a sort gives
module _ (n i : ℕ) (buffer : List ℕ) (h : i < n) (sort : Sort) (e : sort_of (event_at i buffer) ≡ sort) where
  pub end_on : (end : ℕ) → skipped_to (events_left n i buffer) end ≡ end_by sort end (get_or buffer (i * event_size + 3) 0) (skipped_to (events_left n (i + 1) buffer))
  end_on end =
      ap (λ (es : List Seen). skipped_to es end) (events_on n i buffer h)
      ∙ ap (λ (x : Sort). end_by x end (get_or buffer (i * event_size + 3) 0) (skipped_to (events_left n (i + 1) buffer))) e

  pub pieces_on : (skipping : Bool) → pieces (events_left n i buffer) skipping
      ≡ pieces_by sort skipping (event_at i buffer) (skipped_to (events_left n (i + 1) buffer) (get_or buffer (i * event_size + 3) 0)) (pieces (events_left n (i + 1) buffer))
  unfolding pieces
  pieces_on skipping =
      ap (λ (es : List Seen). pieces es skipping) (events_on n i buffer h)
      ∙ ap (λ (x : Sort). pieces_by x skipping (event_at i buffer) (skipped_to (events_left n (i + 1) buffer) (get_or buffer (i * event_size + 3) 0)) (pieces (events_left n (i + 1) buffer))) e

pub events_end : (n i : ℕ) (buffer : List ℕ) → n ≤ i → events_left n i buffer ≡ []
unfolding events_from
events_end n i buffer h = let e : n - i ≡ 0 = omega arith in rw e

-- no event is left, so no piece is, and skipped text goes no further
pub none_left : (n i : ℕ) (buffer : List ℕ) (skipping : Bool) → n ≤ i → pieces (events_left n i buffer) skipping ≡ []
unfolding pieces
none_left n i buffer skipping h = ap (λ (es : List Seen). pieces es skipping) (events_end n i buffer h)

pub end_left : (n i : ℕ) (buffer : List ℕ) (end : ℕ) → n ≤ i → skipped_to (events_left n i buffer) end ≡ end
end_left n i buffer end h = ap (λ (es : List Seen). skipped_to es end) (events_end n i buffer h)
