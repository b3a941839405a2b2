-- What holds of the first error records of a buffer holds of those records cut off, and the other way round. Proved; nothing here needs to be believed.
use Rattle.std.proofs.Common.{◌≡◌, refl, ap, sym, ◌↔◌, List, ◌∷◌, ℕ, zero, suc, ◌+◌, ◌-◌, ◌*◌, ◌/◌, ◌≤◌, length, take, length-take-le, arith}
use Rattle.std.proofs.lemmas.List.{get_or-take}
use Rattle.rules.specs.Answer.{error_size}
use Rattle.pieces.specs.declared.pieces.Piece.{Piece}
use Rattle.mistake_rules.specs.Mistakes.{error_at, errors_from}
use Rattle.mistake_steps.specs.Steps.{errors_left, accounted, Passes}

pub errors_taken : (m n i : ℕ) (buffer : List ℕ) → n * error_size ≤ m - i * error_size → errors_from n i (take m buffer) ≡ errors_from n i buffer
unfolding errors_from
errors_taken m zero i buffer h = refl
errors_taken m (suc n) i buffer h =
    rw (get_or-take m buffer (i * error_size) 0 (omega arith), get_or-take m buffer (i * error_size + 1) 0 (omega arith), get_or-take m buffer (i * error_size + 2) 0 (omega arith), get_or-take m buffer (i * error_size + 3) 0 (omega arith), get_or-take m buffer (i * error_size + 4) 0 (omega arith), get_or-take m buffer (i * error_size + 5) 0 (omega arith), get_or-take m buffer (i * error_size + 6) 0 (omega arith))
    (ap (λ (es : List (List ℕ)). error_at i buffer ∷ es) (errors_taken m n (suc i) buffer (omega arith)))

module _ (m : ℕ) (buffer : List ℕ) (held : m * error_size ≤ length buffer) where
  whole : length (take (m * error_size) buffer) / error_size ≡ m
  whole = omega (arith, length-take-le (m * error_size) buffer held)

  pub left_taken : (r : ℕ) → errors_left (length (take (m * error_size) buffer) / error_size) r (take (m * error_size) buffer) ≡ errors_left m r buffer
  left_taken r = rw whole (errors_taken (m * error_size) (m - r) r buffer (omega arith))

  -- so `is_accounted` over the first m records cut off answers for m records of the buffer
  pub accounted_taken : (r : ℕ) (p : Piece) → accounted p (errors_left (length (take (m * error_size) buffer) / error_size) r (take (m * error_size) buffer)) ≡ accounted p (errors_left m r buffer)
  accounted_taken r p = ap (accounted p) (left_taken r)

  -- and `passed_by` passes what is to be passed in m records of the buffer
  pub passes_taken : (r : ℕ) (p : Piece) (j : ℕ) → Passes (length (take (m * error_size) buffer) / error_size) (take (m * error_size) buffer) r p j ↔ Passes m buffer r p j
  passes_taken r p j = (
    λ x. let within : j ≤ m = omega (arith, whole, x.within) in
        record {
          same = λ all on. rw (sym (left_taken r), sym (left_taken j), sym (errors_taken (m * error_size) (j - r) r buffer (omega arith))) (x.same all on);
          on = x.on;
          within = within;
        },
    λ x. record {
      same = λ all on. rw (left_taken r, left_taken j, errors_taken (m * error_size) (j - r) r buffer (omega (arith, x.within))) (x.same all on);
      on = x.on;
      within = omega (arith, whole, x.within);
    },
  )
