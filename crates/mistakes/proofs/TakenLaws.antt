-- The mistakes of the first events and error records, by their words alone. Proved; nothing here needs to be believed.
use Rattle.std.proofs.Common.{false, ◌≡◌, ap₂, List, ℕ, ◌*◌, ◌/◌, ◌≤◌, length, take, length-take-le, arith}
use Rattle.rules.specs.Answer.{event_size, error_size}
use Rattle.pieces.specs.Pieces.{Seen, pieces}
use Rattle.pieces.proofs.TakenLaws.{events_taken}
use Rattle.mistake_rules.specs.Mistakes.{merged, mistakes_in}
use Rattle.mistake_steps.proofs.TakenLaws.{errors_taken}

pub mistakes_taken : (n : ℕ) (events : List ℕ) (m : ℕ) (errors : List ℕ) → n ≤ length events / event_size → m ≤ length errors / error_size
    → mistakes_in (length (take (n * event_size) events) / event_size) (take (n * event_size) events) (length (take (m * error_size) errors) / error_size) (take (m * error_size) errors)
    ≡ mistakes_in n events m errors
mistakes_taken n events m errors h g =
    let some : length (take (n * event_size) events) / event_size ≡ n = omega (arith, length-take-le (n * event_size) events (omega arith)) in
    let few : length (take (m * error_size) errors) / error_size ≡ m = omega (arith, length-take-le (m * error_size) errors (omega arith)) in
    rw (some, few)
    (ap₂ (λ (es : List Seen) (rs : List (List ℕ)). merged (pieces es false) rs) (events_taken (n * event_size) n 0 events (omega arith)) (errors_taken (m * error_size) m 0 errors (omega arith)))
