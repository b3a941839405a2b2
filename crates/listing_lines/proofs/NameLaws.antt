-- Events behind an event are named where all are. Proved; nothing here needs to be believed.
use Rattle.std.proofs.Common.{◌≡◌, ◌∙◌, ap, subst, ℕ, ◌+◌, ◌*◌, ◌/◌, List, ◌++◌, length, get_or, arith}
use Rattle.std.proofs.lemmas.List.{get_or-append-add, length-append}
use Rattle.rules.specs.Answer.{event_size}
use Rattle.listing_lines.specs.Numbers.{Named}
use Rattle.listing_lines.specs.Printable.{AllNamed}

pub named_behind : (words event rest : List ℕ) → words ≡ event ++ rest → length event ≡ event_size → AllNamed words (length words / event_size) → AllNamed rest (length rest / event_size)
named_behind words event rest e l named i h =
    let more : length words ≡ length event + length rest = ap length e ∙ length-append event rest in
    let at : event_size * (i + 1) ≡ length event + event_size * i = omega (arith, l) in
    let next : Named (get_or words (event_size * (i + 1)) 0) = named (i + 1) (omega (arith, h, l, more)) in
    subst Named (ap (λ ws. get_or ws (event_size * (i + 1)) 0) e ∙ ap (λ k. get_or (event ++ rest) k 0) at ∙ get_or-append-add event rest (event_size * i) 0) next
