-- The place that the iterator finds, if it finds one.
use Rattle.std.proofs.Common.{rules, ◌≡◌, true, false, ◌<◌, drop, ◌∙◌, sym}
use Rattle.std.proofs.lemmas.Iterator.{IsFirst-from_position, YieldsList-from_slice}
use Rattle.std.proofs.lemmas.List.{take_rest}
use Rattle.places.specs.PlaceLaws.{first_at, first_none}
use Rattle.places.proofs.until.Goals as goal

pub returns-in-Some : goal.returns-in-Some
returns-in-Some g c = λ set tells.
    let z = IsFirst-from_position _ _ _ (λ b. b < 256 → set b ≡ true) (λ b. b < 256 → set b ≡ false) c.position.ensures.ran (YieldsList-from_slice (drop c.args.at c.args.text.now) (c.iter.ensures.rest ∙ take_rest c.args.text.now c.args.at)) (λ x q k h. sym (tells _ _ h (search rules))) (λ x q k. (search rules, λ h. sym (tells _ _ h (search rules)))) in
    first_at set c.args.text.now c.args.at c.requires.at_in_bounds c.type_inv.text c.in-Some.n (rw c.in-Some.is at z)

pub returns : goal.returns
returns g c = λ set tells.
    let z = IsFirst-from_position _ _ _ (λ b. b < 256 → set b ≡ true) (λ b. b < 256 → set b ≡ false) c.position.ensures.ran (YieldsList-from_slice (drop c.args.at c.args.text.now) (c.iter.ensures.rest ∙ take_rest c.args.text.now c.args.at)) (λ x q k h. sym (tells _ _ h (search rules))) (λ x q k. (search rules, λ h. sym (tells _ _ h (search rules)))) in
    first_none set c.args.text.now c.args.at c.requires.at_in_bounds c.type_inv.text (rw c.in-None.is at z)
