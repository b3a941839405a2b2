-- From an answer to the C structure that holds it, for the list of mistakes. Proved; nothing here needs to be believed.
use Rattle.std.specs.Prelude.{◌≡◌, List, ℕ}
use Rattle.std.proofs.Common.{ap, ◌∙◌}
use Rattle.rules.specs.declared.answer.Answer.{Answer}
use Rattle.mistake_rules.specs.declared.answer.Listed.{Listed}
use Rattle.mistake_rules.specs.Outcome.{Lists, listing}
use Rattle.text_listing.specs.declared.TextCheck.{TextCheck}
use Rattle.text_listing.specs.Checking.{ChecksText}
use Rattle.export_listings.specs.declared.listings.ExportedListed.{ExportedListed}
use Rattle.export_listings.specs.declared.listings.ExportedCheck.{ExportedCheck}
use Rattle.export_listings.specs.ExportedMistakes.{plain_listed, plain_check, ExportsListing, ExportsCheck}

pub exports_listing : (records : List ℕ) (base : ℕ) (answer plain : Answer) (events errors mistakes after : List ℕ) (r : Listed) (e : ExportedListed) → answer ≡ plain → plain_listed e ≡ r
    → Lists records base (record { answer = answer; events = events; errors = errors }) mistakes after r → ExportsListing records base plain events errors mistakes after e
exports_listing records base answer plain events errors mistakes after r e a p q =
    ap (λ (x : Listed). record { answer = x; buffer = after }) p ∙ q
    ∙ ap (λ (x : Answer). listing records base (record { answer = x; events = events; errors = errors }) mistakes) a

pub exports_check : (text records events errors mistakes a b c d : List ℕ) (r : TextCheck) (e : ExportedCheck) → plain_check e ≡ r
    → ChecksText text records events errors mistakes a b c d r → ExportsCheck text records events errors mistakes a b c d e
exports_check text records events errors mistakes a b c d r e p q = ap (λ (x : TextCheck). record { answer = x; records = a; events = b; errors = c; mistakes = d }) p ∙ q
