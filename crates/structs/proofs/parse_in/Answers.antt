-- The records that `copy` leaves in front are those of the structs.
use Rattle.std.proofs.Common.{List, ℕ, ◌*◌, length, ap, subst, ◌∙◌, take}
use Rattle.rules.specs.Entries.{document_entry}
use Rattle.choices.specs.Modes.{AnswersIn}
use Rattle.struct_records.proofs.StructLaws.{first_records}
use Rattle.structs.proofs.parse_in.Goals as goal

pub returns : goal.returns
returns c =
    let e = ap (λ (s : List ℕ). take (6 * length c.args.tokens.now) s) c.copy.ensures ∙ first_records _ _ in
    subst (λ (s : List ℕ). AnswersIn c.args.mode document_entry s c.args.base c.args.events.now c.args.errors.now c.parse_records.new.events c.parse_records.new.errors c.parse_records.result) e c.parse_records.ensures
