-- The byte form is given the first n records, unless the mode is unknown.
use mathlib.Core.Path.{sym}
use Prim.Native.Nat.{◌*◌}
use native.Mathlib.Omega.{arith}
use lib.Seq.{length-take-le}
use Rattle.rules.specs.Entries.{document_entry}
use Rattle.choices.specs.ModeLaws.{known_answers, unknown_answers}
use Rattle.structs.proofs.parse_records.Goals as goal

pub slice_bounds-parse_document-end-in-Some : goal.slice_bounds-parse_document-end-in-Some
slice_bounds-parse_document-end-in-Some c = sym (length-take-le (6 * c.args.n) c.args.records.now (omega arith))

pub returns-in-Some : goal.returns-in-Some
returns-in-Some c = known_answers c.args.mode document_entry _ c.args.base c.args.events.now c.args.errors.now _ c.choose.ensures _ _ _ _ c.in-Some.is c.parse_document.ensures

pub returns-in-None : goal.returns-in-None
returns-in-None c = unknown_answers c.args.mode document_entry _ c.args.base c.args.events.now c.args.errors.now _ c.choose.ensures _ c.in-None.is c.unknown_mode.ensures
