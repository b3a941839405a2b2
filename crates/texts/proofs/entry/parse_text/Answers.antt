-- A text that is not read is answered; else its records pass the check, and are read.
use mathlib.Core.Path.{refl, sym}
use native.Mathlib.Omega.{arith}
use lib.Seq.{length-take-le}
use Rattle.text_rules.specs.TextLaws.{text_room, text_passes, text_read}
use Rattle.text_steps.specs.BegunLaws.{text_not_read, text_to_read}
use Rattle.texts.proofs.entry.parse_text.Goals as goal

pub overflow_mul-size : goal.overflow_mul-size
overflow_mul-size c = record { fits = omega (arith, (text_to_read c.args.text.now c.args.records.now _ c.begin_text.ensures c.in-Ok.is).few) }

pub slice_bounds-read_document-end : goal.slice_bounds-read_document-end
slice_bounds-read_document-end c = text_room c.args.text.now c.args.records.now c.args.events.now c.args.errors.now _ _ (text_to_read c.args.text.now c.args.records.now _ c.begin_text.ensures c.in-Ok.is).lexed refl

pub slice_bounds-read_document-end-in-Ok : goal.slice_bounds-read_document-end-in-Ok
slice_bounds-read_document-end-in-Ok c = sym (length-take-le _ _ (text_room c.args.text.now c.args.records.now c.args.events.now c.args.errors.now _ _ (text_to_read c.args.text.now c.args.records.now _ c.begin_text.ensures c.in-Ok.is).lexed refl))

pub read_document-read-requires : goal.read_document-read-requires
read_document-read-requires c = text_passes c.args.text.now c.args.records.now c.args.events.now c.args.errors.now _ _ (text_to_read c.args.text.now c.args.records.now _ c.begin_text.ensures c.in-Ok.is).lexed refl (text_to_read c.args.text.now c.args.records.now _ c.begin_text.ensures c.in-Ok.is).few

pub returns-in-Err : goal.returns-in-Err
returns-in-Err c = text_not_read c.args.text.now c.args.records.now _ c.begin_text.ensures c.in-Err.is c.args.options c.args.events.now c.args.errors.now

pub returns-in-Ok : goal.returns-in-Ok
returns-in-Ok c = rw c.text_answer.ensures (text_read c.args.text.now c.args.records.now c.args.events.now c.args.errors.now _ _ (text_to_read c.args.text.now c.args.records.now _ c.begin_text.ensures c.in-Ok.is).lexed refl c.args.options _ _ _ c.read_document-read.ensures)
