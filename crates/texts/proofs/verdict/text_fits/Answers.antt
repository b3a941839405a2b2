-- A text that is not judged is answered; else its records are judged.
use mathlib.Core.Path.{refl, sym}
use mathlib.Core.List.{[]}
use native.Mathlib.Omega.{arith}
use lib.Seq.{length-take-le}
use Rattle.text_rules.specs.TextLaws.{text_room, text_passes}
use Rattle.text_rules.specs.RunLaws.{regular_are}
use Rattle.text_steps.specs.BegunLaws.{text_not_judged, text_to_judge}
use Rattle.text_steps.proofs.TextVerdictLaws.{text_judged}
use Rattle.texts.proofs.verdict.text_fits.Goals as goal

pub overflow_mul-size : goal.overflow_mul-size
overflow_mul-size c = record { fits = omega (arith, (text_to_judge c.args.text.now c.args.records.now _ c.begin_verdict.ensures c.in-Ok.is).few) }

pub slice_bounds-judge-end : goal.slice_bounds-judge-end
slice_bounds-judge-end c = text_room c.args.text.now c.args.records.now [] [] _ _ (text_to_judge c.args.text.now c.args.records.now _ c.begin_verdict.ensures c.in-Ok.is).lexed refl

pub slice_bounds-judge-end-in-Ok : goal.slice_bounds-judge-end-in-Ok
slice_bounds-judge-end-in-Ok c = sym (length-take-le _ _ (text_room c.args.text.now c.args.records.now [] [] _ _ (text_to_judge c.args.text.now c.args.records.now _ c.begin_verdict.ensures c.in-Ok.is).lexed refl))

pub judge-requires : goal.judge-requires
judge-requires c = record { base_value = text_passes c.args.text.now c.args.records.now [] [] _ _ (text_to_judge c.args.text.now c.args.records.now _ c.begin_verdict.ensures c.in-Ok.is).lexed refl (text_to_judge c.args.text.now c.args.records.now _ c.begin_verdict.ensures c.in-Ok.is).few; regular = regular_are c.args.text.now c.args.records.now [] [] _ _ (text_to_judge c.args.text.now c.args.records.now _ c.begin_verdict.ensures c.in-Ok.is).lexed refl }

pub returns-in-Err : goal.returns-in-Err
returns-in-Err c = text_not_judged c.args.text.now c.args.records.now _ c.begin_verdict.ensures c.in-Err.is c.args.events.now

pub returns-in-Ok : goal.returns-in-Ok
returns-in-Ok c = text_judged c.args.text.now c.args.records.now c.args.events.now _ _ (text_to_judge c.args.text.now c.args.records.now _ c.begin_verdict.ensures c.in-Ok.is).lexed refl _ _ c.judge.ensures
