-- A text that is refused is not quiet; else by the theorem about its records.
use mathlib.Core.Path.{sym}
use native.Mathlib.Omega.{arith}
use lib.Seq.{length-take-le}
use Rattle.text_rules.specs.TextLaws.{text_room, text_few}
use Rattle.text_rules.specs.RunLaws.{refused_loud}
use Rattle.text_rules.proofs.TextTheorems.{ends_of}
use Rattle.text_theorems.proofs.theorems.text_events_end_to_end.Goals as goal

pub overflow_mul-size : goal.overflow_mul-size
overflow_mul-size c = record { fits = omega (arith, text_few c.args.text.now c.args.records.now c.args.events.now c.args.errors.now _ _ c.lex-lexed.ensures c.if-refusal-eq0.true) }

pub slice_bounds-quiet_events_end_to_end-end : goal.slice_bounds-quiet_events_end_to_end-end
slice_bounds-quiet_events_end_to_end-end c = text_room c.args.text.now c.args.records.now c.args.events.now c.args.errors.now _ _ c.lex-lexed.ensures c.if-refusal-eq0.true

pub slice_bounds-quiet_events_end_to_end-end-then-refusal-eq0 : goal.slice_bounds-quiet_events_end_to_end-end-then-refusal-eq0
slice_bounds-quiet_events_end_to_end-end-then-refusal-eq0 c = sym (length-take-le _ _ (text_room c.args.text.now c.args.records.now c.args.events.now c.args.errors.now _ _ c.lex-lexed.ensures c.if-refusal-eq0.true))

pub returns-then-refusal-eq0 : goal.returns-then-refusal-eq0
returns-then-refusal-eq0 c = λ options. ends_of options c.args.text.now c.args.records.now c.args.events.now c.args.errors.now _ _ c.lex-lexed.ensures c.if-refusal-eq0.true (c.quiet_events_end_to_end.ensures options)

pub returns-else-refusal-eq0 : goal.returns-else-refusal-eq0
returns-else-refusal-eq0 c = λ options q. absurd (refused_loud c.args.text.now c.args.records.now c.args.events.now c.args.errors.now _ _ c.lex-lexed.ensures c.if-refusal-eq0.false options q)
