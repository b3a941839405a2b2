-- A text that is refused is not quiet; else by the theorem about the records of both.
use mathlib.Core.Path.{sym}
use native.Mathlib.Omega.{arith}
use lib.Seq.{length-take-le}
use Rattle.text_rules.specs.TextLaws.{text_room, text_few}
use Rattle.text_rules.specs.RunLaws.{refused_loud}
use Rattle.text_rules.proofs.TextTheorems.{same_of}
use Rattle.text_theorems.proofs.theorems.text_events_determine_tokens.Goals as goal

pub overflow_mul-size : goal.overflow_mul-size
overflow_mul-size c = record { fits = omega (arith, text_few c.args.text.now c.args.records.now c.args.events.now c.args.errors.now _ _ c.lex-lexed.ensures c.if-refusal-eq0.true) }

pub overflow_mul-other_size : goal.overflow_mul-other_size
overflow_mul-other_size c = record { fits = omega (arith, text_few c.args.other_text.now c.args.other_records.now c.args.other_events.now c.args.other_errors.now _ _ c.lex-other_lexed.ensures c.if-other_refusal-eq0.true) }

pub slice_bounds-quiet_events_determine_tokens-end : goal.slice_bounds-quiet_events_determine_tokens-end
slice_bounds-quiet_events_determine_tokens-end c = text_room c.args.text.now c.args.records.now c.args.events.now c.args.errors.now _ _ c.lex-lexed.ensures c.if-refusal-eq0.true

pub slice_bounds-quiet_events_determine_tokens-end-then-other_refusal-eq0 : goal.slice_bounds-quiet_events_determine_tokens-end-then-other_refusal-eq0
slice_bounds-quiet_events_determine_tokens-end-then-other_refusal-eq0 c = sym (length-take-le _ _ (text_room c.args.text.now c.args.records.now c.args.events.now c.args.errors.now _ _ c.lex-lexed.ensures c.if-refusal-eq0.true))

pub slice_bounds-quiet_events_determine_tokens-end-then-other_refusal-eq0-2 : goal.slice_bounds-quiet_events_determine_tokens-end-then-other_refusal-eq0-2
slice_bounds-quiet_events_determine_tokens-end-then-other_refusal-eq0-2 c = text_room c.args.other_text.now c.args.other_records.now c.args.other_events.now c.args.other_errors.now _ _ c.lex-other_lexed.ensures c.if-other_refusal-eq0.true

pub slice_bounds-quiet_events_determine_tokens-end-then-other_refusal-eq0-3 : goal.slice_bounds-quiet_events_determine_tokens-end-then-other_refusal-eq0-3
slice_bounds-quiet_events_determine_tokens-end-then-other_refusal-eq0-3 c = sym (length-take-le _ _ (text_room c.args.other_text.now c.args.other_records.now c.args.other_events.now c.args.other_errors.now _ _ c.lex-other_lexed.ensures c.if-other_refusal-eq0.true))

pub returns-then-other_refusal-eq0 : goal.returns-then-other_refusal-eq0
returns-then-other_refusal-eq0 c = λ options other. same_of options other c.args.text.now c.args.records.now c.args.events.now c.args.errors.now _ _ c.lex-lexed.ensures c.if-refusal-eq0.true c.args.other_text.now c.args.other_records.now c.args.other_events.now c.args.other_errors.now _ _ c.lex-other_lexed.ensures c.if-other_refusal-eq0.true (c.quiet_events_determine_tokens.ensures options other)

pub returns-else-other_refusal-eq0 : goal.returns-else-other_refusal-eq0
returns-else-other_refusal-eq0 c = λ options other p q. absurd (refused_loud c.args.other_text.now c.args.other_records.now c.args.other_events.now c.args.other_errors.now _ _ c.lex-other_lexed.ensures c.if-other_refusal-eq0.false other q)

pub returns-else-refusal-eq0 : goal.returns-else-refusal-eq0
returns-else-refusal-eq0 c = λ options other p q. absurd (refused_loud c.args.text.now c.args.records.now c.args.events.now c.args.errors.now _ _ c.lex-lexed.ensures c.if-refusal-eq0.false options p)
