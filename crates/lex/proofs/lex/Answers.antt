-- The refusals in their order, else the tokens.
use mathlib.Core.Path.{ap, sym, ◌∙◌}
use native.Mathlib.Omega.{arith}
use Rattle.lex.specs.declared.Lexed.{Lexed}
use Rattle.lex.specs.LexLaws.{too_long, not_utf8_lem, no_room, with_room, all_lexed}
use Rattle.lex.specs.TextLaws.{base_within, base_small}
use Rattle.lex.proofs.lex.Goals as goal

pub returns-then-text-gt-MAX_END : goal.returns-then-text-gt-MAX_END
returns-then-text-gt-MAX_END c = ap (λ (r : Lexed). record { answer = r; buffer = c.args.records.now }) c.refuse.ensures ∙ sym (too_long c.args.text.now c.args.records.now c.if-text-gt-MAX_END.true)

pub returns-then-valid-text : goal.returns-then-valid-text
returns-then-valid-text c = ap (λ (r : Lexed). record { answer = r; buffer = c.args.records.now }) c.refuse-then-valid-text.ensures ∙ sym (not_utf8_lem c.args.text.now c.args.records.now c.if-text-gt-MAX_END.false _ c.valid_up_to-valid.ensures c.if-valid-text.true)

pub beyond_room-beyond-requires : goal.beyond_room-beyond-requires
beyond_room-beyond-requires c = omega (arith, c.base_of-base.ensures, base_within c.args.text.now)

pub returns-then-beyond-gt0 : goal.returns-then-beyond-gt0
returns-then-beyond-gt0 c = ap (λ (r : Lexed). record { answer = r; buffer = c.args.records.now }) c.refuse-then-beyond-gt0.ensures ∙ sym (no_room c.args.text.now c.args.records.now c.if-text-gt-MAX_END.false _ c.valid_up_to-valid.ensures c.if-valid-text.false _ c.base_of-base.ensures _ c.beyond_room-beyond.ensures c.if-beyond-gt0.true)

pub write-n-requires : goal.write-n-requires
write-n-requires c = record { base_in_bounds = omega (arith, c.base_of-base.ensures, base_within c.args.text.now); base_in_bounds_2 = with_room c.args.text.now c.args.records.now c.if-text-gt-MAX_END.false _ c.valid_up_to-valid.ensures c.if-valid-text.false _ c.base_of-base.ensures _ c.beyond_room-beyond.ensures c.if-beyond-gt0.false }

pub overflow_cast-result : goal.overflow_cast-result
overflow_cast-result c = omega (arith, c.base_of-base.ensures, base_small c.args.text.now)

pub returns : goal.returns
returns c = all_lexed c.args.text.now c.args.records.now c.if-text-gt-MAX_END.false _ c.valid_up_to-valid.ensures c.if-valid-text.false _ c.base_of-base.ensures _ c.beyond_room-beyond.ensures c.if-beyond-gt0.false _ _ c.write-n.ensures.0 c.write-n.ensures.1
