-- By whether the key was valid, and whether it is an array table; the last token but whitespace is to blame.
use mathlib.Core.Path.{◌≡◌, refl, ap, sym, ◌∙◌}
use mathlib.Core.Logic.{inl, inr}
use mathlib.Core.Bool.{true, false}
use Rattle.token.specs.Tokens.{tokens_at}
use Rattle.token.specs.Spans.{span_after}
use Rattle.token.specs.declared.span.Span.{Span}
use Rattle.output.specs.WalkLaws.{goes_as}
use Rattle.output.specs.LookLaws.{looked_up_lem, report_as}
use Rattle.table_ends.proofs.TableLaws.{unclosed_by, skipped_invalid, reported, after_item_at}
use Rattle.table_ends.proofs.unclosed_table.Goals as goal
use Rattle.table_ends.proofs.unclosed_table.Goals.{then-array, else-array}

pub nearest_before-last-requires : goal.nearest_before-last-requires
nearest_before-last-requires c = c.requires

pub ignore_to_newline-requires : goal.ignore_to_newline-requires
ignore_to_newline-requires c = c.requires

pub returns-then-valid : goal.returns-then-valid
returns-then-valid c =
    goes_as (sym (unclosed_by _ _ _ true _ _ _ refl c.if-valid.true ∙ (reported {A = c.args.array ≡ true} {B = c.args.array ≡ false} c.args.array c.if-array.message c.if-array.expected c.args.head.start c.args.head.end (tokens_at c.args.s.now c.args.c) (λ u. u) (λ u. u) (elim c.if-array.branch [ then-array w ↦ inl (w.if-array.true, w.message-is, w.expected-is) | else-array w ↦ inr (w.if-array.false, w.message-is, w.expected-is) ]))))
    (after_item_at _ _ (λ base q. c.report-n.ensures _ _ ∙ report_as _ _ _ _ _ _ _ _ (ap (λ (z : Span). record { start = c.args.head.start; end = z.end }) (looked_up_lem _ _ base _ _ _ _ c.requires q c.nearest_before-last.ensures refl)) (ap span_after (looked_up_lem _ _ base _ _ _ _ c.requires q c.nearest_before-last.ensures refl))) c.ignore_to_newline.ensures)

pub ignore_to_newline-requires-2 : goal.ignore_to_newline-requires-2
ignore_to_newline-requires-2 c = c.requires

pub returns : goal.returns
returns c = goes_as (sym (unclosed_by _ c.args.array _ false c.args.head.start c.args.head.end (tokens_at c.args.s.now c.args.c) refl c.if-valid.false ∙ skipped_invalid c.args.array c.args.head.start c.args.head.end (tokens_at c.args.s.now c.args.c))) c.ignore_to_newline-2.ensures
