-- One bracket, or two.
use mathlib.Core.Path.{sym, ◌∙◌}
use mathlib.Core.Bool.{true, false}
use Rattle.token.specs.declared.kind.Kind.{Kind}
use Rattle.output.specs.WalkLaws.{told_if, told_none, after_item, goes_as, goes_past}
use Rattle.output.specs.NextLaws.{next_got, next_none}
use Rattle.table_ends.proofs.TableLaws.{second_closed, second_missing, closed_by}
use Rattle.table_ends.proofs.close_table.Goals as goal

pub next_token_if-requires : goal.next_token_if-requires
next_token_if-requires c = c.requires

pub ignore_to_newline-requires : goal.ignore_to_newline-requires
ignore_to_newline-requires c = c.requires

pub returns-in_default : goal.returns-in_default
returns-in_default c =
    goes_as (sym (closed_by _ true _ _ _ _ c.if-array.true ∙ next_none _ _ Kind.RightSquareBracket (second_closed c.args.close.start) (second_missing c.args.head.start c.args.close.start c.args.close.end) c.in_default.ensures))
    (after_item _ _ (λ all. c.report-n.ensures all _) c.ignore_to_newline.ensures)

pub ws_comment_newline-requires : goal.ws_comment_newline-requires
ws_comment_newline-requires c = c.in-Some.ensures.1.good

pub returns-then-array : goal.returns-then-array
returns-then-array c =
    goes_as (sym (closed_by _ true _ _ _ _ c.if-array.true ∙ next_got _ _ _ _ Kind.RightSquareBracket (second_closed c.args.close.start) (second_missing c.args.head.start c.args.close.start c.args.close.end) c.in-Some.ensures))
    (goes_past c.in-Some.ensures.1 (after_item _ _ (λ all. c.emit-n.ensures all _) c.ws_comment_newline.ensures))

pub ws_comment_newline-requires-2 : goal.ws_comment_newline-requires-2
ws_comment_newline-requires-2 c = c.requires

pub returns : goal.returns
returns c = goes_as (sym (closed_by _ false _ _ _ _ c.if-array.false)) (after_item _ _ (λ all. c.emit-n-2.ensures all _) c.ws_comment_newline-2.ensures)
