-- One bracket, or two.
use mathlib.Core.Path.{sym}
use Rattle.token.specs.declared.kind.Kind.{Kind}
use Rattle.output.specs.WalkLaws.{told_if, told_none, after_item, goes_as, goes_past}
use Rattle.output.specs.NextLaws.{next_got, next_none}
use Rattle.tables.proofs.OpeningLaws.{second_opened, first_opened}
use Rattle.tables.proofs.table.on_table.Goals as goal

pub next_token_if-requires : goal.next_token_if-requires
next_token_if-requires c = c.requires

pub table_header-requires : goal.table_header-requires
table_header-requires c = c.requires

pub returns-in_default : goal.returns-in_default
returns-in_default c =
    goes_as (sym (next_none _ _ Kind.LeftSquareBracket (second_opened c.args.head.start c.args.head.end) (first_opened c.args.head.start c.args.head.end) c.in_default.ensures))
    (after_item _ _ (λ all. c.emit-n.ensures all _) c.table_header.ensures)

pub table_header-requires-2 : goal.table_header-requires-2
table_header-requires-2 c = c.in-Some.ensures.1.good

pub returns : goal.returns
returns c = goes_as (sym (next_got _ _ _ _ Kind.LeftSquareBracket (second_opened c.args.head.start c.args.head.end) (first_opened c.args.head.start c.args.head.end) c.in-Some.ensures)) (goes_past c.in-Some.ensures.1 (after_item _ _ (λ all. c.emit-n-2.ensures all _) c.table_header-2.ensures))
