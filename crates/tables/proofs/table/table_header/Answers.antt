-- The key, and then the close or none.
use mathlib.Core.Path.{refl, sym, ◌∙◌}
use Rattle.token.specs.Tokens.{tokens_at}
use Rattle.token.specs.declared.kind.Kind.{Kind}
use Rattle.rules.specs.Out.{◌then◌}
use Rattle.rules.specs.Messages as message
use Rattle.rules.specs.Keys.{opt_whitespace, key, key_valid}
use Rattle.rules.specs.Table.{next_token_if, closed, unclosed}
use Rattle.output.specs.WalkLaws.{told_if, told_none, goes_on_lem, goes_as, goes_past}
use Rattle.output.specs.NextLaws.{next_got, next_none}
use Rattle.table_ends.proofs.TableLaws.{unclosed_by}
use Rattle.tables.proofs.table.table_header.Goals as goal

pub opt_whitespace-v-requires : goal.opt_whitespace-v-requires
opt_whitespace-v-requires c = c.requires

pub key-k-requires : goal.key-k-requires
key-k-requires c = c.opt_whitespace-v.ensures.good

pub opt_whitespace-w-requires : goal.opt_whitespace-w-requires
opt_whitespace-w-requires c = c.key-k.ensures.goes.good

pub next_token_if-requires : goal.next_token_if-requires
next_token_if-requires c = c.opt_whitespace-w.ensures.good

pub unclosed_table-requires : goal.unclosed_table-requires
unclosed_table-requires c = c.opt_whitespace-w.ensures.good

pub returns-in_default : goal.returns-in_default
returns-in_default c =
    goes_on_lem (λ us. key message.invalid_table us then opt_whitespace then next_token_if Kind.RightSquareBracket (closed c.args.array c.args.head.start) (unclosed c.args.array (key_valid us) c.args.head.start c.args.head.end)) c.opt_whitespace-v.ensures
    (goes_on_lem (next_token_if Kind.RightSquareBracket (closed c.args.array c.args.head.start) (unclosed c.args.array (key_valid (tokens_at c.args.s.now c.opt_whitespace-v.result.cur)) c.args.head.start c.args.head.end)) (goes_on_lem opt_whitespace c.key-k.ensures.goes c.opt_whitespace-w.ensures)
    (goes_as (unclosed_by _ _ _ _ _ _ _ refl c.key-k.ensures.valid ∙ sym (next_none _ _ Kind.RightSquareBracket (closed c.args.array c.args.head.start) (unclosed c.args.array (key_valid (tokens_at c.args.s.now c.opt_whitespace-v.result.cur)) c.args.head.start c.args.head.end) c.in_default.ensures)) c.unclosed_table.ensures))

pub close_table-requires : goal.close_table-requires
close_table-requires c = c.in-Some.ensures.1.good

pub returns : goal.returns
returns c =
    goes_on_lem (λ us. key message.invalid_table us then opt_whitespace then next_token_if Kind.RightSquareBracket (closed c.args.array c.args.head.start) (unclosed c.args.array (key_valid us) c.args.head.start c.args.head.end)) c.opt_whitespace-v.ensures
    (goes_on_lem (next_token_if Kind.RightSquareBracket (closed c.args.array c.args.head.start) (unclosed c.args.array (key_valid (tokens_at c.args.s.now c.opt_whitespace-v.result.cur)) c.args.head.start c.args.head.end)) (goes_on_lem opt_whitespace c.key-k.ensures.goes c.opt_whitespace-w.ensures)
    (goes_as (sym (next_got _ _ _ _ Kind.RightSquareBracket (closed c.args.array c.args.head.start) (unclosed c.args.array (key_valid (tokens_at c.args.s.now c.opt_whitespace-v.result.cur)) c.args.head.start c.args.head.end) c.in-Some.ensures)) (goes_past c.in-Some.ensures.1 c.close_table.ensures)))
