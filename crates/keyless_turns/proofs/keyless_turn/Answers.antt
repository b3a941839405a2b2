-- One answer an arm: the walk by the rule of what the token is.
use mathlib.Core.Path.{refl, ap, sym, ◌∙◌}
use native.Mathlib.Omega.{arith}
use Rattle.token.specs.Tokens.{tokens_at}
use Rattle.rules.specs.declared.document.InDocument.{InDocument}
use Rattle.output.specs.WalkLaws.{first_item, run_done, goes_by, goes_as}
use Rattle.keyless_turns.specs.Keyless.{keyless}
use Rattle.keyless_turns.proofs.KeylessLaws.{rest}
use Rattle.keyless_turns.proofs.keyless_turn.Goals as goal

pub on_table-requires : goal.on_table-requires
on_table-requires c = c.requires

pub on_missing_std_table-requires : goal.on_missing_std_table-requires
on_missing_std_table-requires c = c.requires

pub on_missing_expression_key-requires : goal.on_missing_expression_key-requires
on_missing_expression_key-requires c = c.requires

pub on_comment-requires : goal.on_comment-requires
on_comment-requires c = c.requires

pub returns-in-OpenSquare : goal.returns-in-OpenSquare
returns-in-OpenSquare c = goes_as (ap (λ (z : InDocument). keyless z c.args.t.start c.args.t.end (tokens_at c.args.s.now c.args.c)) (sym c.in-OpenSquare.is)) c.on_table.ensures

pub returns-in-CloseSquare : goal.returns-in-CloseSquare
returns-in-CloseSquare c = goes_as (ap (λ (z : InDocument). keyless z c.args.t.start c.args.t.end (tokens_at c.args.s.now c.args.c)) (sym c.in-CloseSquare.is)) c.on_missing_std_table.ensures

pub returns-in-Stray : goal.returns-in-Stray
returns-in-Stray c = goes_as (ap (λ (z : InDocument). keyless z c.args.t.start c.args.t.end (tokens_at c.args.s.now c.args.c)) (sym c.in-Stray.is)) c.on_missing_expression_key.ensures

pub returns-in-Whitespace : goal.returns-in-Whitespace
returns-in-Whitespace c = goes_as (ap (λ (z : InDocument). keyless z c.args.t.start c.args.t.end (tokens_at c.args.s.now c.args.c)) (sym c.in-Whitespace.is)) (goes_by _ _ _ _ _ _ (λ base q. ((first_item _ _ _ _ _ (c.emit-n.ensures _ _))) ∙ run_done _ _ _ _ _ _) c.requires (omega arith) refl)

pub returns-in-Newline : goal.returns-in-Newline
returns-in-Newline c = goes_as (ap (λ (z : InDocument). keyless z c.args.t.start c.args.t.end (tokens_at c.args.s.now c.args.c)) (sym c.in-Newline.is)) (goes_by _ _ _ _ _ _ (λ base q. ((first_item _ _ _ _ _ (c.emit-n-in-Newline.ensures _ _))) ∙ run_done _ _ _ _ _ _) c.requires (omega arith) refl)

pub returns-in-Comment : goal.returns-in-Comment
returns-in-Comment c = goes_as (ap (λ (z : InDocument). keyless z c.args.t.start c.args.t.end (tokens_at c.args.s.now c.args.c)) (sym c.in-Comment.is)) c.on_comment.ensures

pub returns-in_default : goal.returns-in_default
returns-in_default c = goes_as (rest c.args.x _ _ _ c.in_default.in_default-own.keys7) (goes_by _ _ _ _ _ _ (λ base q. run_done _ _ _ _ _ _) c.requires (omega arith) refl)
