-- A newline at once, or all that a line may end with.
use mathlib.Core.Path.{◌∙◌}
use native.Mathlib.Omega.{arith}
use Rattle.output.specs.WalkLaws.{told_if, by_rule, first_item, run_done, goes_by}
use Rattle.line_ends.proofs.EndingLaws.{newline_ends}
use Rattle.token.specs.declared.kind.Kind.{Kind}
use Rattle.line_ends.proofs.line_end.usual_line_end.Goals as goal

pub next_token_if-requires : goal.next_token_if-requires
next_token_if-requires c = c.requires

pub ws_comment_newline-requires : goal.ws_comment_newline-requires
ws_comment_newline-requires c = c.requires

pub returns-in_default : goal.returns-in_default
returns-in_default c = c.ws_comment_newline.ensures

pub returns : goal.returns
returns c = goes_by _ _ _ _ _ _ (λ base q. by_rule _ _ _ _ (newline_ends _ _ _ _ c.in-Some.ensures.1 c.in-Some.ensures.0) ∙ ((first_item _ _ _ _ _ (c.emit-n.ensures _ _))) ∙ run_done _ _ _ _ _ _) c.in-Some.ensures.1.good (omega (arith, c.in-Some.ensures.1.on)) c.in-Some.ensures.1.base
