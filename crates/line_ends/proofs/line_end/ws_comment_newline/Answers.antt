-- The line's end from its first token on.
use mathlib.Core.Path.{refl, subst, ◌∙◌}
use native.Mathlib.Omega.{arith}
use Rattle.token.specs.Tokens.{Peek}
use Rattle.rules.specs.Out.{done}
use Rattle.rules.specs.Skipping.{ws_comment_newline}
use Rattle.output.specs.WalkLaws.{by_rule, rule_end, run_done, goes_by, goes_as}
use Rattle.line_ends.proofs.EndingLaws.{ending_start}
use Rattle.line_ends.proofs.line_end.ws_comment_newline.Goals as goal

pub peek-requires : goal.peek-requires
peek-requires c = c.requires

pub returns-in_default : goal.returns-in_default
returns-in_default c = goes_by _ _ _ _ _ _ (λ base q. by_rule _ _ _ _ (rule_end _ _ ws_comment_newline done ((subst (Peek c.args.s.now c.args.c)) c.in_default.is c.peek.ensures) refl) ∙ run_done _ _ _ _ _ _) c.requires (omega arith) refl

pub line_ending-requires : goal.line_ending-requires
line_ending-requires c = c.requires

pub returns : goal.returns
returns c = goes_as (ending_start _ _ _ _ ((subst (Peek c.args.s.now c.args.c)) c.in-Some.is c.peek.ensures).took) c.line_ending.ensures
