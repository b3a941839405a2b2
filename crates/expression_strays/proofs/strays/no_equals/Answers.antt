-- A report at the token that is seen, or nothing is left.
use mathlib.Core.Path.{refl, subst, ◌∙◌}
use native.Mathlib.Omega.{arith}
use Rattle.token.specs.Tokens.{Peek}
use Rattle.rules.specs.Out.{done}
use Rattle.rules.specs.Document.{no_equals}
use Rattle.output.specs.WalkLaws.{by_rule, rule_end, run_done, goes_by, goes_as, after_item}
use Rattle.expression_strays.proofs.StrayLaws.{equals_missing}
use Rattle.expression_strays.proofs.strays.no_equals.Goals as goal

pub peek-requires : goal.peek-requires
peek-requires c = c.requires

pub returns-in_default : goal.returns-in_default
returns-in_default c = goes_by _ _ _ _ _ _ (λ base q. by_rule _ _ _ _ (rule_end _ _ (no_equals c.args.message) done ((subst (Peek c.args.s.now c.args.c)) c.in_default.is c.peek.ensures) refl) ∙ run_done _ _ _ _ _ _) c.requires (omega arith) refl

pub ignore_to_newline-requires : goal.ignore_to_newline-requires
ignore_to_newline-requires c = c.requires

pub returns : goal.returns
returns c = goes_as (equals_missing _ _ _ _ c.args.message ((subst (Peek c.args.s.now c.args.c)) c.in-Some.is c.peek.ensures).took) (after_item _ _ (λ all. c.report-n.ensures all _) c.ignore_to_newline.ensures)
