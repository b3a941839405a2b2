-- One event; a multi-line string is reported first.
use mathlib.Core.Path.{refl, ◌∙◌}
use native.Mathlib.Omega.{arith}
use Rattle.output.specs.WalkLaws.{by_rule, first_item, run_done, goes_by}
use Rattle.simple_parts.proofs.SimpleKeyLaws.{multi_line_part, one_line_part}
use borrow.Enum.Refused.{opened}
use Rattle.simple_parts.proofs.simple_part.Goals as goal

pub returns-in-MlLiteralString : goal.returns-in-MlLiteralString
returns-in-MlLiteralString c = goes_by _ _ _ _ _ _ (λ base q. by_rule _ _ _ _ (multi_line_part c.args.message c.args.encoding c.args.t.start c.args.t.end _ c.in-MlLiteralString.in-MlLiteralString-own.keys1) ∙ ((first_item _ _ _ _ _ (c.report_at-i.ensures _ _)) ∙ (first_item _ _ _ _ _ (c.emit-n.ensures _ _))) ∙ run_done _ _ _ _ _ _) c.requires (omega arith) refl

pub returns-in_default : goal.returns-in_default
returns-in_default c = goes_by _ _ _ _ _ _ (λ base q. by_rule _ _ _ _ (one_line_part c.args.message c.args.encoding c.args.t.start c.args.t.end _ (opened c.in_default.in_default-own.keys2)) ∙ ((first_item _ _ _ _ _ (c.emit-n-in_default.ensures _ _))) ∙ run_done _ _ _ _ _ _) c.requires (omega arith) refl
