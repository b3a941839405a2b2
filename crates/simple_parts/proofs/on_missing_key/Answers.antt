-- A report, then by the kind.
use mathlib.Core.Path.{refl, sym, ◌∙◌}
use native.Mathlib.Omega.{arith}
use Rattle.output.specs.WalkLaws.{by_rule, first_item, run_done, goes_by, goes_as, after_item}
use Rattle.simple_parts.proofs.SimpleKeyLaws.{missing_by, missing_rest}
use Rattle.simple_parts.proofs.on_missing_key.Goals as goal

pub returns-in-Comment : goal.returns-in-Comment
returns-in-Comment c = goes_as (sym (missing_by c.args.message c.args.t.kind c.args.t.start c.args.t.end _ _ _ c.in_line.ensures c.in-Comment.is)) (after_item _ _ (λ all. c.report_before-i.ensures all _) c.on_comment.ensures)

pub returns-in-Newline : goal.returns-in-Newline
returns-in-Newline c = goes_by _ _ _ _ _ _ (λ base q. by_rule _ _ _ _ (missing_by c.args.message c.args.t.kind c.args.t.start c.args.t.end _ _ _ c.in_line.ensures c.in-Newline.is) ∙ ((first_item _ _ _ _ _ (c.report_before-i.ensures _ _)) ∙ (first_item _ _ _ _ _ (c.emit-n.ensures _ _))) ∙ run_done _ _ _ _ _ _) c.requires (omega arith) refl

pub returns-in-Eof : goal.returns-in-Eof
returns-in-Eof c = goes_by _ _ _ _ _ _ (λ base q. by_rule _ _ _ _ (missing_by c.args.message c.args.t.kind c.args.t.start c.args.t.end _ _ _ c.in_line.ensures c.in-Eof.is) ∙ ((first_item _ _ _ _ _ (c.report_before-i.ensures _ _))) ∙ run_done _ _ _ _ _ _) c.requires (omega arith) refl

pub returns-in_default : goal.returns-in_default
returns-in_default c = goes_by _ _ _ _ _ _ (λ base q. by_rule _ _ _ _ (missing_rest c.args.message c.args.t.kind c.args.t.start c.args.t.end _ _ c.in_line.ensures c.in_default.in_default-own.keys4) ∙ ((first_item _ _ _ _ _ (c.report_before-i.ensures _ _)) ∙ (first_item _ _ _ _ _ (c.emit-n-in_default.ensures _ _))) ∙ run_done _ _ _ _ _ _) c.requires (omega arith) refl
