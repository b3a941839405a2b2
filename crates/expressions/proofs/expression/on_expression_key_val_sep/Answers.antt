-- `=`, whitespace, the value, and the end of the line unless the value was refused.
use mathlib.Core.Path.{refl, ap}
use Rattle.rules.specs.Value.{value}
use Rattle.rules.specs.Skipping.{ws_comment_newline}
use Rattle.nest.specs.NestedLaws.{nested_goes, nested_item, nested_on, nested_stop, nested_after, nested_ok, nested_err}
use Rattle.nest.specs.Nested.{is_stopped}
use Rattle.expressions.proofs.expression.on_expression_key_val_sep.Goals as goal

pub opt_whitespace-w-requires : goal.opt_whitespace-w-requires
opt_whitespace-w-requires c = c.requires

pub usual_value-requires : goal.usual_value-requires
usual_value-requires c = c.opt_whitespace-w.ensures.good

pub returns-in_err-v : goal.returns-in_err-v
returns-in_err-v c = nested_item _ _ (λ all. c.emit-n.ensures all _) (nested_err (nested_stop ws_comment_newline (nested_after (value c.args.settings.levels) c.opt_whitespace-w.ensures c.usual_value.ensures) (ap is_stopped c.in_err-v.was)) c.in_err-v.was c.from_residual.ensures.1)

pub usual_line_end-z-requires : goal.usual_line_end-z-requires
usual_line_end-z-requires c = (nested_ok c.usual_value.ensures c.in_ok-v.was).good

pub returns : goal.returns
returns c = nested_item _ _ (λ all. c.emit-n.ensures all _) (nested_on ws_comment_newline (nested_after (value c.args.settings.levels) c.opt_whitespace-w.ensures (nested_ok c.usual_value.ensures c.in_ok-v.was)) refl (nested_goes c.usual_line_end-z.ensures))
