-- Whitespace, the rest of the key unless `=` comes at once, and then `=` or none.
use mathlib.Core.Path.{ap, sym, ◌∙◌}
use native.Mathlib.Omega.{arith}
use lib.ListN.{length}
use Rattle.token.specs.declared.kind.Kind.{Kind}
use Rattle.rules.specs.Table.{next_token_if}
use Rattle.rules.specs.Document.{on_expression_key_val_sep, no_equals}
use Rattle.output.specs.Pour.{bufs}
use Rattle.output.specs.WalkLaws.{told_if, told_none}
use Rattle.nest.specs.NestedLaws.{nested_goes, nested_same, nested_as, nested_past, nested_after}
use Rattle.output.specs.NextLaws.{next_got, next_none}
use Rattle.expressions.proofs.ExpressionLaws.{Met, meet, before_dots, before_equals, equals_first}
use Rattle.expressions.proofs.expression.key_and_value.Goals as goal
use Rattle.expressions.proofs.expression.key_and_value.Goals.{in-Some, in-None}

pub returns-in_default : goal.returns-in_default
returns-in_default c =
    let j : Met c.args.s.now c.args.c (bufs c.args.events.now c.args.errors.now c.args.m) c.match-next_token_if.events c.match-next_token_if.errors (record { cur = c.match-next_token_if.cur; n = c.match-next_token_if.n }) (length c.args.events.now) (length c.args.errors.now) = elim c.match-next_token_if.branch [
      | in-Some w ↦ meet _ w.events-is w.errors-is w.cur-is w.n-is (before_equals c.requires c.opt_whitespace-w.ensures (told_if _ _ Kind.Equals _ _ _ c.next_token_if.ensures w.in-Some.is), c.opt_whitespace-w.auto.events, c.opt_whitespace-w.auto.errors)
      | in-None w ↦ meet _ w.events-is w.errors-is w.cur-is w.n-is (before_dots c.requires c.opt_whitespace-w.ensures w.dot_keys-k.ensures.goes w.opt_whitespace-v.ensures, w.opt_whitespace-v.auto.events ∙ w.dot_keys-k.auto.events ∙ c.opt_whitespace-w.auto.events, w.opt_whitespace-v.auto.errors ∙ w.dot_keys-k.auto.errors ∙ c.opt_whitespace-w.auto.errors)
    ] in
    record {
      nested = nested_after (next_token_if Kind.Equals (on_expression_key_val_sep c.args.settings.levels) (no_equals c.args.message)) j.0.goes (nested_as (sym (next_none _ _ Kind.Equals (on_expression_key_val_sep c.args.settings.levels) (no_equals c.args.message) c.in_default.ensures)) (nested_goes c.no_equals-z.ensures));
      dotted = λ e. omega (arith, j.0.dotted e, c.no_equals-z.ensures.on);
      equalled = λ e. absurd (equals_first j.0 c.in_default.ensures e);
    }

pub returns : goal.returns
returns c =
    let j : Met c.args.s.now c.args.c (bufs c.args.events.now c.args.errors.now c.args.m) c.match-next_token_if.events c.match-next_token_if.errors (record { cur = c.match-next_token_if.cur; n = c.match-next_token_if.n }) (length c.args.events.now) (length c.args.errors.now) = elim c.match-next_token_if.branch [
      | in-Some w ↦ meet _ w.events-is w.errors-is w.cur-is w.n-is (before_equals c.requires c.opt_whitespace-w.ensures (told_if _ _ Kind.Equals _ _ _ c.next_token_if.ensures w.in-Some.is), c.opt_whitespace-w.auto.events, c.opt_whitespace-w.auto.errors)
      | in-None w ↦ meet _ w.events-is w.errors-is w.cur-is w.n-is (before_dots c.requires c.opt_whitespace-w.ensures w.dot_keys-k.ensures.goes w.opt_whitespace-v.ensures, w.opt_whitespace-v.auto.events ∙ w.dot_keys-k.auto.events ∙ c.opt_whitespace-w.auto.events, w.opt_whitespace-v.auto.errors ∙ w.dot_keys-k.auto.errors ∙ c.opt_whitespace-w.auto.errors)
    ] in
    record {
      nested = nested_after (next_token_if Kind.Equals (on_expression_key_val_sep c.args.settings.levels) (no_equals c.args.message)) j.0.goes (nested_as (sym (next_got _ _ _ _ Kind.Equals (on_expression_key_val_sep c.args.settings.levels) (no_equals c.args.message) c.in-Some-next_token_if.ensures)) (nested_past c.in-Some-next_token_if.ensures.1 c.on_expression_key_val_sep.ensures));
      dotted = λ e. omega (arith, j.0.dotted e, c.in-Some-next_token_if.ensures.1.on, c.on_expression_key_val_sep.ensures.on);
      equalled = λ e. omega (arith, j.0.goes.on, c.in-Some-next_token_if.ensures.1.on, c.on_expression_key_val_sep.ensures.on);
    }
