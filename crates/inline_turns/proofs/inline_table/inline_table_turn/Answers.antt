-- One answer an action: the rule at the token, what was emitted, and what is next.
use mathlib.Core.Path.{refl, ◌∙◌}
use mathlib.Core.Bool.{false}
use native.Mathlib.Omega.{arith}
use Prim.Native.Nat.{suc, ◌-◌}
use lib.ListN.{length}
use Rattle.token.specs.Records.{count}
use Rattle.token.specs.Tokens.{tokens_at}
use Rattle.rules.specs.declared.inline_table.State.{State}
use Rattle.rules.specs.Out.{span, done, ◌▸◌}
use Rattle.rules.specs.Messages as message
use Rattle.rules.specs.Expected as expected
use Rattle.rules.specs.Receiver as receiver
use Rattle.rules.specs.InlineTable.{progress, trailing, inline_table_turn}
use Rattle.output.specs.Pour.{bufs}
use Rattle.output.specs.WalkLaws.{told, told_done, at_end, first_item, first_items, then_goes}
use Rattle.array_parts.specs.Turning.{unclosed_items}
use Rattle.inline_steps.specs.Steps.{newline_items}
use Rattle.inline_turns.proofs.InlineTableLaws.{table_at, action_tells, opened_left, brace_left, closes, table_as}
use borrow.Enum.Refused.{opened as among_is}
use Rattle.inline_turns.proofs.inline_table.inline_table_turn.Goals as goal

pub next-requires : goal.next-requires
next-requires c = c.requires.0

pub unclosed-n-requires : goal.unclosed-n-requires
unclosed-n-requires c = record { good = c.requires.0; c_value = c.in_default.ensures }

pub returns-in_default : goal.returns-in_default
returns-in_default c =
    table_as c.over.ensures (record {
      is = λ base q nest loop. at_end _ _ _ _ (inline_table_turn (span c.args.head.start c.args.head.end) (count c.args.s.now - c.args.opened) nest loop c.args.p) (λ ts. unclosed_items message.unclosed_inline_table expected.close_curly (span c.args.head.start c.args.head.end) ▸ done ts) c.in_default.ensures refl ∙ first_items _ (unclosed_items message.unclosed_inline_table expected.close_curly (span c.args.head.start c.args.head.end)) _ (bufs c.args.events.now c.args.errors.now c.args.m) _ (c.unclosed-n.ensures base q);
      good = c.requires.0;
      on = omega arith;
      base = refl;
    })

pub action_at-action-requires : goal.action_at-action-requires
action_at-action-requires c = c.requires.1

pub comment-w-requires : goal.comment-w-requires
comment-w-requires c = c.in-Some.ensures.good

pub on_scalar-w-requires : goal.on_scalar-w-requires
on_scalar-w-requires c = record { good = c.in-Some.ensures.good; starts = (action_tells c.args.p.state c.in-Some.t.kind _ _ c.action_at-action.ensures c.in-Scalar.is) }

pub table_key-w-requires : goal.table_key-w-requires
table_key-w-requires c = c.in-Some.ensures.good

pub table_dot-w-requires : goal.table_dot-w-requires
table_dot-w-requires c = record { good = c.in-Some.ensures.good; read_dot = record { from = c.args.c; good = c.requires.0; took = c.in-Some.ensures; dot = (action_tells c.args.p.state c.in-Some.t.kind _ _ c.action_at-action.ensures c.in-DotKey.is) } }

pub irregular_turn-requires : goal.irregular_turn-requires
irregular_turn-requires c = (record { from = c.args.c; good = c.requires.0; took = c.in-Some.ensures }, c.action_at-action.ensures, (among_is c.in_default-action.in_default-action-own.keys12))

pub returns-in-Whitespace : goal.returns-in-Whitespace
returns-in-Whitespace c = table_as c.again.ensures (record { is = λ base q nest loop. (table_at _ _ _ _ c.in-Some.ensures _ _ c.args.p c.action_at-action.ensures c.in-Whitespace.is _ _ (span c.args.head.start c.args.head.end) (count c.args.s.now - c.args.opened) nest loop) ∙ ((first_item _ _ _ _ _ (c.emit-n.ensures _ _))); good = c.in-Some.ensures.good; on = omega (arith, c.in-Some.ensures.on); base = c.in-Some.ensures.base })

pub returns-in-Comment : goal.returns-in-Comment
returns-in-Comment c = table_as c.again_walk.ensures (record { is = λ base q nest loop. (table_at _ _ _ _ c.in-Some.ensures _ _ c.args.p c.action_at-action.ensures c.in-Comment.is _ _ (span c.args.head.start c.args.head.end) (count c.args.s.now - c.args.opened) nest loop) ∙ then_goes (loop (progress c.args.p.state c.args.p.empty)) c.comment-w.ensures base (c.in-Some.ensures.base ∙ q); good = c.comment-w.ensures.good; on = omega (arith, c.in-Some.ensures.on, c.comment-w.ensures.on); base = c.comment-w.ensures.base ∙ c.in-Some.ensures.base })

pub returns-in-Newline : goal.returns-in-Newline
returns-in-Newline c = table_as c.again-in-Newline.ensures (record { is = λ base q nest loop. (table_at _ _ _ _ c.in-Some.ensures _ _ c.args.p c.action_at-action.ensures c.in-Newline.is _ _ (span c.args.head.start c.args.head.end) (count c.args.s.now - c.args.opened) nest loop) ∙ first_items _ (newline_items (span c.args.head.start c.args.head.end) c.in-Some.t.start c.in-Some.t.end) _ (bufs c.args.events.now c.args.errors.now c.args.m) _ (c.newline-n.ensures _); good = c.in-Some.ensures.good; on = omega (arith, c.in-Some.ensures.on); base = c.in-Some.ensures.base })

pub returns-in-ValueSep : goal.returns-in-ValueSep
returns-in-ValueSep c = table_as c.again-in-ValueSep.ensures (record { is = λ base q nest loop. (table_at _ _ _ _ c.in-Some.ensures _ _ c.args.p c.action_at-action.ensures c.in-ValueSep.is _ _ (span c.args.head.start c.args.head.end) (count c.args.s.now - c.args.opened) nest loop) ∙ ((first_item _ _ _ _ _ (c.emit-n-in-ValueSep.ensures _ _))); good = c.in-Some.ensures.good; on = omega (arith, c.in-Some.ensures.on); base = c.in-Some.ensures.base })

pub returns-in-KeyValSep : goal.returns-in-KeyValSep
returns-in-KeyValSep c = table_as c.read.ensures (record { is = λ base q nest loop. (table_at _ _ _ _ c.in-Some.ensures _ _ c.args.p c.action_at-action.ensures c.in-KeyValSep.is _ _ (span c.args.head.start c.args.head.end) (count c.args.s.now - c.args.opened) nest loop) ∙ ((first_item _ _ _ _ _ (c.emit-n-in-KeyValSep.ensures _ _))); good = c.in-Some.ensures.good; on = omega (arith, c.in-Some.ensures.on); base = c.in-Some.ensures.base })

pub returns-in-Array : goal.returns-in-Array
returns-in-Array c = table_as c.opens.ensures (record { is = λ base q nest loop. (table_at _ _ _ _ c.in-Some.ensures _ _ c.args.p c.action_at-action.ensures c.in-Array.is _ _ (span c.args.head.start c.args.head.end) (count c.args.s.now - c.args.opened) nest loop) ∙ (refl); good = c.in-Some.ensures.good; on = omega (arith, c.in-Some.ensures.on); base = c.in-Some.ensures.base })

pub returns-in-Table : goal.returns-in-Table
returns-in-Table c = table_as c.opens-in-Table.ensures (record { is = λ base q nest loop. (table_at _ _ _ _ c.in-Some.ensures _ _ c.args.p c.action_at-action.ensures c.in-Table.is _ _ (span c.args.head.start c.args.head.end) (count c.args.s.now - c.args.opened) nest loop) ∙ (refl); good = c.in-Some.ensures.good; on = omega (arith, c.in-Some.ensures.on); base = c.in-Some.ensures.base })

pub returns-in-Scalar : goal.returns-in-Scalar
returns-in-Scalar c = table_as c.read_walk.ensures (record { is = λ base q nest loop. (table_at _ _ _ _ c.in-Some.ensures _ _ c.args.p c.action_at-action.ensures c.in-Scalar.is _ _ (span c.args.head.start c.args.head.end) (count c.args.s.now - c.args.opened) nest loop) ∙ then_goes (loop (progress State.NeedsComma false)) c.on_scalar-w.ensures base (c.in-Some.ensures.base ∙ q); good = c.on_scalar-w.ensures.good; on = omega (arith, c.in-Some.ensures.on, c.on_scalar-w.ensures.on); base = c.on_scalar-w.ensures.base ∙ c.in-Some.ensures.base })

pub returns-in-Close : goal.returns-in-Close
returns-in-Close c =
    table_as c.over-in-Close.ensures (record {
      is = λ base q nest loop. (table_at _ _ _ _ c.in-Some.ensures _ _ c.args.p c.action_at-action.ensures c.in-Close.is _ _ (span c.args.head.start c.args.head.end) (count c.args.s.now - c.args.opened) nest loop) ∙ closes _ (trailing c.args.p.empty c.args.p.state (span c.args.head.start c.args.head.end) (count c.args.s.now - c.args.opened) c.in-Some.t.start (suc (length (tokens_at c.args.s.now c.in-Some.past)))) (receiver.inline_table_close c.in-Some.t.start c.in-Some.t.end) _ (bufs c.args.events.now c.args.errors.now c.args.m) _ (c.close-n.ensures _ _ _ (opened_left _ base _ c.requires.2) (brace_left base c.in-Some.ensures));
      good = c.in-Some.ensures.good;
      on = omega (arith, c.in-Some.ensures.on);
      base = c.in-Some.ensures.base;
    })

pub returns-in-Key : goal.returns-in-Key
returns-in-Key c = table_as c.read_walk-in-Key.ensures (record { is = λ base q nest loop. (table_at _ _ _ _ c.in-Some.ensures _ _ c.args.p c.action_at-action.ensures c.in-Key.is _ _ (span c.args.head.start c.args.head.end) (count c.args.s.now - c.args.opened) nest loop) ∙ then_goes (loop (progress State.NeedsEquals false)) c.table_key-w.ensures base (c.in-Some.ensures.base ∙ q); good = c.table_key-w.ensures.good; on = omega (arith, c.in-Some.ensures.on, c.table_key-w.ensures.on); base = c.table_key-w.ensures.base ∙ c.in-Some.ensures.base })

pub returns-in-DotKey : goal.returns-in-DotKey
returns-in-DotKey c = table_as c.read_walk-in-DotKey.ensures (record { is = λ base q nest loop. (table_at _ _ _ _ c.in-Some.ensures _ _ c.args.p c.action_at-action.ensures c.in-DotKey.is _ _ (span c.args.head.start c.args.head.end) (count c.args.s.now - c.args.opened) nest loop) ∙ then_goes (loop (progress State.NeedsEquals false)) c.table_dot-w.ensures base (c.in-Some.ensures.base ∙ q); good = c.table_dot-w.ensures.good; on = omega (arith, c.in-Some.ensures.on, c.table_dot-w.ensures.on); base = c.table_dot-w.ensures.base ∙ c.in-Some.ensures.base })

pub returns-in_default-action : goal.returns-in_default-action
returns-in_default-action c = c.irregular_turn.ensures c.args.c (count c.args.s.now - c.args.opened) c.in-Some.ensures
