-- One answer an action: the rule at the token, wherever it was read, what was emitted, and what is next.
use mathlib.Core.Path.{◌∙◌}
use mathlib.Core.Bool.{false}
use native.Mathlib.Omega.{arith}
use Rattle.rules.specs.declared.inline_table.State.{State}
use Rattle.rules.specs.declared.skipping.Bracket.{Bracket}
use Rattle.rules.specs.Out.{span}
use Rattle.rules.specs.Messages as message
use Rattle.rules.specs.WithoutOpen.{without_open}
use Rattle.rules.specs.InlineTable.{progress, refused}
use Rattle.output.specs.Pour.{bufs}
use Rattle.output.specs.WalkLaws.{first_item, first_items, then_goes}
use Rattle.inline_steps.specs.Steps.{eof_items, empty_key_items}
use Rattle.inline_turns.proofs.InlineTableLaws.{table_at, action_tells, last_irregular, table_as}
use Rattle.inline_turns.proofs.irregular.irregular_turn.Goals as goal

pub keyless_array-w-requires : goal.keyless_array-w-requires
keyless_array-w-requires c = c.requires.0.took.good

pub keyless_table-w-requires : goal.keyless_table-w-requires
keyless_table-w-requires c = c.requires.0.took.good

pub unassigned_scalar-w-requires : goal.unassigned_scalar-w-requires
unassigned_scalar-w-requires c = record { good = c.requires.0.took.good; starts = action_tells c.args.p.state c.args.t.kind _ _ c.requires.1 c.in-UnassignedScalar.is }

pub key_without_comma-w-requires : goal.key_without_comma-w-requires
key_without_comma-w-requires c = c.requires.0.took.good

pub dot_without_comma-w-requires : goal.dot_without_comma-w-requires
dot_without_comma-w-requires c = record { good = c.requires.0.took.good; read_dot = record { from = c.requires.0.from; good = c.requires.0.good; took = c.requires.0.took; dot = action_tells c.args.p.state c.args.t.kind _ _ c.requires.1 (last_irregular c.args.action c.requires.2 c.in_default.in_default-own.keys13) } }

pub returns-in-Eof : goal.returns-in-Eof
returns-in-Eof c = λ from opened k. table_as c.over.ensures (record { is = λ base q nest loop. (table_at _ _ _ _ k _ _ c.args.p c.requires.1 c.in-Eof.is _ _ (span c.args.head.start c.args.head.end) opened nest loop) ∙ first_items _ (eof_items (span c.args.head.start c.args.head.end) c.args.t.start c.args.t.end) _ (bufs c.args.events.now c.args.errors.now c.args.m) _ (c.eof-n.ensures _); good = k.good; on = omega (arith, k.on); base = k.base })

pub returns-in-ExtraComma : goal.returns-in-ExtraComma
returns-in-ExtraComma c = λ from opened k. table_as c.again.ensures (record { is = λ base q nest loop. (table_at _ _ _ _ k _ _ c.args.p c.requires.1 c.in-ExtraComma.is _ _ (span c.args.head.start c.args.head.end) opened nest loop) ∙ first_items _ (refused message.extra_comma_in_inline_table c.args.p.state (span c.args.head.start c.args.head.end) c.args.t.start c.args.t.end) _ (bufs c.args.events.now c.args.errors.now c.args.m) _ (c.refuse-n.ensures _); good = k.good; on = omega (arith, k.on); base = k.base })

pub returns-in-EmptyKey : goal.returns-in-EmptyKey
returns-in-EmptyKey c = λ from opened k. table_as c.read.ensures (record { is = λ base q nest loop. (table_at _ _ _ _ k _ _ c.args.p c.requires.1 c.in-EmptyKey.is _ _ (span c.args.head.start c.args.head.end) opened nest loop) ∙ first_items _ (empty_key_items c.args.t.start c.args.t.end) _ (bufs c.args.events.now c.args.errors.now c.args.m) _ (c.equals_without_key-n.ensures _ _); good = k.good; on = omega (arith, k.on); base = k.base })

pub returns-in-ExtraAssignment : goal.returns-in-ExtraAssignment
returns-in-ExtraAssignment c = λ from opened k. table_as c.again-in-ExtraAssignment.ensures (record { is = λ base q nest loop. (table_at _ _ _ _ k _ _ c.args.p c.requires.1 c.in-ExtraAssignment.is _ _ (span c.args.head.start c.args.head.end) opened nest loop) ∙ first_items _ (refused message.extra_assignment c.args.p.state (span c.args.head.start c.args.head.end) c.args.t.start c.args.t.end) _ (bufs c.args.events.now c.args.errors.now c.args.m) _ (c.refuse-n-in-ExtraAssignment.ensures _); good = k.good; on = omega (arith, k.on); base = k.base })

pub returns-in-KeylessArray : goal.returns-in-KeylessArray
returns-in-KeylessArray c = λ from opened k. table_as c.again_walk.ensures (record { is = λ base q nest loop. (table_at _ _ _ _ k _ _ c.args.p c.requires.1 c.in-KeylessArray.is _ _ (span c.args.head.start c.args.head.end) opened nest loop) ∙ then_goes (loop (progress c.args.p.state c.args.p.empty)) c.keyless_array-w.ensures base (k.base ∙ q); good = c.keyless_array-w.ensures.good; on = omega (arith, k.on, c.keyless_array-w.ensures.on); base = c.keyless_array-w.ensures.base ∙ k.base })

pub returns-in-KeylessTable : goal.returns-in-KeylessTable
returns-in-KeylessTable c = λ from opened k. table_as c.again_walk-in-KeylessTable.ensures (record { is = λ base q nest loop. (table_at _ _ _ _ k _ _ c.args.p c.requires.1 c.in-KeylessTable.is _ _ (span c.args.head.start c.args.head.end) opened nest loop) ∙ then_goes (loop (progress c.args.p.state c.args.p.empty)) c.keyless_table-w.ensures base (k.base ∙ q); good = c.keyless_table-w.ensures.good; on = omega (arith, k.on, c.keyless_table-w.ensures.on); base = c.keyless_table-w.ensures.base ∙ k.base })

pub returns-in-UnassignedArray : goal.returns-in-UnassignedArray
returns-in-UnassignedArray c = λ from opened k. table_as c.opens.ensures (record { is = λ base q nest loop. (table_at _ _ _ _ k _ _ c.args.p c.requires.1 c.in-UnassignedArray.is _ _ (span c.args.head.start c.args.head.end) opened nest loop) ∙ ((first_item _ _ _ _ _ (c.missing-n.ensures _ _))); good = k.good; on = omega (arith, k.on); base = k.base })

pub returns-in-UnassignedTable : goal.returns-in-UnassignedTable
returns-in-UnassignedTable c = λ from opened k. table_as c.opens-in-UnassignedTable.ensures (record { is = λ base q nest loop. (table_at _ _ _ _ k _ _ c.args.p c.requires.1 c.in-UnassignedTable.is _ _ (span c.args.head.start c.args.head.end) opened nest loop) ∙ ((first_item _ _ _ _ _ (c.missing-n-in-UnassignedTable.ensures _ _))); good = k.good; on = omega (arith, k.on); base = k.base })

pub returns-in-UnassignedScalar : goal.returns-in-UnassignedScalar
returns-in-UnassignedScalar c = λ from opened k. table_as c.read_walk.ensures (record { is = λ base q nest loop. (table_at _ _ _ _ k _ _ c.args.p c.requires.1 c.in-UnassignedScalar.is _ _ (span c.args.head.start c.args.head.end) opened nest loop) ∙ then_goes (loop (progress State.NeedsComma false)) c.unassigned_scalar-w.ensures base (k.base ∙ q); good = c.unassigned_scalar-w.ensures.good; on = omega (arith, k.on, c.unassigned_scalar-w.ensures.on); base = c.unassigned_scalar-w.ensures.base ∙ k.base })

pub returns-in-InvalidElement : goal.returns-in-InvalidElement
returns-in-InvalidElement c = λ from opened k. table_as c.again-in-InvalidElement.ensures (record { is = λ base q nest loop. (table_at _ _ _ _ k _ _ c.args.p c.requires.1 c.in-InvalidElement.is _ _ (span c.args.head.start c.args.head.end) opened nest loop) ∙ first_items _ (refused message.invalid_inline_table_element c.args.p.state (span c.args.head.start c.args.head.end) c.args.t.start c.args.t.end) _ (bufs c.args.events.now c.args.errors.now c.args.m) _ (c.refuse-n-in-InvalidElement.ensures _); good = k.good; on = omega (arith, k.on); base = k.base })

pub returns-in-ArrayWithoutOpen : goal.returns-in-ArrayWithoutOpen
returns-in-ArrayWithoutOpen c = λ from opened k. table_as c.read-in-ArrayWithoutOpen.ensures (record { is = λ base q nest loop. (table_at _ _ _ _ k _ _ c.args.p c.requires.1 c.in-ArrayWithoutOpen.is _ _ (span c.args.head.start c.args.head.end) opened nest loop) ∙ first_items _ (without_open Bracket.Square c.args.t.start c.args.t.end) _ (bufs c.args.events.now c.args.errors.now c.args.m) _ (c.without_open-n.ensures _); good = k.good; on = omega (arith, k.on); base = k.base })

pub returns-in-KeyWithoutComma : goal.returns-in-KeyWithoutComma
returns-in-KeyWithoutComma c = λ from opened k. table_as c.read_walk-in-KeyWithoutComma.ensures (record { is = λ base q nest loop. (table_at _ _ _ _ k _ _ c.args.p c.requires.1 c.in-KeyWithoutComma.is _ _ (span c.args.head.start c.args.head.end) opened nest loop) ∙ then_goes (loop (progress State.NeedsEquals false)) c.key_without_comma-w.ensures base (k.base ∙ q); good = c.key_without_comma-w.ensures.good; on = omega (arith, k.on, c.key_without_comma-w.ensures.on); base = c.key_without_comma-w.ensures.base ∙ k.base })

pub returns-in_default : goal.returns-in_default
returns-in_default c = λ from opened k. table_as c.read_walk-in_default.ensures (record { is = λ base q nest loop. (table_at _ _ _ _ k _ _ c.args.p c.requires.1 (last_irregular c.args.action c.requires.2 c.in_default.in_default-own.keys13) _ _ (span c.args.head.start c.args.head.end) opened nest loop) ∙ then_goes (loop (progress State.NeedsEquals false)) c.dot_without_comma-w.ensures base (k.base ∙ q); good = c.dot_without_comma-w.ensures.good; on = omega (arith, k.on, c.dot_without_comma-w.ensures.on); base = c.dot_without_comma-w.ensures.base ∙ k.base })
