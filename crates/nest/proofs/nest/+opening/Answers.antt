-- The two loops that open one another, by the levels still allowed.
use mathlib.Core.Path.{refl, ap, ◌∙◌}
use native.Mathlib.Omega.{arith}
use Prim.Native.Nat.{◌-◌}
use lib.ListN.{length-set}
use Rattle.token.specs.Records.{count}
use Rattle.rules.specs.declared.skipping.Bracket.{Bracket}
use Rattle.rules.specs.Out.{span}
use Rattle.rules.specs.InlineTable.{inline_table_turn}
use Rattle.rules.specs.Nest.{on_open}
use Rattle.output.specs.TurnLaws.{turns_begun}
use Rattle.array_runs.specs.TurnedLaws.{turn_moved, turn_next}
use Rattle.nest.specs.NestedLaws.{nested_item, nested_as, nested_ok, nested_err}
use Rattle.nest.specs.Nested.{is_stopped}
use Rattle.nest.proofs.StackLaws.{stack_begun, stack_moved, stack_over_moved, stack_array_moved, stack_table_moved, stack_next, stack_over, stack_pop, stack_push, stack_none, stack_array_again, stack_array_stop, stack_table_again, stack_table_stop}
use Rattle.nest.proofs.NestLaws.{turn_over, array_moved, table_moved, array_again, array_stop, table_again, table_stop, open_array_lem, open_table_lem, no_level}
use Rattle.nest.proofs.nest.+opening.Goals as goal

pub on_array_open-returns-then-settings-eq0 : goal.on_array_open-returns-then-settings-eq0
on_array_open-returns-then-settings-eq0 t c = no_level c.args.settings.levels Bracket.Square _ _ _ _ _ _ c.if-settings-eq0.true c.requires

pub on_array_open-overflow_sub-left : goal.on_array_open-overflow_sub-left
on_array_open-overflow_sub-left t c = omega (arith, c.if-settings-eq0.false)

pub on_array_open-loop-depth-init : goal.on_array_open-loop-depth-init
on_array_open-loop-depth-init t c = (stack_begun _ _ _ _ _ _ _ _ _ c.requires, refl, refl, refl, refl, omega arith)

pub on_array_open-array_turns-a-requires : goal.on_array_open-array_turns-a-requires
on_array_open-array_turns-a-requires t c = c.loop-depth.invariant.0.good

pub on_array_open-loop-depth-smaller-in-Again : goal.on_array_open-loop-depth-smaller-in-Again
on_array_open-loop-depth-smaller-in-Again t c = omega (arith, stack_moved c.loop-depth.invariant.0 _ c.array_turns-a.ensures c.in-Again.is, c.array_turns-a.ensures.good.low)

pub on_array_open-loop-depth-preserved-in-Again : goal.on_array_open-loop-depth-preserved-in-Again
on_array_open-loop-depth-preserved-in-Again t c = (stack_next c.loop-depth.invariant.0 _ c.array_turns-a.ensures c.in-Again.is, c.loop-depth.invariant.1, c.loop-depth.invariant.2, (c.array_turns-a.auto.events) ∙ c.loop-depth.invariant.3, (c.array_turns-a.auto.errors) ∙ c.loop-depth.invariant.4, omega (arith, c.loop-depth.invariant.5))

pub on_array_open-returns-then-depth-eq0 : goal.on_array_open-returns-then-depth-eq0
on_array_open-returns-then-depth-eq0 t c = nested_as (open_array_lem c.args.settings.levels _ _ _ c.if-settings-eq0.false) (nested_item _ _ (λ all. c.array_open-n.ensures all _) (stack_over c.loop-depth.invariant.0 _ c.array_turns-a.ensures c.in-Over.is c.if-depth-eq0.true))

pub on_array_open-overflow_sub-depth : goal.on_array_open-overflow_sub-depth
on_array_open-overflow_sub-depth t c = omega (arith, c.if-depth-eq0.false)

pub on_array_open-overflow_add-left : goal.on_array_open-overflow_add-left
on_array_open-overflow_add-left t c = omega (arith, c.loop-depth.invariant.0.sum, c.if-depth-eq0.false, c.well_formed)

pub on_array_open-offset_bounds-starts-depth : goal.on_array_open-offset_bounds-starts-depth
on_array_open-offset_bounds-starts-depth t c = record { fits = omega (arith, c.loop-depth.invariant.5) }

pub on_array_open-bounds-starts-depth : goal.on_array_open-bounds-starts-depth
on_array_open-bounds-starts-depth t c = omega (arith, c.loop-depth.invariant.5, c.if-depth-eq0.false)

pub on_array_open-offset_bounds-ends-depth : goal.on_array_open-offset_bounds-ends-depth
on_array_open-offset_bounds-ends-depth t c = record { fits = omega (arith, c.loop-depth.invariant.5) }

pub on_array_open-bounds-ends-depth : goal.on_array_open-bounds-ends-depth
on_array_open-bounds-ends-depth t c = omega (arith, c.loop-depth.invariant.5, c.if-depth-eq0.false)

pub on_array_open-loop-depth-smaller-in-Over : goal.on_array_open-loop-depth-smaller-in-Over
on_array_open-loop-depth-smaller-in-Over t c = omega (arith, stack_over_moved c.loop-depth.invariant.0 _ c.array_turns-a.ensures c.in-Over.is, c.array_turns-a.ensures.good.low, c.if-depth-eq0.false)

pub on_array_open-loop-depth-preserved-in-Over : goal.on_array_open-loop-depth-preserved-in-Over
on_array_open-loop-depth-preserved-in-Over t c = (stack_pop c.loop-depth.invariant.0 _ c.array_turns-a.ensures c.in-Over.is c.if-depth-eq0.false, c.loop-depth.invariant.1, c.loop-depth.invariant.2, (c.array_turns-a.auto.events) ∙ c.loop-depth.invariant.3, (c.array_turns-a.auto.errors) ∙ c.loop-depth.invariant.4, omega (arith, c.loop-depth.invariant.5))

pub on_array_open-returns-then-left-eq0 : goal.on_array_open-returns-then-left-eq0
on_array_open-returns-then-left-eq0 t c = nested_as (open_array_lem c.args.settings.levels _ _ _ c.if-settings-eq0.false) (nested_item _ _ (λ all. c.array_open-n.ensures all _) (stack_none c.loop-depth.invariant.0 _ c.array_turns-a.ensures _ c.in-OpenArray.is c.if-left-eq0.true))

pub on_array_open-overflow_sub-left-then-depth-lt-HELD : goal.on_array_open-overflow_sub-left-then-depth-lt-HELD
on_array_open-overflow_sub-left-then-depth-lt-HELD t c = omega (arith, c.if-left-eq0.false)

pub on_array_open-loop-depth-smaller-then-depth-lt-HELD : goal.on_array_open-loop-depth-smaller-then-depth-lt-HELD
on_array_open-loop-depth-smaller-then-depth-lt-HELD t c = omega (arith, stack_array_moved c.loop-depth.invariant.0 _ c.array_turns-a.ensures _ c.in-OpenArray.is, c.array_turns-a.ensures.good.low)

pub on_array_open-loop-depth-preserved-then-depth-lt-HELD : goal.on_array_open-loop-depth-preserved-then-depth-lt-HELD
on_array_open-loop-depth-preserved-then-depth-lt-HELD t c = (stack_push c.loop-depth.invariant.0 _ c.array_turns-a.ensures _ c.in-OpenArray.is c.if-left-eq0.false (omega (arith, c.if-depth-lt-HELD.true, c.loop-depth.invariant.1)) (omega (arith, c.if-depth-lt-HELD.true, c.loop-depth.invariant.2)) _ (λ all. c.array_open-n-then-depth-lt-HELD.ensures all _), length-set c.loop-depth.starts c.loop-depth.depth c.loop-depth.inner.start ∙ c.loop-depth.invariant.1, length-set c.loop-depth.ends c.loop-depth.depth c.loop-depth.inner.end ∙ c.loop-depth.invariant.2, (c.array_open-n-then-depth-lt-HELD.auto.events ∙ c.array_turns-a.auto.events) ∙ c.loop-depth.invariant.3, (c.array_turns-a.auto.errors) ∙ c.loop-depth.invariant.4, omega (arith, c.if-depth-lt-HELD.true))

pub on_array_open-on_array_open-requires : goal.on_array_open-on_array_open-requires
on_array_open-on_array_open-requires t c = (omega (arith, c.loop-depth.invariant.0.sum, c.if-settings-eq0.false, c.decreases), c.array_turns-a.ensures.good)

pub on_array_open-returns-in_err-v-in-OpenArray : goal.on_array_open-returns-in_err-v-in-OpenArray
on_array_open-returns-in_err-v-in-OpenArray t c = nested_as (open_array_lem c.args.settings.levels _ _ _ c.if-settings-eq0.false) (nested_item _ _ (λ all. c.array_open-n.ensures all _) (nested_err (stack_array_stop c.loop-depth.invariant.0 _ c.array_turns-a.ensures _ c.in-OpenArray.is c.on_array_open.ensures (ap is_stopped c.in_err-v-in-OpenArray.was)) c.in_err-v-in-OpenArray.was c.from_residual.ensures.1))

pub on_array_open-loop-depth-smaller-else-depth-lt-HELD : goal.on_array_open-loop-depth-smaller-else-depth-lt-HELD
on_array_open-loop-depth-smaller-else-depth-lt-HELD t c = omega (arith, stack_array_moved c.loop-depth.invariant.0 _ c.array_turns-a.ensures _ c.in-OpenArray.is, (nested_ok c.on_array_open.ensures c.in_ok-v-in-OpenArray.was).on, (nested_ok c.on_array_open.ensures c.in_ok-v-in-OpenArray.was).good.low)

pub on_array_open-loop-depth-preserved-else-depth-lt-HELD : goal.on_array_open-loop-depth-preserved-else-depth-lt-HELD
on_array_open-loop-depth-preserved-else-depth-lt-HELD t c = (stack_array_again c.loop-depth.invariant.0 _ c.array_turns-a.ensures _ c.in-OpenArray.is (nested_ok c.on_array_open.ensures c.in_ok-v-in-OpenArray.was) refl, c.loop-depth.invariant.1, c.loop-depth.invariant.2, (c.on_array_open.auto.events ∙ c.array_turns-a.auto.events) ∙ c.loop-depth.invariant.3, (c.on_array_open.auto.errors ∙ c.array_turns-a.auto.errors) ∙ c.loop-depth.invariant.4, omega (arith, c.loop-depth.invariant.5))

pub on_array_open-on_inline_table_open-requires : goal.on_array_open-on_inline_table_open-requires
on_array_open-on_inline_table_open-requires t c = (omega (arith, c.loop-depth.invariant.0.sum, c.if-settings-eq0.false, c.decreases), c.array_turns-a.ensures.good)

pub on_array_open-returns-in_err-v-in-OpenTable : goal.on_array_open-returns-in_err-v-in-OpenTable
on_array_open-returns-in_err-v-in-OpenTable t c = nested_as (open_array_lem c.args.settings.levels _ _ _ c.if-settings-eq0.false) (nested_item _ _ (λ all. c.array_open-n.ensures all _) (nested_err (stack_table_stop c.loop-depth.invariant.0 _ c.array_turns-a.ensures _ c.in-OpenTable.is c.on_inline_table_open.ensures (ap is_stopped c.in_err-v-in-OpenTable.was)) c.in_err-v-in-OpenTable.was c.from_residual-in_err-v-in-OpenTable.ensures.1))

pub on_array_open-loop-depth-smaller : goal.on_array_open-loop-depth-smaller
on_array_open-loop-depth-smaller t c = omega (arith, stack_table_moved c.loop-depth.invariant.0 _ c.array_turns-a.ensures _ c.in-OpenTable.is, (nested_ok c.on_inline_table_open.ensures c.in_ok-v-in-OpenTable.was).on, (nested_ok c.on_inline_table_open.ensures c.in_ok-v-in-OpenTable.was).good.low)

pub on_array_open-loop-depth-preserved : goal.on_array_open-loop-depth-preserved
on_array_open-loop-depth-preserved t c = (stack_table_again c.loop-depth.invariant.0 _ c.array_turns-a.ensures _ c.in-OpenTable.is (nested_ok c.on_inline_table_open.ensures c.in_ok-v-in-OpenTable.was) refl, c.loop-depth.invariant.1, c.loop-depth.invariant.2, (c.on_inline_table_open.auto.events ∙ c.array_turns-a.auto.events) ∙ c.loop-depth.invariant.3, (c.on_inline_table_open.auto.errors ∙ c.array_turns-a.auto.errors) ∙ c.loop-depth.invariant.4, omega (arith, c.loop-depth.invariant.5))

pub on_inline_table_open-returns-then-levels-eq0 : goal.on_inline_table_open-returns-then-levels-eq0
on_inline_table_open-returns-then-levels-eq0 t c = no_level c.args.settings.levels Bracket.Curly _ _ _ _ _ _ c.if-levels-eq0.true c.requires

pub on_inline_table_open-overflow_sub-inside : goal.on_inline_table_open-overflow_sub-inside
on_inline_table_open-overflow_sub-inside t c = omega (arith, c.if-levels-eq0.false)

pub on_inline_table_open-loop-t-init : goal.on_inline_table_open-loop-t-init
on_inline_table_open-loop-t-init t c = (turns_begun _ _ _ _ c.requires, refl, refl, c.action_table-actions.ensures)

pub on_inline_table_open-inline_table_turn-a-requires : goal.on_inline_table_open-inline_table_turn-a-requires
on_inline_table_open-inline_table_turn-a-requires t c = (c.loop-t.invariant.0.good, c.loop-t.invariant.3, c.requires.low)

pub on_inline_table_open-loop-t-smaller-in-Again : goal.on_inline_table_open-loop-t-smaller-in-Again
on_inline_table_open-loop-t-smaller-in-Again t c = omega (arith, turn_moved (on_open (c.args.settings.levels - 1)) (λ nest. inline_table_turn (span c.args.head.start c.args.head.end) (count c.args.s.now - c.args.c.at) nest) (λ f g w. refl) c.loop-t.p c.loop-t.invariant.0 c.inline_table_turn-a.result.state c.inline_table_turn-a.ensures c.in-Again.is, c.inline_table_turn-a.ensures.good.low)

pub on_inline_table_open-loop-t-preserved-in-Again : goal.on_inline_table_open-loop-t-preserved-in-Again
on_inline_table_open-loop-t-preserved-in-Again t c = (turn_next (on_open (c.args.settings.levels - 1)) (λ nest. inline_table_turn (span c.args.head.start c.args.head.end) (count c.args.s.now - c.args.c.at) nest) (λ f g w. refl) c.loop-t.p c.loop-t.invariant.0 c.inline_table_turn-a.result.state c.inline_table_turn-a.ensures c.in-Again.is, (c.inline_table_turn-a.auto.events) ∙ c.loop-t.invariant.1, (c.inline_table_turn-a.auto.errors) ∙ c.loop-t.invariant.2, c.loop-t.invariant.3)

pub on_inline_table_open-returns-in-Over : goal.on_inline_table_open-returns-in-Over
on_inline_table_open-returns-in-Over t c = nested_as (open_table_lem _ _ c.args.settings.levels _ _ c.if-levels-eq0.false) (nested_item _ _ (λ all. c.table_open-n.ensures all _) (turn_over (on_open (c.args.settings.levels - 1)) (λ nest. inline_table_turn (span c.args.head.start c.args.head.end) (count c.args.s.now - c.args.c.at) nest) (λ f g w. refl) c.loop-t.p c.loop-t.invariant.0 c.inline_table_turn-a.result.state c.inline_table_turn-a.ensures c.in-Over.is))

pub on_inline_table_open-on_array_open-requires : goal.on_inline_table_open-on_array_open-requires
on_inline_table_open-on_array_open-requires t c = (omega (arith, c.if-levels-eq0.false, c.decreases), c.inline_table_turn-a.ensures.good)

pub on_inline_table_open-returns-in_err-v-in-OpenArray : goal.on_inline_table_open-returns-in_err-v-in-OpenArray
on_inline_table_open-returns-in_err-v-in-OpenArray t c = nested_as (open_table_lem _ _ c.args.settings.levels _ _ c.if-levels-eq0.false) (nested_item _ _ (λ all. c.table_open-n.ensures all _) (nested_err (array_stop (on_open (c.args.settings.levels - 1)) (λ nest. inline_table_turn (span c.args.head.start c.args.head.end) (count c.args.s.now - c.args.c.at) nest) (λ f g w. refl) c.loop-t.p c.loop-t.invariant.0 c.inline_table_turn-a.result.state c.inline_table_turn-a.ensures _ c.in-OpenArray.is c.on_array_open.ensures (ap is_stopped c.in_err-v-in-OpenArray.was)) c.in_err-v-in-OpenArray.was c.from_residual.ensures.1))

pub on_inline_table_open-loop-t-smaller-in-OpenArray : goal.on_inline_table_open-loop-t-smaller-in-OpenArray
on_inline_table_open-loop-t-smaller-in-OpenArray t c = omega (arith, array_moved (on_open (c.args.settings.levels - 1)) (λ nest. inline_table_turn (span c.args.head.start c.args.head.end) (count c.args.s.now - c.args.c.at) nest) (λ f g w. refl) c.loop-t.p c.loop-t.invariant.0 c.inline_table_turn-a.result.state c.inline_table_turn-a.ensures _ c.in-OpenArray.is, (nested_ok c.on_array_open.ensures c.in_ok-v-in-OpenArray.was).on, (nested_ok c.on_array_open.ensures c.in_ok-v-in-OpenArray.was).good.low)

pub on_inline_table_open-loop-t-preserved-in-OpenArray : goal.on_inline_table_open-loop-t-preserved-in-OpenArray
on_inline_table_open-loop-t-preserved-in-OpenArray t c = (array_again (on_open (c.args.settings.levels - 1)) (λ nest. inline_table_turn (span c.args.head.start c.args.head.end) (count c.args.s.now - c.args.c.at) nest) (λ f g w. refl) c.loop-t.p c.loop-t.invariant.0 c.inline_table_turn-a.result.state c.inline_table_turn-a.ensures _ c.in-OpenArray.is (nested_ok c.on_array_open.ensures c.in_ok-v-in-OpenArray.was) refl, (c.on_array_open.auto.events ∙ c.inline_table_turn-a.auto.events) ∙ c.loop-t.invariant.1, (c.on_array_open.auto.errors ∙ c.inline_table_turn-a.auto.errors) ∙ c.loop-t.invariant.2, c.loop-t.invariant.3)

pub on_inline_table_open-on_inline_table_open-requires : goal.on_inline_table_open-on_inline_table_open-requires
on_inline_table_open-on_inline_table_open-requires t c = (omega (arith, c.if-levels-eq0.false, c.decreases), c.inline_table_turn-a.ensures.good)

pub on_inline_table_open-returns-in_err-v-in-OpenTable : goal.on_inline_table_open-returns-in_err-v-in-OpenTable
on_inline_table_open-returns-in_err-v-in-OpenTable t c = nested_as (open_table_lem _ _ c.args.settings.levels _ _ c.if-levels-eq0.false) (nested_item _ _ (λ all. c.table_open-n.ensures all _) (nested_err (table_stop (on_open (c.args.settings.levels - 1)) (λ nest. inline_table_turn (span c.args.head.start c.args.head.end) (count c.args.s.now - c.args.c.at) nest) (λ f g w. refl) c.loop-t.p c.loop-t.invariant.0 c.inline_table_turn-a.result.state c.inline_table_turn-a.ensures _ c.in-OpenTable.is c.on_inline_table_open.ensures (ap is_stopped c.in_err-v-in-OpenTable.was)) c.in_err-v-in-OpenTable.was c.from_residual-in_err-v-in-OpenTable.ensures.1))

pub on_inline_table_open-loop-t-smaller : goal.on_inline_table_open-loop-t-smaller
on_inline_table_open-loop-t-smaller t c = omega (arith, table_moved (on_open (c.args.settings.levels - 1)) (λ nest. inline_table_turn (span c.args.head.start c.args.head.end) (count c.args.s.now - c.args.c.at) nest) (λ f g w. refl) c.loop-t.p c.loop-t.invariant.0 c.inline_table_turn-a.result.state c.inline_table_turn-a.ensures _ c.in-OpenTable.is, (nested_ok c.on_inline_table_open.ensures c.in_ok-v-in-OpenTable.was).on, (nested_ok c.on_inline_table_open.ensures c.in_ok-v-in-OpenTable.was).good.low)

pub on_inline_table_open-loop-t-preserved : goal.on_inline_table_open-loop-t-preserved
on_inline_table_open-loop-t-preserved t c = (table_again (on_open (c.args.settings.levels - 1)) (λ nest. inline_table_turn (span c.args.head.start c.args.head.end) (count c.args.s.now - c.args.c.at) nest) (λ f g w. refl) c.loop-t.p c.loop-t.invariant.0 c.inline_table_turn-a.result.state c.inline_table_turn-a.ensures _ c.in-OpenTable.is (nested_ok c.on_inline_table_open.ensures c.in_ok-v-in-OpenTable.was) refl, (c.on_inline_table_open.auto.events ∙ c.inline_table_turn-a.auto.events) ∙ c.loop-t.invariant.1, (c.on_inline_table_open.auto.errors ∙ c.inline_table_turn-a.auto.errors) ∙ c.loop-t.invariant.2, c.loop-t.invariant.3)
