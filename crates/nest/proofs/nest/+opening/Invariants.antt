-- The two loops that open one another, by the levels still allowed.
use mathlib.Core.Path.{◌≡◌}
use Prim.Native.Nat.{◌≤◌, ◌+◌, ◌-◌}
use lib.ListN.{length}
use Rattle.token.specs.Records.{count}
use Rattle.token.specs.Tokens.{tokens_at}
use Rattle.rules.specs.Out.{span}
use Rattle.rules.specs.Turns.{turns, looping}
use Rattle.rules.specs.Array.{array_turn}
use Rattle.rules.specs.InlineTable.{inline_table_turn}
use Rattle.rules.specs.Nest.{on_open}
use Rattle.output.specs.Pour.{bufs}
use Rattle.output.specs.TurnLaws.{Turns}
use Rattle.inline_actions.specs.Actions.{action_table}
use Rattle.nest.proofs.StackLaws.{Stacked}
use Rattle.nest.proofs.nest.+opening.Given as goal

abbrev pub decreases-on_array_open : goal.decreases-on_array_open
decreases-on_array_open l = l.settings.levels

abbrev pub decreases-on_inline_table_open : goal.decreases-on_inline_table_open
decreases-on_inline_table_open l = l.settings.levels

abbrev pub invariant-on_array_open-loop-depth : goal.invariant-on_array_open-loop-depth
invariant-on_array_open-loop-depth l =
    Stacked l.s l.initial.left (looping (array_turn (span l.initial.inner.start l.initial.inner.end) (on_open l.initial.left)) l.initial.state (tokens_at l.s l.initial.cur)) (bufs l.initial.events l.initial.errors l.initial.n) l.initial.cur l.starts l.ends l.depth l.left l.inner.start l.inner.end l.state (bufs l.events l.errors l.n) l.cur
    × (length l.starts ≡ 16) × (length l.ends ≡ 16) × (length l.events ≡ length l.initial.events) × (length l.errors ≡ length l.initial.errors) × (l.depth ≤ 16)

abbrev pub decreases-on_array_open-loop-depth : goal.decreases-on_array_open-loop-depth
decreases-on_array_open-loop-depth l = (count l.s - l.cur.at) + (count l.s - l.cur.at) + l.depth

abbrev pub invariant-on_inline_table_open-loop-t : goal.invariant-on_inline_table_open-loop-t
invariant-on_inline_table_open-loop-t l =
    Turns l.s (λ k. turns (inline_table_turn (span l.head.start l.head.end) (count l.s - l.initial.cur.at) (on_open (l.levels - 1))) k l.p (tokens_at l.s l.cur)) (looping (inline_table_turn (span l.head.start l.head.end) (count l.s - l.initial.cur.at) (on_open (l.levels - 1))) l.initial.p (tokens_at l.s l.initial.cur)) (bufs l.events l.errors l.n) (bufs l.initial.events l.initial.errors l.initial.n) l.cur l.initial.cur
    × (length l.events ≡ length l.initial.events) × (length l.errors ≡ length l.initial.errors) × (l.actions ≡ action_table)

abbrev pub decreases-on_inline_table_open-loop-t : goal.decreases-on_inline_table_open-loop-t
decreases-on_inline_table_open-loop-t l = count l.s - l.cur.at
