-- By the kind; the brackets opened meanwhile are counted.
use mathlib.Core.Path.{◌≡◌}
use Prim.Native.Nat.{◌-◌, ◌≤◌}
use lib.ListN.{length}
use Rattle.token.specs.Records.{count}
use Rattle.token.specs.Tokens.{tokens_at}
use Rattle.output.specs.Pour.{bufs}
use Rattle.rules.specs.Turns.{turns, looping}
use Rattle.rules.specs.Skipping.{opened, value_close_turn}
use Rattle.output.specs.TurnLaws.{Turns}
use Rattle.skip_brackets.proofs.brackets.ignore_to_value_close.Given as goal

abbrev pub invariant-loop-t : goal.invariant-loop-t
invariant-loop-t l =
    Turns l.s (λ k. turns (value_close_turn l.closing) k (opened l.arrays l.tables) (tokens_at l.s l.cur)) (looping (value_close_turn l.closing) (opened l.initial.arrays l.initial.tables) (tokens_at l.s l.initial.cur)) (bufs l.events l.errors l.n) (bufs l.initial.events l.initial.errors l.initial.n) l.cur l.initial.cur
    × (length l.events ≡ length l.initial.events) × (length l.errors ≡ length l.initial.errors) × (l.arrays ≤ l.cur.at) × (l.tables ≤ l.cur.at)

abbrev pub decreases-loop-t : goal.decreases-loop-t
decreases-loop-t l = count l.s - l.cur.at
