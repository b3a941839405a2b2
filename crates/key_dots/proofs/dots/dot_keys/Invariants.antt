-- The loop over dots, and within it the scan after a dot: what is to come from here gives what was to come from the start.
use mathlib.Core.Path.{◌≡◌}
use Prim.Native.Nat.{◌-◌}
use lib.ListN.{length}
use Rattle.token.specs.Records.{count}
use Rattle.token.specs.Tokens.{tokens_at}
use Rattle.output.specs.Pour.{bufs}
use Rattle.output.specs.WalkLaws.{Looped}
use Rattle.rules.specs.Keys.{dot_keys, after_dot, dot_keys_valid, after_dot_valid}
use Rattle.key_dots.proofs.dots.dot_keys.Given as goal

abbrev pub invariant-parts : goal.invariant-parts
invariant-parts l =
    Looped l.s (after_dot (tokens_at l.s l.cur) l.d.end) (after_dot (tokens_at l.s l.initial.cur) l.d.end) (bufs l.events l.errors l.n) (bufs l.initial.events l.initial.errors l.initial.n) l.cur l.initial.cur
    × (length l.events ≡ length l.initial.events) × (length l.errors ≡ length l.initial.errors)
    × (after_dot_valid (tokens_at l.s l.cur) ≡ after_dot_valid (tokens_at l.s l.initial.cur)) × (l.valid ≡ l.initial.valid)

abbrev pub decreases-parts : goal.decreases-parts
decreases-parts l = count l.s - l.cur.at

abbrev pub invariant-dots : goal.invariant-dots
invariant-dots l =
    Looped l.s (dot_keys (tokens_at l.s l.cur)) (dot_keys (tokens_at l.s l.initial.cur)) (bufs l.events l.errors l.n) (bufs l.initial.events l.initial.errors l.initial.n) l.cur l.initial.cur
    × (length l.events ≡ length l.initial.events) × (length l.errors ≡ length l.initial.errors)
    × (dot_keys_valid (tokens_at l.s l.cur) ≡ dot_keys_valid (tokens_at l.s l.initial.cur)) × (l.valid ≡ l.initial.valid)

abbrev pub decreases-dots : goal.decreases-dots
decreases-dots l = count l.s - l.cur.at
