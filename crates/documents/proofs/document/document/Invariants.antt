-- Turn by turn, until one is over or refused.
use mathlib.Core.Path.{◌≡◌}
use Prim.Native.Nat.{◌-◌}
use lib.ListN.{length}
use Rattle.token.specs.Records.{count}
use Rattle.token.specs.Tokens.{tokens_at}
use Rattle.rules.specs.Turns.{turns, looping}
use Rattle.rules.specs.Document.{document_turn}
use Rattle.output.specs.Pour.{bufs}
use Rattle.output.specs.TurnLaws.{Turns}
use Rattle.documents.proofs.document.document.Given as goal

abbrev pub invariant-loop-end : goal.invariant-loop-end
invariant-loop-end l =
    Turns l.s (λ k. turns (document_turn l.settings.levels) k tt (tokens_at l.s l.cur)) (looping (document_turn l.settings.levels) tt (tokens_at l.s l.initial.cur)) (bufs l.events l.errors l.n) (bufs l.initial.events l.initial.errors l.initial.n) l.cur l.initial.cur
    × (length l.events ≡ length l.initial.events) × (length l.errors ≡ length l.initial.errors)

abbrev pub decreases-loop-end : goal.decreases-loop-end
decreases-loop-end l = count l.s - l.cur.at
