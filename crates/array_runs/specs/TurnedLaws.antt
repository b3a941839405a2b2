-- A loop of turns, for any rule of a turn: what one turn leaves of it. Proved; nothing here needs to be believed.
use Rattle.std.specs.Prelude.{◌≡◌, List, [], ℕ, ◌+◌, ◌-◌, ◌≤◌}
use Rattle.std.proofs.Common.{ap, sym, subst, ◌∙◌, arith}
use Rattle.token.specs.Tokens.{Tok, all_tokens, tokens_at}
use Rattle.token.specs.declared.cursor.Cursor.{Cursor}
use Rattle.rules.specs.Out.{Out}
use Rattle.rules.specs.Turns.{turns}
use Rattle.rules.specs.Array.{Nest}
use Rattle.output.specs.declared.emitting.Counts.{Counts}
use Rattle.output.specs.Pour.{Bufs, bufs}
use Rattle.output.specs.Walks.{run}
use Rattle.output.specs.TurnLaws.{Turns, onward, turn_same, fewer_left}
use Rattle.array_parts.specs.declared.turn.Next.{Next}
use Rattle.array_parts.specs.Turning.{go_on, Further, Turned}

module _ {S : Type 0} (nest : Nest) (turn : Nest → (S → List Tok → Out) → S → List Tok → Out) (still : (f g : S → List Tok → Out) (w : S) → turn nest f w [] ≡ turn nest g w [])
    {s : List ℕ} {start : Out} {o o₀ : Bufs} {cur cur₀ : Cursor} (w : S) (inv : Turns s (λ k. turns (turn nest) k w (tokens_at s cur)) start o o₀ cur cur₀)
    {a b : List ℕ} {d : Cursor} {n : Counts} (w' : S) {x : Next} (t : Turned S s (λ nest loop. turn nest loop w (tokens_at s cur)) cur o a b d n w' x) where
  abbrev All : List Tok
  All = all_tokens s cur₀.base

  -- what is next gives what the loop gives from its start
  pub turned : (y : Next) → x ≡ y → run All (go_on y nest (onward (turn nest) still w inv) w' (tokens_at s d)) (bufs a b n) ≡ run All start o₀
  turned y e =
      ap (λ (z : Next). run All (go_on z nest (onward (turn nest) still w inv) w' (tokens_at s d)) (bufs a b n)) (sym e)
      ∙ (sym (t.is cur₀.base inv.base nest (onward (turn nest) still w inv)) ∙ turn_same (turn nest) still w inv)

  -- how far it went
  pub moved : (y : Next) → x ≡ y → Further y cur d
  moved y e = subst (λ (z : Next). Further z cur d) e t.on

  pub turn_moved : x ≡ Next.Again → cur.at + 1 ≤ d.at
  turn_moved e = moved Next.Again e

  -- another turn
  pub turn_next : x ≡ Next.Again → Turns s (λ k. turns (turn nest) k w' (tokens_at s d)) start (bufs a b n) o₀ d cur₀
  turn_next e =
      record { fuel = inv.fuel - 1; enough = fewer_left (turn nest) still w inv d (moved Next.Again e) t.good; same = turned Next.Again e; good = t.good; on = omega (arith, moved Next.Again e, inv.on); base = t.base ∙ inv.base }
