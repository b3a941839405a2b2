-- Turns of an array, up to one behind which a bracket opens or the array is over: what they promise, whatever brackets open and
-- however many turns are allowed, if they are enough. Assumes nothing.
use Rattle.std.specs.Prelude.{◌≡◌, List, ℕ, ◌≤◌, length}
use Rattle.token.specs.Tokens.{all_tokens, tokens_at, Good}
use Rattle.token.specs.declared.cursor.Cursor.{Cursor}
use Rattle.rules.specs.declared.array.ArrayState.{ArrayState}
use Rattle.rules.specs.Out.{Place, Out}
use Rattle.rules.specs.Turns.{turns}
use Rattle.rules.specs.Array.{Nest, array_turn}
use Rattle.output.specs.Pour.{Bufs, bufs}
use Rattle.output.specs.Walks.{run}
use Rattle.array_parts.specs.declared.turn.Next.{Next}
use Rattle.array_parts.specs.declared.turn.StateTurn.{StateTurn}
use Rattle.array_parts.specs.Turning.{go_on, Further, Wants}

-- so many turns are enough for the tokens left, unless no turn follows
abbrev pub Enough : Next → ℕ → ℕ → Type 0
Enough Next.Over m k = Unit {0}
Enough Next.Again m k = m ≤ k
Enough (Next.OpenArray t) m k = m ≤ k
Enough (Next.OpenTable t) m k = m ≤ k

-- the rule r on o gives what `onward` gives on o', with some number of turns that is enough
pub record Left (s : List ℕ) (r : Out) (o : Bufs) (onward : ℕ → Out) (o' : Bufs) (x : Next) (c d : Cursor) : Type 0 where
  pub fuel : ℕ
  pub enough : Enough x (length (tokens_at s d)) fuel
  pub same : run (all_tokens s c.base) r o ≡ run (all_tokens s c.base) (onward fuel) o'

-- turns in the array that was opened at `head`, from cursor c, buffers o and state w, ended with the buffers a and b and as r says
pub record Ran (s : List ℕ) (head : Place) (w : ArrayState) (c : Cursor) (o : Bufs) (a b : List ℕ) (r : StateTurn ArrayState) : Type 0 where
  pub is : (nest : Nest) (k : ℕ) → length (tokens_at s c) ≤ k
      → Left s (turns (array_turn head nest) k w (tokens_at s c)) o (λ j. go_on r.turn.next nest (turns (array_turn head nest) j) r.state (tokens_at s r.turn.cur)) (bufs a b r.turn.n) r.turn.next c r.turn.cur
  pub good : Good s r.turn.cur
  pub on : Further r.turn.next c r.turn.cur
  pub base : r.turn.cur.base ≡ c.base
  pub wants : Wants r.turn.next r.state
