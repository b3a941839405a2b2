-- Laws of loops whose rule bounds its turns: at some bound that is enough, the rule from here gives what it gives from the loop's
-- start. Proved; nothing here needs to be believed.
use Rattle.std.specs.Prelude.{◌≡◌, refl, List, [], ◌∷◌, ℕ, zero, suc, ◌+◌, ◌-◌, ◌≤◌, length}
use Rattle.std.proofs.Common.{ap, sym, subst, ◌∙◌, not-suc-le-zero, arith}
use Rattle.token.specs.Tokens.{Tok, all_tokens, tokens_at, Good}
use Rattle.token.specs.CursorLaws.{left_length}
use Rattle.token.specs.declared.cursor.Cursor.{Cursor}
use Rattle.rules.specs.Out.{Out}
use Rattle.rules.specs.Turns.{turns}
use Rattle.output.specs.declared.emitting.Walk.{Walk}
use Rattle.output.specs.Pour.{Bufs}
use Rattle.output.specs.Walks.{run, end_of, Goes}

-- one turn of the rule
pub unroll : {S : Type 0} (turn : (S → List Tok → Out) → S → List Tok → Out) (still : (f g : S → List Tok → Out) (w : S) → turn f w [] ≡ turn g w []) (k : ℕ) (w : S) (ts : List Tok) → length ts ≤ k → turns turn k w ts ≡ turn (turns turn (k - 1)) w ts
unfolding turns
unroll turn still zero w [] h = still _ _ w
unroll turn still zero w (t ∷ ts) h = absurd (not-suc-le-zero h)
unroll turn still (suc k) w ts h = let e : suc k - 1 ≡ k = omega arith in rw e

pub record Turns (s : List ℕ) (now : ℕ → Out) (start : Out) (o o₀ : Bufs) (cur cur₀ : Cursor) : Type 0 where
  pub fuel : ℕ
  pub enough : length (tokens_at s cur) ≤ fuel
  pub same : run (all_tokens s cur₀.base) (now fuel) o ≡ run (all_tokens s cur₀.base) start o₀
  pub good : Good s cur
  pub on : cur₀.at ≤ cur.at
  pub base : cur.base ≡ cur₀.base

pub turns_begun : (s : List ℕ) (now : ℕ → Out) (o : Bufs) (cur : Cursor) → Good s cur → Turns s now (now (length (tokens_at s cur))) o o cur cur
turns_begun s now o cur g = record { fuel = length (tokens_at s cur); enough = omega arith; same = refl; good = g; on = omega arith; base = refl }

module _ {S : Type 0} (turn : (S → List Tok → Out) → S → List Tok → Out) (still : (f g : S → List Tok → Out) (w : S) → turn f w [] ≡ turn g w [])
    {s : List ℕ} {start : Out} {o o₀ : Bufs} {cur cur₀ : Cursor} (w : S) (inv : Turns s (λ k. turns turn k w (tokens_at s cur)) start o o₀ cur cur₀) where
  -- what the loop goes on to do after a turn
  abbrev pub onward : S → List Tok → Out
  onward = turns turn (inv.fuel - 1)

  -- one turn from here gives what the loop gives from its start
  pub turn_same : run (all_tokens s cur₀.base) (turn onward w (tokens_at s cur)) o ≡ run (all_tokens s cur₀.base) start o₀
  turn_same = ap (λ (r : Out). run (all_tokens s cur₀.base) r o) (sym (unroll turn still inv.fuel w (tokens_at s cur) inv.enough)) ∙ inv.same

  -- fewer tokens are left past a turn
  pub fewer_left : (f : Cursor) → cur.at + 1 ≤ f.at → Good s f → length (tokens_at s f) ≤ inv.fuel - 1
  fewer_left f h g = omega (arith, inv.enough, left_length s cur, left_length s f, g.low)

  -- a turn
  pub turn_again : (w' : S) (o' : Bufs) (cur' : Cursor) → run (all_tokens s cur₀.base) (turn onward w (tokens_at s cur)) o ≡ run (all_tokens s cur₀.base) (onward w' (tokens_at s cur')) o' → cur.at + 1 ≤ cur'.at → cur'.base ≡ cur.base → Good s cur'
      → Turns s (λ k. turns turn k w' (tokens_at s cur')) start o' o₀ cur' cur₀
  turn_again w' o' cur' e h b g = record { fuel = inv.fuel - 1; enough = fewer_left cur' h g; same = sym e ∙ turn_same; good = g; on = omega (arith, inv.on, h); base = b ∙ inv.base }

  -- the last turn
  pub turn_finish : (a b : List ℕ) (v : Walk) → run (all_tokens s cur₀.base) (turn onward w (tokens_at s cur)) o ≡ end_of s a b v → cur.at ≤ v.cur.at → v.cur.base ≡ cur.base → Good s v.cur → Goes s start cur₀ o₀ a b v
  turn_finish a b v e h q g =
      record { is = λ base p. subst (λ (x : ℕ). end_of s a b v ≡ run (all_tokens s x) start o₀) p (sym e ∙ turn_same); good = g; on = omega (arith, inv.on); base = q ∙ inv.base }
