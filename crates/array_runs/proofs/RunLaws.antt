-- Turns of an array, up to one behind which a bracket opens or the array is over. Assumes nothing.
use mathlib.Core.Path.{◌≡◌, refl, sym, subst, ◌∙◌}
use mathlib.Core.List.{List}
use Prim.Native.Nat.{ℕ, ◌+◌, ◌-◌, ◌≤◌}
use native.Mathlib.Omega.{arith}
use lib.ListN.{length}
use Rattle.token.specs.Tokens.{tokens_at, Good}
use Rattle.token.specs.declared.cursor.Cursor.{Cursor}
use Rattle.rules.specs.declared.array.ArrayState.{ArrayState}
use Rattle.rules.specs.Out.{Place}
use Rattle.rules.specs.Turns.{turns}
use Rattle.rules.specs.Array.{Nest, array_turn}
use Rattle.output.specs.Pour.{Bufs, bufs}
use Rattle.output.specs.TurnLaws.{Turns, fewer_left}
use Rattle.array_parts.specs.declared.turn.Next.{Next}
use Rattle.array_parts.specs.declared.turn.StateTurn.{StateTurn}
use Rattle.array_parts.specs.Turning.{Further, Wants, Turned}
use Rattle.array_runs.specs.Ran.{Enough, Ran}
use Rattle.array_runs.specs.TurnedLaws.{turned, turn_next}

-- the loop's turns so far
pub record Running (s : List ℕ) (head : Place) (w₀ : ArrayState) (c : Cursor) (o₀ : Bufs) (w : ArrayState) (o : Bufs) (cur : Cursor) : Type 0 where
  pub is : (nest : Nest) (k : ℕ) → length (tokens_at s c) ≤ k → Turns s (λ j. turns (array_turn head nest) j w (tokens_at s cur)) (turns (array_turn head nest) k w₀ (tokens_at s c)) o o₀ cur c
  pub good : Good s cur
  pub on : c.at ≤ cur.at
  pub base : cur.base ≡ c.base

pub running_begun : (s : List ℕ) (head : Place) (w : ArrayState) (c : Cursor) (o : Bufs) → Good s c → Running s head w c o w o c
running_begun s head w c o g = record { is = λ nest k h. record { fuel = k; enough = h; same = refl; good = g; on = omega arith; base = refl }; good = g; on = omega arith; base = refl }

further_from : (x : Next) (b c d : Cursor) → b.at ≤ c.at → Further x c d → Further x b d
further_from Next.Again b c d l h = omega (arith, l, h)
further_from Next.Over b c d l h = omega (arith, l, h)
further_from (Next.OpenArray t) b c d l h = omega (arith, l, h)
further_from (Next.OpenTable t) b c d l h = omega (arith, l, h)

module _ {s : List ℕ} {head : Place} {w₀ w : ArrayState} {c cur : Cursor} {o₀ o : Bufs} (inv : Running s head w₀ c o₀ w o cur)
    {a b : List ℕ} (r : StateTurn ArrayState) (t : Turned ArrayState s (λ nest loop. array_turn head nest loop w (tokens_at s cur)) cur o a b r.turn.cur r.turn.n r.state r.turn.next) where
  pub again_moved : r.turn.next ≡ Next.Again → cur.at + 1 ≤ r.turn.cur.at
  again_moved e = subst (λ (x : Next). Further x cur r.turn.cur) e t.on

  pub running_next : r.turn.next ≡ Next.Again → Running s head w₀ c o₀ r.state (bufs a b r.turn.n) r.turn.cur
  running_next e =
      record { is = λ nest k h. turn_next nest (λ n. array_turn head n) (λ f g v. refl) w (inv.is nest k h) r.state t e; good = t.good; on = omega (arith, inv.on, again_moved e); base = t.base ∙ inv.base }

  pub ran : Wants r.turn.next r.state → Ran s head w₀ c o₀ a b r
  ran q =
      record {
        is = λ nest k h.
            let i = inv.is nest k h in
            record {
              fuel = i.fuel - 1;
              enough = enough_by nest k i r.turn.next t.on;
              same = sym (turned nest (λ n. array_turn head n) (λ f g v. refl) w i r.state t r.turn.next refl);
            };
        good = t.good;
        on = further_from r.turn.next c cur r.turn.cur inv.on t.on;
        base = t.base ∙ inv.base;
        wants = q;
      }
    where
      enough_by : (nest : Nest) (k : ℕ) (i : Turns s (λ j. turns (array_turn head nest) j w (tokens_at s cur)) (turns (array_turn head nest) k w₀ (tokens_at s c)) o o₀ cur c) (x : Next) → Further x cur r.turn.cur → Enough x (length (tokens_at s r.turn.cur)) (i.fuel - 1)
      enough_by nest k i Next.Over h = tt
      enough_by nest k i Next.Again h = fewer_left (array_turn head nest) (λ f g v. refl) w i r.turn.cur h t.good
      enough_by nest k i (Next.OpenArray u) h = fewer_left (array_turn head nest) (λ f g v. refl) w i r.turn.cur h t.good
      enough_by nest k i (Next.OpenTable u) h = fewer_left (array_turn head nest) (λ f g v. refl) w i r.turn.cur h t.good
