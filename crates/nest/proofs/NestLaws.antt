-- Arrays and inline tables that open one another: a loop of turns, for any rule of a turn. Assumes nothing.
use Rattle.std.specs.Prelude.{Ok, Err}
use mathlib.Core.Path.{◌≡◌, refl, ap, sym, ◌∙◌}
use mathlib.Core.Bool.{true, false, false≢true}
use mathlib.Core.List.{List, []}
use Prim.Native.Nat.{ℕ, zero, suc, ◌+◌, ◌-◌, ◌≤◌}
use native.Mathlib.Omega.{arith}
use Rattle.token.specs.Records.{count}
use Rattle.token.specs.Tokens.{Tok, all_tokens, tokens_at, Good}
use Rattle.token.specs.CursorLaws.{left_length}
use Rattle.token.specs.declared.cursor.Token.{Token}
use Rattle.token.specs.declared.cursor.Cursor.{Cursor}
use Rattle.rules.specs.declared.skipping.Bracket.{Bracket}
use Rattle.rules.specs.declared.array.ArrayState.{ArrayState}
use Rattle.rules.specs.declared.inline_table.State.{State}
use Rattle.rules.specs.Out.{span, Out, ◌▹◌, ◌then◌}
use Rattle.rules.specs.Receiver as receiver
use Rattle.rules.specs.Turns.{turns, looping}
use Rattle.rules.specs.Array.{Nest, array_turn}
use Rattle.rules.specs.InlineTable.{progress, inline_table_turn}
use Rattle.rules.specs.Nest.{on_open}
use Rattle.output.specs.declared.emitting.Counts.{Counts}
use Rattle.output.specs.Pour.{Bufs, bufs, refused, put}
use Rattle.output.specs.Walks.{run}
use Rattle.output.specs.TurnLaws.{Turns, onward, fewer_left}
use Rattle.array_parts.specs.declared.turn.Next.{Next}
use Rattle.array_parts.specs.Turning.{Turned}
use Rattle.array_runs.specs.TurnedLaws.{turned, moved}
use Rattle.nest.specs.Nested.{NestWalk, walk_of, is_stopped, Nested}
use Rattle.nest.specs.NestedLaws.{nested_stop, nested_done, then_nested, nested_from}

module _ {S : Type 0} (nest : Nest) (turn : Nest → (S → List Tok → Out) → S → List Tok → Out) (still : (f g : S → List Tok → Out) (w : S) → turn nest f w [] ≡ turn nest g w [])
    {s : List ℕ} {start : Out} {o o₀ : Bufs} {cur cur₀ : Cursor} (w : S) (inv : Turns s (λ k. turns (turn nest) k w (tokens_at s cur)) start o o₀ cur cur₀)
    {a b : List ℕ} {d : Cursor} {n : Counts} (w' : S) {x : Next} (t : Turned S s (λ nest loop. turn nest loop w (tokens_at s cur)) cur o a b d n w' x) where
  abbrev All : List Tok
  All = all_tokens s cur₀.base

  abbrev Rest : List Tok → Out
  Rest = onward (turn nest) still w inv w'

  -- the end
  pub turn_over : x ≡ Next.Over → Nested s start cur₀ o₀ a b (Ok (record { cur = d; n = n }))
  turn_over e = nested_from (turned nest turn still w inv w' t Next.Over e) (omega (arith, moved nest turn still w inv w' t Next.Over e, inv.on)) (t.base ∙ inv.base) (nested_done d a b n t.good)

  -- a bracket was opened, and its walk was refused or not
  module _ {a' b' : List ℕ} {v : NestWalk} (g : Out) (q : run All (g then Rest) (bufs a b n) ≡ run All start o₀) (h : cur.at + 1 ≤ d.at) (y : Nested s g d (bufs a b n) a' b' v) where
    opened_again : (is_stopped v) ≡ false → Turns s (λ k. turns (turn nest) k w' (tokens_at s (walk_of v).cur)) start (bufs a' b' (walk_of v).n) o₀ (walk_of v).cur cur₀
    opened_again e =
        record { fuel = inv.fuel - 1; enough = fewer_left (turn nest) still w inv (walk_of v).cur (omega (arith, h, y.on)) y.good; same = sym (then_nested Rest _ (t.base ∙ inv.base) y e) ∙ q; good = y.good; on = omega (arith, h, y.on, inv.on); base = y.base ∙ (t.base ∙ inv.base) }

    opened_stop : (is_stopped v) ≡ true → Nested s start cur₀ o₀ a' b' v
    opened_stop e = nested_from q (omega (arith, h, inv.on)) (t.base ∙ inv.base) (nested_stop Rest y e)

  pub array_moved : (u : Token) → x ≡ Next.OpenArray u → cur.at + 1 ≤ d.at
  array_moved u e = moved nest turn still w inv w' t (Next.OpenArray u) e

  pub table_moved : (u : Token) → x ≡ Next.OpenTable u → cur.at + 1 ≤ d.at
  table_moved u e = moved nest turn still w inv w' t (Next.OpenTable u) e

  module _ (u : Token) {a' b' : List ℕ} {v : NestWalk} where
    pub array_again : x ≡ Next.OpenArray u → Nested s (nest Bracket.Square u.start u.end (tokens_at s d)) d (bufs a b n) a' b' v → (is_stopped v) ≡ false → Turns s (λ k. turns (turn nest) k w' (tokens_at s (walk_of v).cur)) start (bufs a' b' (walk_of v).n) o₀ (walk_of v).cur cur₀
    array_again e y f = opened_again (nest Bracket.Square u.start u.end (tokens_at s d)) (turned nest turn still w inv w' t (Next.OpenArray u) e) (array_moved u e) y f

    pub array_stop : x ≡ Next.OpenArray u → Nested s (nest Bracket.Square u.start u.end (tokens_at s d)) d (bufs a b n) a' b' v → (is_stopped v) ≡ true → Nested s start cur₀ o₀ a' b' v
    array_stop e y f = opened_stop (nest Bracket.Square u.start u.end (tokens_at s d)) (turned nest turn still w inv w' t (Next.OpenArray u) e) (array_moved u e) y f

    pub table_again : x ≡ Next.OpenTable u → Nested s (nest Bracket.Curly u.start u.end (tokens_at s d)) d (bufs a b n) a' b' v → (is_stopped v) ≡ false → Turns s (λ k. turns (turn nest) k w' (tokens_at s (walk_of v).cur)) start (bufs a' b' (walk_of v).n) o₀ (walk_of v).cur cur₀
    table_again e y f = opened_again (nest Bracket.Curly u.start u.end (tokens_at s d)) (turned nest turn still w inv w' t (Next.OpenTable u) e) (table_moved u e) y f

    pub table_stop : x ≡ Next.OpenTable u → Nested s (nest Bracket.Curly u.start u.end (tokens_at s d)) d (bufs a b n) a' b' v → (is_stopped v) ≡ true → Nested s start cur₀ o₀ a' b' v
    table_stop e y f = opened_stop (nest Bracket.Curly u.start u.end (tokens_at s d)) (turned nest turn still w inv w' t (Next.OpenTable u) e) (table_moved u e) y f

-- the rules' openings where a level is left, and where none is
pub open_array_lem : (levels a b : ℕ) (ts : List Tok) → (levels ≡ 0 → ⊥) → (receiver.array_open a b ▹ looping (array_turn (span a b) (on_open (levels - 1))) ArrayState.NeedsValue ts) ≡ on_open levels Bracket.Square a b ts
unfolding on_open
open_array_lem zero a b ts h = absurd (h refl)
open_array_lem (suc levels) a b ts h = let e : suc levels - 1 ≡ levels = omega arith in rw e

pub open_table_lem : (s : List ℕ) (c : Cursor) (levels a b : ℕ) → (levels ≡ 0 → ⊥)
    → (receiver.inline_table_open a b ▹ looping (inline_table_turn (span a b) (count s - c.at) (on_open (levels - 1))) (progress State.NeedsKey true) (tokens_at s c)) ≡ on_open levels Bracket.Curly a b (tokens_at s c)
unfolding on_open
open_table_lem s c zero a b h = absurd (h refl)
open_table_lem s c (suc levels) a b h =
    let e : suc levels - 1 ≡ levels = omega arith in
    rw e (ap (λ (opened : ℕ). receiver.inline_table_open a b ▹ looping (inline_table_turn (span a b) opened (on_open levels)) (progress State.NeedsKey true) (tokens_at s c)) (sym (left_length s c)))

pub no_level : {s : List ℕ} (levels : ℕ) (bracket : Bracket) (x y : ℕ) (c : Cursor) (a b : List ℕ) (n : Counts) → levels ≡ 0 → Good s c → Nested s (on_open levels bracket x y (tokens_at s c)) c (bufs a b n) a b (Err (record { walk = record { cur = c; n = n } }))
unfolding on_open put bufs refused
no_level zero bracket x y c a b n e g = record { wrote = λ base q. refl; rest = λ f. absurd (false≢true (sym f)); good = g; on = omega arith; base = refl }
no_level (suc levels) bracket x y c a b n e g = absurd (omega (arith, e))
