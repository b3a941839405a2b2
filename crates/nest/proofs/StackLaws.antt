-- Arrays that wait for one in them to end, kept on a stack: the walk of the innermost, then of those that wait, the nearest first,
-- gives what the rules give for the outermost. Assumes nothing.
use Rattle.std.specs.Prelude.{Ok, Err}
use mathlib.Core.Path.{◌≡◌, refl, ap, sym, subst, ◌∙◌}
use mathlib.Core.Bool.{true, false}
use mathlib.Core.List.{List, [], ◌∷◌}
use Prim.Native.Nat.{ℕ, zero, suc, ◌+◌, ◌-◌, ◌<◌, ◌≤◌}
use native.Mathlib.Omega.{arith}
use lib.ListN.{length, get_or, set}
use Rattle.token.specs.Tokens.{Tok, all_tokens, tokens_at, Good}
use Rattle.token.specs.CursorLaws.{left_length}
use Rattle.token.specs.declared.cursor.Token.{Token}
use Rattle.token.specs.declared.cursor.Cursor.{Cursor}
use Rattle.rules.specs.declared.skipping.Bracket.{Bracket}
use Rattle.rules.specs.declared.array.ArrayState.{ArrayState}
use Rattle.rules.specs.Out.{span, Out, done, ◌▹◌, ◌then◌}
use Rattle.rules.specs.Receiver as receiver
use Rattle.rules.specs.Turns.{turns, looping}
use Rattle.rules.specs.Array.{array_turn}
use Rattle.rules.specs.Nest.{on_open}
use Rattle.output.specs.Pour.{Bufs, bufs, put}
use Rattle.output.specs.Walks.{End, run}
use Rattle.output.specs.WalkLaws.{first_item, first_items}
use Rattle.array_parts.specs.declared.turn.Next.{Next}
use Rattle.array_parts.specs.declared.turn.StateTurn.{StateTurn}
use Rattle.array_parts.specs.Turning.{go_on, Further, Wants}
use Rattle.nest.specs.Nested.{NestWalk, walk_of, is_stopped, Nested}
use Rattle.nest.specs.NestedLaws.{nested_stop, nested_done, then_nested, nested_from}
use Rattle.array_runs.specs.Ran.{Enough, Left, Ran}
use Rattle.nest.proofs.NestLaws.{open_array_lem, no_level}

-- an array that waits: where it was opened, the turns still allowed, and the levels allowed in it
pub record Frame : Type 0 where
  pub start : ℕ
  pub end : ℕ
  pub fuel : ℕ
  pub levels : ℕ

-- how it goes on
abbrev pub waiting : Frame → List Tok → Out
waiting f = turns (array_turn (span f.start f.end) (on_open f.levels)) f.fuel ArrayState.NeedsComma

-- what the innermost array gives, and then those that wait
abbrev pub resume : List Frame → Out → Out
resume [] r = r
resume (f ∷ fs) r = resume fs (r then waiting f)

-- the stack of the code holds the frames: so many, each with one more level than the one above it, and turns enough for m tokens
abbrev pub Held : List Frame → List ℕ → List ℕ → ℕ → ℕ → ℕ → Type 0
Held [] starts ends depth left m = depth ≡ 0
Held (f ∷ fs) starts ends depth left m = (0 < depth) × (get_or starts (depth - 1) 0 ≡ f.start) × (get_or ends (depth - 1) 0 ≡ f.end) × (f.levels ≡ left + 1) × (m ≤ f.fuel) × Held fs starts ends (depth - 1) (left + 1) m

-- the innermost array at a..b, the stack below it, and what is still to be walked; so many levels are allowed in the outermost
pub record Stacked (s : List ℕ) (outer : ℕ) (start : Out) (o₀ : Bufs) (cur₀ : Cursor) (starts ends : List ℕ) (depth left a b : ℕ) (w : ArrayState) (o : Bufs) (cur : Cursor) : Type 0 where
  pub frames : List Frame
  pub held : Held frames starts ends depth left (length (tokens_at s cur))
  pub fuel : ℕ
  pub enough : length (tokens_at s cur) ≤ fuel
  pub same : run (all_tokens s cur₀.base) (resume frames (turns (array_turn (span a b) (on_open left)) fuel w (tokens_at s cur))) o ≡ run (all_tokens s cur₀.base) start o₀
  pub good : Good s cur
  pub on : cur₀.at ≤ cur.at
  pub base : cur.base ≡ cur₀.base
  pub sum : left + depth ≡ outer

-- the first array
pub stack_begun : (s : List ℕ) (left a b : ℕ) (w : ArrayState) (o : Bufs) (cur : Cursor) (starts ends : List ℕ) → Good s cur → Stacked s left (looping (array_turn (span a b) (on_open left)) w (tokens_at s cur)) o cur starts ends 0 left a b w o cur
stack_begun s left a b w o cur starts ends g = record { frames = []; held = refl; fuel = length (tokens_at s cur); enough = omega arith; same = refl; good = g; on = omega arith; base = refl; sum = omega arith }

-- entries of a list of which one is set
set_same : (l : List ℕ) (i x : ℕ) → i < length l → get_or (set l i x) i 0 ≡ x
set_same [] i x h = absurd (omega (arith, h))
set_same (y ∷ l) zero x h = refl
set_same (y ∷ l) (suc i) x h = set_same l i x (omega (arith, h))

set_other : (l : List ℕ) (i j x : ℕ) → j < i → get_or (set l i x) j 0 ≡ get_or l j 0
set_other [] i j x h = refl
set_other (y ∷ l) zero j x h = absurd (omega (arith, h))
set_other (y ∷ l) (suc i) zero x h = refl
set_other (y ∷ l) (suc i) (suc j) x h = set_other l i j x (omega (arith, h))

-- an entry above the stack is not its own; fewer tokens need no more turns
held_set : (fs : List Frame) (starts ends : List ℕ) (i x y depth left m : ℕ) → depth ≤ i → Held fs starts ends depth left m → Held fs (set starts i x) (set ends i y) depth left m
held_set [] starts ends i x y depth left m h e = e
held_set (f ∷ fs) starts ends i x y depth left m h (z, p, q, l, n, e) =
    (z, set_other starts i (depth - 1) x (omega (arith, z, h)) ∙ p, set_other ends i (depth - 1) y (omega (arith, z, h)) ∙ q, l, n, held_set fs starts ends i x y (depth - 1) (left + 1) m (omega (arith, h)) e)

held_less : (fs : List Frame) (starts ends : List ℕ) (depth left m m' : ℕ) → m' ≤ m → Held fs starts ends depth left m → Held fs starts ends depth left m'
held_less [] starts ends depth left m m' h e = e
held_less (f ∷ fs) starts ends depth left m m' h (z, p, q, l, n, e) = (z, p, q, l, omega (arith, h, n), held_less fs starts ends (depth - 1) (left + 1) m m' h e)

-- what gives the same gives the same with those that wait
then_same : (all : List Tok) (f : List Tok → Out) (g g' : Out) (o o' : Bufs) → run all g o ≡ run all g' o' → run all (g then f) o ≡ run all (g' then f) o'
unfolding run
then_same all f g g' o o' e = first_items all g.items (f g.rest) o _ refl ∙ ap (λ (x : End). run all (f x.rest) x.out) e ∙ sym (first_items all g'.items (f g'.rest) o' _ refl)

resume_same : (fs : List Frame) (all : List Tok) (g g' : Out) (o o' : Bufs) → run all g o ≡ run all g' o' → run all (resume fs g) o ≡ run all (resume fs g') o'
resume_same [] all g g' o o' e = e
resume_same (f ∷ fs) all g g' o o' e = resume_same fs all (g then waiting f) (g' then waiting f) o o' (then_same all (waiting f) g g' o o' e)

-- a refusal is passed up
resume_stop : (fs : List Frame) {s : List ℕ} {g : Out} {c : Cursor} {o : Bufs} {a b : List ℕ} {v : NestWalk} → Nested s g c o a b v → (is_stopped v) ≡ true → Nested s (resume fs g) c o a b v
resume_stop [] x e = x
resume_stop (f ∷ fs) x e = resume_stop fs (nested_stop (waiting f) x e) e

no_frames : (fs : List Frame) (starts ends : List ℕ) (depth left m : ℕ) → Held fs starts ends depth left m → depth ≡ 0 → fs ≡ []
no_frames [] starts ends depth left m h e = refl
no_frames (f ∷ fs) starts ends depth left m (z, p, q, l, n, k) e = absurd (omega (arith, z, e))

-- turns of the innermost array, from here, ended as r says
module _ {s : List ℕ} {outer : ℕ} {start : Out} {o₀ : Bufs} {cur₀ : Cursor} {starts ends : List ℕ} {depth left a b : ℕ} {w : ArrayState} {o : Bufs} {cur : Cursor}
    (inv : Stacked s outer start o₀ cur₀ starts ends depth left a b w o cur) {ev er : List ℕ} (r : StateTurn ArrayState) (y : Ran s (span a b) w cur o ev er r) where
  abbrev All : List Tok
  All = all_tokens s cur₀.base

  abbrev Loop : ℕ → ArrayState → List Tok → Out
  Loop = turns (array_turn (span a b) (on_open left))

  abbrev onward : Left s (Loop inv.fuel w (tokens_at s cur)) o (λ j. go_on r.turn.next (on_open left) (Loop j) r.state (tokens_at s r.turn.cur)) (bufs ev er r.turn.n) r.turn.next cur r.turn.cur
  onward = y.is (on_open left) inv.fuel inv.enough

  -- what is next, with those that wait, gives what the rules give from the start
  here : (x : Next) → r.turn.next ≡ x → run All (resume inv.frames (go_on x (on_open left) (Loop onward.fuel) r.state (tokens_at s r.turn.cur))) (bufs ev er r.turn.n) ≡ run All start o₀
  here x e = resume_same inv.frames All _ _ _ _ now ∙ inv.same
    where
      back : run All (Loop inv.fuel w (tokens_at s cur)) o ≡ run All (go_on r.turn.next (on_open left) (Loop onward.fuel) r.state (tokens_at s r.turn.cur)) (bufs ev er r.turn.n)
      back = subst (λ (base : ℕ). run (all_tokens s base) (Loop inv.fuel w (tokens_at s cur)) o ≡ run (all_tokens s base) (go_on r.turn.next (on_open left) (Loop onward.fuel) r.state (tokens_at s r.turn.cur)) (bufs ev er r.turn.n)) inv.base onward.same

      now : run All (go_on x (on_open left) (Loop onward.fuel) r.state (tokens_at s r.turn.cur)) (bufs ev er r.turn.n) ≡ run All (Loop inv.fuel w (tokens_at s cur)) o
      now = ap (λ (z : Next). run All (go_on z (on_open left) (Loop onward.fuel) r.state (tokens_at s r.turn.cur)) (bufs ev er r.turn.n)) (sym e) ∙ sym back

  enough_at : (x : Next) → r.turn.next ≡ x → Enough x (length (tokens_at s r.turn.cur)) onward.fuel
  enough_at x e = subst (λ (z : Next). Enough z (length (tokens_at s r.turn.cur)) onward.fuel) e onward.enough

  moved : (x : Next) → r.turn.next ≡ x → Further x cur r.turn.cur
  moved x e = subst (λ (z : Next). Further z cur r.turn.cur) e y.on

  fewer : (d : Cursor) → cur.at ≤ d.at → length (tokens_at s d) ≤ length (tokens_at s cur)
  fewer d h = omega (arith, h, left_length s cur, left_length s d)

  pub stack_moved : r.turn.next ≡ Next.Again → cur.at + 1 ≤ r.turn.cur.at
  stack_moved e = moved Next.Again e

  pub stack_over_moved : r.turn.next ≡ Next.Over → cur.at ≤ r.turn.cur.at
  stack_over_moved e = moved Next.Over e

  pub stack_array_moved : (t : Token) → r.turn.next ≡ Next.OpenArray t → cur.at + 1 ≤ r.turn.cur.at
  stack_array_moved t e = moved (Next.OpenArray t) e

  pub stack_table_moved : (t : Token) → r.turn.next ≡ Next.OpenTable t → cur.at + 1 ≤ r.turn.cur.at
  stack_table_moved t e = moved (Next.OpenTable t) e

  -- another turn
  pub stack_next : r.turn.next ≡ Next.Again → Stacked s outer start o₀ cur₀ starts ends depth left a b r.state (bufs ev er r.turn.n) r.turn.cur
  stack_next e =
      record {
        frames = inv.frames;
        held = held_less inv.frames starts ends depth left _ _ (fewer r.turn.cur (omega (arith, stack_moved e))) inv.held;
        fuel = onward.fuel;
        enough = enough_at Next.Again e;
        same = here Next.Again e;
        good = y.good;
        on = omega (arith, inv.on, stack_moved e);
        base = y.base ∙ inv.base;
        sum = inv.sum;
      }

  -- the end of the outermost array
  pub stack_over : r.turn.next ≡ Next.Over → depth ≡ 0 → Nested s start cur₀ o₀ ev er (Ok (record { cur = r.turn.cur; n = r.turn.n }))
  stack_over e h =
      let q : run All (done (tokens_at s r.turn.cur)) (bufs ev er r.turn.n) ≡ run All start o₀ = subst (λ (fs : List Frame). run All (resume fs (done (tokens_at s r.turn.cur))) (bufs ev er r.turn.n) ≡ run All start o₀) (no_frames inv.frames starts ends depth left _ inv.held h) (here Next.Over e) in
      nested_from q (omega (arith, stack_over_moved e, inv.on)) (y.base ∙ inv.base) (nested_done r.turn.cur ev er r.turn.n y.good)

  -- the end of the innermost array: on with the nearest that waits
  pub stack_pop : r.turn.next ≡ Next.Over → (depth ≡ 0 → ⊥) → Stacked s outer start o₀ cur₀ starts ends (depth - 1) (left + 1) (get_or starts (depth - 1) 0) (get_or ends (depth - 1) 0) ArrayState.NeedsComma (bufs ev er r.turn.n) r.turn.cur
  stack_pop e h = popped inv.frames inv.held (here Next.Over e)
    where
      popped : (fs : List Frame) → Held fs starts ends depth left (length (tokens_at s cur)) → run All (resume fs (done (tokens_at s r.turn.cur))) (bufs ev er r.turn.n) ≡ run All start o₀
          → Stacked s outer start o₀ cur₀ starts ends (depth - 1) (left + 1) (get_or starts (depth - 1) 0) (get_or ends (depth - 1) 0) ArrayState.NeedsComma (bufs ev er r.turn.n) r.turn.cur
      popped [] z g = absurd (h z)
      popped (f ∷ fs) (z, p, q, l, m, k) g =
          let F : ℕ → ℕ → ℕ → End = λ u v i. run All (resume fs (turns (array_turn (span u v) (on_open i)) f.fuel ArrayState.NeedsComma (tokens_at s r.turn.cur))) (bufs ev er r.turn.n) in
          record {
            frames = fs;
            held = held_less fs starts ends (depth - 1) (left + 1) _ _ (fewer r.turn.cur (stack_over_moved e)) k;
            fuel = f.fuel;
            enough = omega (arith, m, fewer r.turn.cur (stack_over_moved e));
            same = ap (λ (u : ℕ). F u (get_or ends (depth - 1) 0) (left + 1)) p ∙ ap (λ (v : ℕ). F f.start v (left + 1)) q ∙ ap (λ (i : ℕ). F f.start f.end i) (sym l) ∙ g;
            good = y.good;
            on = omega (arith, stack_over_moved e, inv.on);
            base = y.base ∙ inv.base;
            sum = omega (arith, inv.sum, z);
          }

  -- an array opens in the innermost, which waits from now on
  pub stack_push : (t : Token) → r.turn.next ≡ Next.OpenArray t → (left ≡ 0 → ⊥) → depth < length starts → depth < length ends → (o' : Bufs) → ((all : List Tok) → o' ≡ put all (receiver.array_open t.start t.end) (bufs ev er r.turn.n))
      → Stacked s outer start o₀ cur₀ (set starts depth a) (set ends depth b) (depth + 1) (left - 1) t.start t.end ArrayState.NeedsValue o' r.turn.cur
  stack_push t e h ls le o' p =
      record {
        frames = top ∷ inv.frames;
        held = (omega arith, ap (λ (i : ℕ). get_or (set starts depth a) i 0) one ∙ set_same starts depth a ls, ap (λ (i : ℕ). get_or (set ends depth b) i 0) one ∙ set_same ends depth b le, omega (arith, h), enough_at (Next.OpenArray t) e, below);
        fuel = length (tokens_at s r.turn.cur);
        enough = omega arith;
        same = resume_same (top ∷ inv.frames) All inside (receiver.array_open t.start t.end ▹ inside) o' (bufs ev er r.turn.n) (sym (first_item All inside _ (bufs ev er r.turn.n) o' (p All))) ∙ opened;
        good = y.good;
        on = omega (arith, stack_array_moved t e, inv.on);
        base = y.base ∙ inv.base;
        sum = omega (arith, inv.sum, h);
      }
    where
      top : Frame
      top = record { start = a; end = b; fuel = onward.fuel; levels = left }

      inside : Out
      inside = looping (array_turn (span t.start t.end) (on_open (left - 1))) ArrayState.NeedsValue (tokens_at s r.turn.cur)

      one : depth + 1 - 1 ≡ depth
      one = omega arith

      up : left - 1 + 1 ≡ left
      up = omega (arith, h)

      below : Held inv.frames (set starts depth a) (set ends depth b) (depth + 1 - 1) (left - 1 + 1) (length (tokens_at s r.turn.cur))
      below =
          subst (λ (i : ℕ). Held inv.frames (set starts depth a) (set ends depth b) i (left - 1 + 1) (length (tokens_at s r.turn.cur))) (sym one)
          (subst (λ (l : ℕ). Held inv.frames (set starts depth a) (set ends depth b) depth l (length (tokens_at s r.turn.cur))) (sym up)
          (held_set inv.frames starts ends depth a b depth left _ (omega arith) (held_less inv.frames starts ends depth left _ _ (fewer r.turn.cur (omega (arith, stack_array_moved t e))) inv.held)))

      opened : run All (resume inv.frames ((receiver.array_open t.start t.end ▹ inside) then waiting top)) (bufs ev er r.turn.n) ≡ run All start o₀
      opened =
          ap (λ (g : Out). run All (resume inv.frames (g then waiting top)) (bufs ev er r.turn.n)) (open_array_lem left t.start t.end (tokens_at s r.turn.cur) h)
          ∙ ap (λ (st : ArrayState). run All (resume inv.frames (on_open left Bracket.Square t.start t.end (tokens_at s r.turn.cur) then Loop onward.fuel st)) (bufs ev er r.turn.n)) (sym (subst (λ (x : Next). Wants x r.state) e y.wants))
          ∙ here (Next.OpenArray t) e

  -- a bracket was opened by a call, which was refused or not
  module _ {ev' er' : List ℕ} {v : NestWalk} (g : Out) (q : run All (resume inv.frames (g then Loop onward.fuel r.state)) (bufs ev er r.turn.n) ≡ run All start o₀) (h : cur.at + 1 ≤ r.turn.cur.at) (m : length (tokens_at s r.turn.cur) ≤ onward.fuel) (z : Nested s g r.turn.cur (bufs ev er r.turn.n) ev' er' v) where
    called_again : (is_stopped v) ≡ false → Stacked s outer start o₀ cur₀ starts ends depth left a b r.state (bufs ev' er' (walk_of v).n) (walk_of v).cur
    called_again e =
        record {
          frames = inv.frames;
          held = held_less inv.frames starts ends depth left _ _ (fewer (walk_of v).cur (omega (arith, h, z.on))) inv.held;
          fuel = onward.fuel;
          enough = omega (arith, m, z.on, left_length s r.turn.cur, left_length s (walk_of v).cur);
          same = resume_same inv.frames All _ _ _ _ (sym (then_nested (Loop onward.fuel r.state) _ (y.base ∙ inv.base) z e)) ∙ q;
          good = z.good;
          on = omega (arith, h, z.on, inv.on);
          base = z.base ∙ (y.base ∙ inv.base);
          sum = inv.sum;
        }

    called_stop : (is_stopped v) ≡ true → Nested s start cur₀ o₀ ev' er' v
    called_stop e = nested_from q (omega (arith, h, inv.on)) (y.base ∙ inv.base) (resume_stop inv.frames (nested_stop (Loop onward.fuel r.state) z e) e)

  module _ (t : Token) {ev' er' : List ℕ} {v : NestWalk} where
    pub stack_array_again : r.turn.next ≡ Next.OpenArray t → Nested s (on_open left Bracket.Square t.start t.end (tokens_at s r.turn.cur)) r.turn.cur (bufs ev er r.turn.n) ev' er' v → (is_stopped v) ≡ false → Stacked s outer start o₀ cur₀ starts ends depth left a b r.state (bufs ev' er' (walk_of v).n) (walk_of v).cur
    stack_array_again e z f = called_again (on_open left Bracket.Square t.start t.end (tokens_at s r.turn.cur)) (here (Next.OpenArray t) e) (stack_array_moved t e) (enough_at (Next.OpenArray t) e) z f

    pub stack_array_stop : r.turn.next ≡ Next.OpenArray t → Nested s (on_open left Bracket.Square t.start t.end (tokens_at s r.turn.cur)) r.turn.cur (bufs ev er r.turn.n) ev' er' v → (is_stopped v) ≡ true → Nested s start cur₀ o₀ ev' er' v
    stack_array_stop e z f = called_stop (on_open left Bracket.Square t.start t.end (tokens_at s r.turn.cur)) (here (Next.OpenArray t) e) (stack_array_moved t e) (enough_at (Next.OpenArray t) e) z f

    pub stack_table_again : r.turn.next ≡ Next.OpenTable t → Nested s (on_open left Bracket.Curly t.start t.end (tokens_at s r.turn.cur)) r.turn.cur (bufs ev er r.turn.n) ev' er' v → (is_stopped v) ≡ false → Stacked s outer start o₀ cur₀ starts ends depth left a b r.state (bufs ev' er' (walk_of v).n) (walk_of v).cur
    stack_table_again e z f = called_again (on_open left Bracket.Curly t.start t.end (tokens_at s r.turn.cur)) (here (Next.OpenTable t) e) (stack_table_moved t e) (enough_at (Next.OpenTable t) e) z f

    pub stack_table_stop : r.turn.next ≡ Next.OpenTable t → Nested s (on_open left Bracket.Curly t.start t.end (tokens_at s r.turn.cur)) r.turn.cur (bufs ev er r.turn.n) ev' er' v → (is_stopped v) ≡ true → Nested s start cur₀ o₀ ev' er' v
    stack_table_stop e z f = called_stop (on_open left Bracket.Curly t.start t.end (tokens_at s r.turn.cur)) (here (Next.OpenTable t) e) (stack_table_moved t e) (enough_at (Next.OpenTable t) e) z f

  -- an array where no level is left
  pub stack_none : (t : Token) → r.turn.next ≡ Next.OpenArray t → left ≡ 0 → Nested s start cur₀ o₀ ev er (Err (record { walk = record { cur = r.turn.cur; n = r.turn.n } }))
  stack_none t e h = stack_array_stop t e (no_level left Bracket.Square t.start t.end r.turn.cur ev er r.turn.n h y.good) refl
