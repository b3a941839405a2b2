-- Loops of turns: a loop unrolls by one turn, and more turns than there are tokens change nothing. For any turn. Nothing here needs to be believed.
use Prim.Native.Nat.{ℕ, zero, suc, ◌≤◌, ◌-◌}
use native.Mathlib.Nat.{le_trans, le_refl, le_of_suc-le-suc, not-suc-le-zero}
use native.Mathlib.Omega.{arith}
use mathlib.Core.Path.{◌≡◌, refl}
use mathlib.Core.List.{List, [], ◌∷◌}
use lib.ListN.{length}
use Rattle.token.specs.Tokens.{Tok}
use Rattle.rules.specs.Out.{Out}
use Rattle.rules.specs.Turns.{turns, looping}

-- what the loop goes on to do, in a state and with the tokens that are left
abbrev pub Loop : Type 0 → Type 0
Loop S = S → List Tok → Out

-- at the end of the list a turn does not go on
abbrev pub Still : {S : Type 0} → (Loop S → Loop S) → Type 0
Still {S} turn = (f g : Loop S) (s : S) → turn f s [] ≡ turn g s []

-- a turn goes on only with fewer tokens: loops that agree there make the same turn
abbrev pub Local : {S : Type 0} → (Loop S → Loop S) → Type 0
Local {S} turn = (f g : Loop S) (s : S) (t : Tok) (ts : List Tok) → ((s' : S) (us : List Tok) → length us ≤ length ts → f s' us ≡ g s' us) → turn f s (t ∷ ts) ≡ turn g s (t ∷ ts)

-- with as many turns as there are tokens left, the loop is one turn and then the loop
pub turns_unroll : {S : Type 0} (turn : Loop S → Loop S) → Still turn → (n : ℕ) (s : S) (ts : List Tok) → length ts ≤ n → turns turn n s ts ≡ turn (turns turn (n - 1)) s ts
unfolding turns
turns_unroll turn still zero s [] h = still _ _ s
turns_unroll turn still zero s (t ∷ ts) h = absurd (not-suc-le-zero h)
turns_unroll turn still (suc n) s ts h = let e : suc n - 1 ≡ n = omega arith in rw e

-- more turns than tokens change nothing
pub turns_enough : {S : Type 0} (turn : Loop S → Loop S) → Still turn → Local turn → (n m : ℕ) (s : S) (ts : List Tok) → length ts ≤ n → length ts ≤ m → turns turn n s ts ≡ turns turn m s ts
unfolding turns
turns_enough turn still loc zero zero s ts h k = refl
turns_enough turn still loc zero (suc m) s [] h k = still _ _ s
turns_enough turn still loc zero (suc m) s (t ∷ ts) h k = absurd (not-suc-le-zero h)
turns_enough turn still loc (suc n) zero s [] h k = still _ _ s
turns_enough turn still loc (suc n) zero s (t ∷ ts) h k = absurd (not-suc-le-zero k)
turns_enough turn still loc (suc n) (suc m) s [] h k = still _ _ s
turns_enough turn still loc (suc n) (suc m) s (t ∷ ts) h k =
    loc (turns turn n) (turns turn m) s t ts (λ s' us l. turns_enough turn still loc n m s' us (le_trans l (le_of_suc-le-suc h)) (le_trans l (le_of_suc-le-suc k)))

-- the turn's equation, with no number of turns in sight
pub looping_turn : {S : Type 0} (turn : Loop S → Loop S) → Still turn → Local turn → (s : S) (ts : List Tok) → looping turn s ts ≡ turn (looping turn) s ts
unfolding turns
looping_turn turn still loc s [] = still _ _ s
looping_turn turn still loc s (t ∷ ts) = loc (turns turn (length ts)) (looping turn) s t ts (λ s' us l. turns_enough turn still loc (length ts) (length us) s' us l (le_refl _))
