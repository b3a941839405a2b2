-- What a rule may emit for the tokens that it takes: three events and two error reports a token, and a few besides. Laws of the ways
-- in which rules are put together. Proved; nothing here needs to be believed.
use Rattle.std.specs.Prelude.{◌≡◌, List, [], ◌∷◌, ◌++◌, length}
use Prim.Native.Nat.{ℕ, zero, suc, ◌+◌, ◌*◌, ◌≤◌}
use Rattle.std.proofs.Common.{arith}
use Rattle.token.specs.Tokens.{Tok}
use Rattle.rules.specs.declared.options.Mode.{Mode}
use Rattle.rules.specs.Out.{Item, event, event_after, report, trailing_comma, stop, Out, done, ◌then◌}
use Rattle.rules.specs.Words.{events_of, errors_of}
use Rattle.rules.specs.Turns.{turns, looping}

-- how many events, and how many reports, there are among items; here a refusal ends nothing
abbrev pub event_count : List Item → ℕ
event_count [] = 0
event_count (event g a b ∷ is) = suc (event_count is)
event_count (event_after g l ∷ is) = suc (event_count is)
event_count (report m x c u ∷ is) = event_count is
event_count (trailing_comma head opened left start ∷ is) = event_count is
event_count (stop n ∷ is) = event_count is

abbrev pub error_count : List Item → ℕ
error_count [] = 0
error_count (event g a b ∷ is) = error_count is
error_count (event_after g l ∷ is) = error_count is
error_count (report m x c u ∷ is) = suc (error_count is)
error_count (trailing_comma head opened left start ∷ is) = suc (error_count is)
error_count (stop n ∷ is) = error_count is

-- a rule's answer o at the tokens ts: each token that it took pays for three events and two reports, and e events and r reports
-- come besides
pub record Costs (ts : List Tok) (e r : ℕ) (o : Out) : Type 0 where
  pub events : event_count o.items + 3 * length o.rest ≤ 3 * length ts + e
  pub errors : error_count o.items + 2 * length o.rest ≤ 2 * length ts + r

-- what a run's lists hold is among its items
pub events_counted : (all : List Tok) (is : List Item) → length (events_of all is) ≤ event_count is
events_counted all [] = omega arith
events_counted all (event g a b ∷ is) = omega (arith, events_counted all is)
events_counted all (event_after g l ∷ is) = omega (arith, events_counted all is)
events_counted all (report m x c u ∷ is) = events_counted all is
events_counted all (trailing_comma head opened left start ∷ is) = events_counted all is
events_counted all (stop n ∷ is) = omega arith

pub errors_counted : (mode : Mode) (all : List Tok) (is : List Item) → length (errors_of mode all is) ≤ error_count is
errors_counted mode all [] = omega arith
errors_counted mode all (event g a b ∷ is) = errors_counted mode all is
errors_counted mode all (event_after g l ∷ is) = errors_counted mode all is
errors_counted mode all (report m x c u ∷ is) = omega (arith, errors_counted mode all is)
errors_counted mode all (trailing_comma head opened left start ∷ is) = omega (arith, errors_counted mode all is)
errors_counted mode all (stop n ∷ is) = omega arith

pub events_append : (is js : List Item) → event_count (is ++ js) ≡ event_count is + event_count js
events_append [] js = omega arith
events_append (event g a b ∷ is) js = omega (arith, events_append is js)
events_append (event_after g l ∷ is) js = omega (arith, events_append is js)
events_append (report m x c u ∷ is) js = events_append is js
events_append (trailing_comma head opened left start ∷ is) js = events_append is js
events_append (stop n ∷ is) js = events_append is js

pub errors_append : (is js : List Item) → error_count (is ++ js) ≡ error_count is + error_count js
errors_append [] js = omega arith
errors_append (event g a b ∷ is) js = errors_append is js
errors_append (event_after g l ∷ is) js = errors_append is js
errors_append (report m x c u ∷ is) js = omega (arith, errors_append is js)
errors_append (trailing_comma head opened left start ∷ is) js = omega (arith, errors_append is js)
errors_append (stop n ∷ is) js = errors_append is js

-- nothing costs nothing
pub done_costs : (ts : List Tok) (e r : ℕ) → Costs ts e r (done ts)
done_costs ts e r = omega arith

-- no rule gives tokens back: with so little besides, no more are left than there were
pub not_back : {ts : List Tok} (e : ℕ) {r : ℕ} {o : Out} → e ≤ 2 → Costs ts e r o → length o.rest ≤ length ts
not_back e h p = omega (arith, p.events)

-- one rule and then another
pub then_costs : {ts : List Tok} {e r : ℕ} {o : Out} (f : List Tok → Out) (e' r' : ℕ) → Costs ts e r o → ((us : List Tok) → Costs us e' r' (f us)) → Costs ts (e + e') (r + r') (o then f)
then_costs {o = o} f e' r' p q =
    let h : Costs o.rest e' r' (f o.rest) = q o.rest in
    omega (arith, events_append o.items (f o.rest).items, errors_append o.items (f o.rest).items)

-- a loop: a turn keeps to the costs if what the loop goes on to do does
module _ {S : Type 0} (turn : (S → List Tok → Out) → S → List Tok → Out) (e r : ℕ)
    (keeps : (loop : S → List Tok → Out) → ((s : S) (us : List Tok) → Costs us e r (loop s us)) → (s : S) (ts : List Tok) → Costs ts e r (turn loop s ts)) where
  turns_cost : (n : ℕ) (s : S) (ts : List Tok) → Costs ts e r (turns turn n s ts)
  unfolding turns
  turns_cost zero s ts = keeps (λ s' us. done us) (λ s' us. done_costs us e r) s ts
  turns_cost (suc n) s ts = keeps (turns turn n) (turns_cost n) s ts

  pub looping_costs : (s : S) (ts : List Tok) → Costs ts e r (looping turn s ts)
  looping_costs s ts = turns_cost (length ts) s ts
