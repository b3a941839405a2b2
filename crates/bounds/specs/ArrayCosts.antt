-- What brackets cost, and the costs of arrays: what comes besides depends on whether tokens are left to pay for it. Proved; nothing here
-- needs to be believed.
use Rattle.std.specs.Prelude.{List, [], ◌∷◌, length}
use Prim.Native.Nat.{ℕ, zero, suc, ◌+◌, ◌≤◌}
use Rattle.std.proofs.Common.{arith}
use Rattle.token.specs.declared.kind.Kind.{Kind}
use Rattle.token.specs.declared.kind.Kind.TheVariants.{Equals, Comma, Whitespace, Comment, Newline, Eof}
use Rattle.token.specs.Tokens.{Tok, tok}
use Rattle.rules.specs.declared.skipping.Bracket.{Bracket}
use Rattle.rules.specs.declared.array.InArray.{InArray}
use Rattle.rules.specs.declared.array.ArrayState.{ArrayState}
use Rattle.rules.specs.Out.{Place, Out, done, ◌▸◌, ◌then◌}
use Rattle.rules.specs.Costs.{Costs, done_costs, then_costs}
use Rattle.rules.specs.Skipping.{on_comment}
use Rattle.rules.specs.Turns.{turns}
use Rattle.rules.specs.Scalar.{on_scalar}
use Rattle.rules.specs.Array.{Nest, in_array, missing_comma, array_comma, array_step, array_turn}
use Rattle.bounds.specs.LineCosts.{on_comment_costs}
use Rattle.bounds.specs.ScalarCosts.{on_scalar_costs}

-- 1 if no token is left, and 1 if at most one is
abbrev pub spare : List Tok → ℕ
spare [] = 1
spare (t ∷ ts) = 0

abbrev pub spare_one : List Tok → ℕ
spare_one [] = 1
spare_one (t ∷ ts) = spare ts

pub spare_few : (ts : List Tok) → spare ts ≤ 1
spare_few [] = omega arith
spare_few (t ∷ ts) = omega arith

pub spare_one_few : (ts : List Tok) → (spare_one ts ≤ 1) × (spare ts ≤ spare_one ts)
spare_one_few [] = (omega arith, omega arith)
spare_one_few (t ∷ ts) = (spare_few ts, omega arith)

pub spare_left : (us ts : List Tok) → length us ≤ length ts → length us + spare us ≤ length ts + spare ts
spare_left [] [] h = omega arith
spare_left [] (t ∷ ts) h = omega arith
spare_left (u ∷ us) [] h = omega arith
spare_left (u ∷ us) (t ∷ ts) h = omega arith

-- costs may be said to be more than they are
pub weaker : {ts : List Tok} {e r f q : ℕ} {o : Out} → e ≤ f → r ≤ q → Costs ts e r o → Costs ts f q o
weaker h g p = record { events = omega (arith, h, p.events); errors = omega (arith, g, p.errors) }

-- a loop whose costs depend on its state and on the tokens that are left
module _ {S : Type 0} (turn : (S → List Tok → Out) → S → List Tok → Out) (e r : S → List Tok → ℕ)
    (keeps : (loop : S → List Tok → Out) → ((s : S) (us : List Tok) → Costs us (e s us) (r s us) (loop s us)) → (s : S) (ts : List Tok) → Costs ts (e s ts) (r s ts) (turn loop s ts)) where
  pub turns_cost_by : (n : ℕ) (s : S) (ts : List Tok) → Costs ts (e s ts) (r s ts) (turns turn n s ts)
  unfolding turns
  turns_cost_by zero s ts = keeps (λ s' us. done us) (λ s' us. done_costs us (e s' us) (r s' us)) s ts
  turns_cost_by (suc n) s ts = keeps (turns turn n) (turns_cost_by n) s ts

-- what a bracket opens: its opening event and an invented close, and the report of a missing one
abbrev pub NestCosts : Nest → Type 0
NestCosts nest = (bracket : Bracket) (a b : ℕ) (ts : List Tok) → Costs ts 2 1 (nest bracket a b ts)

-- a comma that is missing: an event and a report
missing_comma_costs : {ts : List Tok} {e r : ℕ} {o : Out} (head : Place) (st : ArrayState) (a b : ℕ) → Costs ts e r o → Costs ts (suc e) (suc r) (missing_comma head st a b ▸ o)
missing_comma_costs head ArrayState.NeedsValue a b p = omega arith
missing_comma_costs head ArrayState.NeedsComma a b p = omega arith

module _ (head : Place) (nest : Nest) (n : NestCosts nest) (loop : ArrayState → List Tok → Out) (l : (st : ArrayState) (us : List Tok) → Costs us 1 1 (loop st us)) where
  module _ (k : Kind) (a b : ℕ) (ts : List Tok) where
    array_comma_costs : (st : ArrayState) → Costs (tok k a b ∷ ts) 1 1 (array_comma st head loop a b ts)
    array_comma_costs ArrayState.NeedsValue = let p : Costs ts 1 1 (loop ArrayState.NeedsValue ts) = l ArrayState.NeedsValue ts in omega arith
    array_comma_costs ArrayState.NeedsComma = let p : Costs ts 1 1 (loop ArrayState.NeedsValue ts) = l ArrayState.NeedsValue ts in omega arith

    array_step_costs : (c : InArray) (st : ArrayState) → Costs (tok k a b ∷ ts) 1 1 (array_step c k head nest loop st a b ts)
    array_step_costs InArray.Comment st = let p : Costs ts 2 1 (on_comment a b ts then loop st) = then_costs (loop st) 1 1 (on_comment_costs a b ts) (l st) in omega arith
    array_step_costs InArray.Whitespace st = let p : Costs ts 1 1 (loop st ts) = l st ts in omega arith
    array_step_costs InArray.Newline st = let p : Costs ts 1 1 (loop st ts) = l st ts in omega arith
    array_step_costs InArray.Eof st = omega arith
    array_step_costs InArray.Comma st = array_comma_costs st
    array_step_costs InArray.Equals st = let p : Costs ts 1 1 (loop st ts) = l st ts in omega arith
    array_step_costs InArray.OpenCurly st = let p : Costs ts 4 3 (array_step InArray.OpenCurly k head nest loop st a b ts) = missing_comma_costs head st a b (then_costs (loop ArrayState.NeedsComma) 1 1 (n Bracket.Curly a b ts) (l ArrayState.NeedsComma)) in omega arith
    array_step_costs InArray.CloseCurly st = let q : Costs ts 1 1 (loop ArrayState.NeedsComma ts) = l ArrayState.NeedsComma ts in let p : Costs ts 4 3 (array_step InArray.CloseCurly k head nest loop st a b ts) = missing_comma_costs head st a b (omega arith) in omega arith
    array_step_costs InArray.OpenSquare st = let p : Costs ts 4 3 (array_step InArray.OpenSquare k head nest loop st a b ts) = missing_comma_costs head st a b (then_costs (loop ArrayState.NeedsComma) 1 1 (n Bracket.Square a b ts) (l ArrayState.NeedsComma)) in omega arith
    array_step_costs InArray.CloseSquare st = omega arith
    array_step_costs InArray.Scalar st = let p : Costs ts 3 2 (array_step InArray.Scalar k head nest loop st a b ts) = missing_comma_costs head st a b (then_costs (loop ArrayState.NeedsComma) 1 1 (on_scalar_costs k a b ts) (l ArrayState.NeedsComma)) in omega arith

  -- where a value is wanted, the first token pays for all
  module _ (k : Kind) (a b : ℕ) (ts : List Tok) where
    wanted_costs : (c : InArray) → Costs (tok k a b ∷ ts) 0 0 (array_step c k head nest loop ArrayState.NeedsValue a b ts)
    wanted_costs InArray.Comment = let p : Costs ts 2 1 (on_comment a b ts then loop ArrayState.NeedsValue) = then_costs (loop ArrayState.NeedsValue) 1 1 (on_comment_costs a b ts) (l ArrayState.NeedsValue) in omega arith
    wanted_costs InArray.Whitespace = let p : Costs ts 1 1 (loop ArrayState.NeedsValue ts) = l ArrayState.NeedsValue ts in omega arith
    wanted_costs InArray.Newline = let p : Costs ts 1 1 (loop ArrayState.NeedsValue ts) = l ArrayState.NeedsValue ts in omega arith
    wanted_costs InArray.Eof = omega arith
    wanted_costs InArray.Comma = let p : Costs ts 1 1 (loop ArrayState.NeedsValue ts) = l ArrayState.NeedsValue ts in omega arith
    wanted_costs InArray.Equals = let p : Costs ts 1 1 (loop ArrayState.NeedsValue ts) = l ArrayState.NeedsValue ts in omega arith
    wanted_costs InArray.OpenCurly = let p : Costs ts 3 2 (nest Bracket.Curly a b ts then loop ArrayState.NeedsComma) = then_costs (loop ArrayState.NeedsComma) 1 1 (n Bracket.Curly a b ts) (l ArrayState.NeedsComma) in omega arith
    wanted_costs InArray.CloseCurly = let p : Costs ts 1 1 (loop ArrayState.NeedsComma ts) = l ArrayState.NeedsComma ts in omega arith
    wanted_costs InArray.OpenSquare = let p : Costs ts 3 2 (nest Bracket.Square a b ts then loop ArrayState.NeedsComma) = then_costs (loop ArrayState.NeedsComma) 1 1 (n Bracket.Square a b ts) (l ArrayState.NeedsComma) in omega arith
    wanted_costs InArray.CloseSquare = omega arith
    wanted_costs InArray.Scalar = let p : Costs ts 2 1 (on_scalar k a b ts then loop ArrayState.NeedsComma) = then_costs (loop ArrayState.NeedsComma) 1 1 (on_scalar_costs k a b ts) (l ArrayState.NeedsComma) in omega arith

-- what comes besides in an array, by its state and the tokens that are left
abbrev pub in_array_spare : ArrayState → List Tok → ℕ
in_array_spare ArrayState.NeedsValue ts = spare ts
in_array_spare ArrayState.NeedsComma ts = 1

array_spare_few : (st : ArrayState) (ts : List Tok) → in_array_spare st ts ≤ 1
array_spare_few ArrayState.NeedsValue ts = spare_few ts
array_spare_few ArrayState.NeedsComma ts = omega arith

pub array_turn_costs : (head : Place) (nest : Nest) → NestCosts nest → (loop : ArrayState → List Tok → Out) → ((st : ArrayState) (us : List Tok) → Costs us (in_array_spare st us) (in_array_spare st us) (loop st us)) → (st : ArrayState) (ts : List Tok) → Costs ts (in_array_spare st ts) (in_array_spare st ts) (array_turn head nest loop st ts)
array_turn_costs head nest n loop l ArrayState.NeedsValue [] = omega arith
array_turn_costs head nest n loop l ArrayState.NeedsComma [] = omega arith
array_turn_costs head nest n loop l ArrayState.NeedsValue (tok k a b ∷ ts) = wanted_costs head nest n loop (λ st us. weaker (array_spare_few st us) (array_spare_few st us) (l st us)) k a b ts (in_array k)
array_turn_costs head nest n loop l ArrayState.NeedsComma (tok k a b ∷ ts) = array_step_costs head nest n loop (λ st us. weaker (array_spare_few st us) (array_spare_few st us) (l st us)) k a b ts (in_array k) ArrayState.NeedsComma
