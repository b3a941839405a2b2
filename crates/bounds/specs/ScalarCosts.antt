-- The costs of scalars. Proved; nothing here needs to be believed.
use Rattle.std.specs.Prelude.{List, [], ◌∷◌, ℕ, ◌≤◌, length}
use Rattle.std.proofs.Common.{arith}
use Rattle.token.specs.declared.kind.Kind.{Kind}
use Rattle.token.specs.Tokens.{Tok, tok}
use Rattle.rules.specs.declared.scalar.Starting.{Starting}
use Rattle.rules.specs.declared.scalar.InScalar.{InScalar}
use Rattle.rules.specs.Out.{Out}
use Rattle.rules.specs.Costs.{Costs}
use Rattle.rules.specs.Scalar.{starting_of, in_scalar, unquoted_step, space_step, unquoted, behind_space, scalar_by, on_scalar}

-- an unquoted scalar
unquoted_step_costs : (k : Kind) (a b : ℕ) (ts : List Tok) (c : InScalar) (more space here : Out) → Costs ts 1 0 more → Costs (tok k a b ∷ ts) 1 0 space → Costs (tok k a b ∷ ts) 1 0 here → Costs (tok k a b ∷ ts) 1 0 (unquoted_step c more space here)
unquoted_step_costs k a b ts InScalar.Dot more space here p q r = omega arith
unquoted_step_costs k a b ts InScalar.Atom more space here p q r = omega arith
unquoted_step_costs k a b ts InScalar.Whitespace more space here p q r = q
unquoted_step_costs k a b ts InScalar.Other more space here p q r = r

space_step_costs : (ts : List Tok) (c : InScalar) (more here : Out) → Costs ts 1 0 more → Costs ts 1 0 here → Costs ts 1 0 (space_step c more here)
space_step_costs ts InScalar.Dot more here p q = q
space_step_costs ts InScalar.Atom more here p q = p
space_step_costs ts InScalar.Whitespace more here p q = q
space_step_costs ts InScalar.Other more here p q = q

mutual
  pub unquoted_costs : (ts : List Tok) (a b : ℕ) → Costs ts 1 0 (unquoted ts a b)
  unquoted_costs [] a b = omega arith
  unquoted_costs (tok k c d ∷ ts) a b =
      unquoted_step_costs k c d ts (in_scalar k) (unquoted ts a d) (behind_space ts (tok k c d ∷ ts) a b) _ (unquoted_costs ts a d) (behind_space_costs ts (tok k c d ∷ ts) a b (omega arith)) (omega arith)

  behind_space_costs : (ts here : List Tok) (a b : ℕ) → length ts ≤ length here → Costs here 1 0 (behind_space ts here a b)
  behind_space_costs [] here a b h = omega arith
  behind_space_costs (tok k c d ∷ ts) here a b h =
      let p : Costs ts 1 0 (unquoted ts a d) = unquoted_costs ts a d in
      space_step_costs here (in_scalar k) (unquoted ts a d) _ (omega arith) (omega arith)

scalar_by_costs : (s : Starting) (a b : ℕ) (ts : List Tok) → Costs ts 1 0 (scalar_by s a b ts)
scalar_by_costs (Starting.Quoted e) a b ts = omega arith
scalar_by_costs Starting.Unquoted a b ts = unquoted_costs ts a b
scalar_by_costs Starting.Never a b ts = omega arith

-- the scalar's first token is not among ts
pub on_scalar_costs : (k : Kind) (a b : ℕ) (ts : List Tok) → Costs ts 1 0 (on_scalar k a b ts)
on_scalar_costs k a b ts = scalar_by_costs (starting_of k) a b ts
