-- No rule gives tokens back: it leaves no more than it was given, whatever it reports. All by the costs. Nothing here needs to be believed.
use mathlib.Core.Path.{◌≡◌, refl, ap}
use mathlib.Core.List.{List, ◌∷◌}
use Prim.Native.Nat.{ℕ, ◌≤◌}
use native.Mathlib.Omega.{arith}
use lib.ListN.{length}
use Rattle.token.specs.declared.kind.Kind.{Kind}
use Rattle.token.specs.declared.kind.Kind.TheVariants.{Dot}
use Rattle.token.specs.Tokens.{Tok, tok}
use Rattle.rules.specs.declared.skipping.Bracket.{Bracket}
use Rattle.rules.specs.declared.keys.InKey.{InKey}
use Rattle.rules.specs.Out.{Out, ◌▸◌, ◌then◌}
use Rattle.rules.specs.Skipping.{ignore_to_newline, on_comment, ignore_to_value_close}
use Rattle.rules.specs.Keys.{in_key, opt_dot_keys}
use Rattle.rules.specs.Scalar.{on_scalar}
use Rattle.rules.specs.Nest.{on_open}
use Rattle.rules.specs.Table.{on_table}
use Rattle.rules.specs.Document.{on_expression_key_val_sep, expression}
use Rattle.rules.specs.Messages as message
use Rattle.rules.specs.Costs.{not_back}
use Rattle.rules.proofs.KeyCosts.{opt_dot_keys_costs}
use Rattle.bounds.specs.LineCosts.{ignore_to_newline_costs, on_comment_costs, ignore_to_value_close_costs}
use Rattle.bounds.specs.ScalarCosts.{on_scalar_costs}
use Rattle.bounds.specs.NestCosts.{dotted_costs, on_open_costs}
use Rattle.bounds.specs.ExpressionCosts.{on_table_costs, key_val_sep_costs, expression_costs}

-- at most so many tokens are left
abbrev pub Short : Out → ℕ → Type 0
Short o n = length o.rest ≤ n

-- behind such an answer, two ways to go on that agree on so few tokens are the same
pub same_then : (o : Out) (f g : List Tok → Out) (n : ℕ) → Short o n → ((us : List Tok) → length us ≤ n → f us ≡ g us) → (o then f) ≡ (o then g)
same_then o f g n h e = ap (λ x. o.items ▸ x) (e o.rest h)

pub ignore_short : (ts : List Tok) → Short (ignore_to_newline ts) (length ts)
ignore_short ts = not_back 0 (omega arith) (ignore_to_newline_costs ts)

pub comment_short : (a b : ℕ) (ts : List Tok) → Short (on_comment a b ts) (length ts)
comment_short a b ts = not_back 1 (omega arith) (on_comment_costs a b ts)

pub value_close_short : (bracket : Bracket) (ts : List Tok) → Short (ignore_to_value_close bracket ts) (length ts)
value_close_short bracket ts = not_back 0 (omega arith) (ignore_to_value_close_costs bracket ts)

pub scalar_short : (k : Kind) (a b : ℕ) (ts : List Tok) → Short (on_scalar k a b ts) (length ts)
scalar_short k a b ts = not_back 1 (omega arith) (on_scalar_costs k a b ts)

-- what a bracket holds
pub open_short : (levels : ℕ) (bracket : Bracket) (a b : ℕ) (ts : List Tok) → Short (on_open levels bracket a b ts) (length ts)
open_short levels bracket a b ts = not_back 2 (omega arith) (on_open_costs levels bracket a b ts)

-- keys; a dot at the front is read
pub dots_short : (ts : List Tok) → Short (opt_dot_keys ts) (length ts)
dots_short ts = not_back 0 (omega arith) (opt_dot_keys_costs ts)

pub dot_short : (k : Kind) (a b : ℕ) (ts : List Tok) → in_key k ≡ InKey.Dot → Short (opt_dot_keys (tok k a b ∷ ts)) (length ts)
dot_short k a b ts e = not_back 2 (omega arith) (dotted_costs k a b ts e)

-- tables and expressions; the token that begins one is not among ts
pub table_short : (a b : ℕ) (ts : List Tok) → Short (on_table a b ts) (length ts)
table_short a b ts = not_back 2 (omega arith) (on_table_costs a b ts)

pub equals_short : (levels a b : ℕ) (ts : List Tok) → Short (on_expression_key_val_sep levels a b ts) (length ts)
equals_short levels a b ts = not_back 2 (omega arith) (key_val_sep_costs levels a b ts)

pub key_expression_short : (levels : ℕ) (ts : List Tok) → Short (expression message.key_with_no_value levels ts) (length ts)
key_expression_short levels ts = not_back 0 (omega arith) (expression_costs message.key_with_no_value levels 0 ts ts (opt_dot_keys_costs ts))

pub dot_expression_short : (levels a b : ℕ) (ts : List Tok) → Short (expression message.missing_value_for_key levels (tok Dot a b ∷ ts)) (length ts)
dot_expression_short levels a b ts = not_back 2 (omega arith) (expression_costs message.missing_value_for_key levels 2 ts (tok Dot a b ∷ ts) (dotted_costs Dot a b ts refl))
