-- The costs of values, of tables and of expressions. Proved; nothing here needs to be believed.
use Rattle.std.specs.Prelude.{Bool, true, false, List, [], ◌∷◌, ℕ, ◌+◌, eqb}
use Rattle.std.proofs.Common.{arith}
use Rattle.token.specs.declared.kind.Kind.{Kind}
use Rattle.token.specs.declared.kind.Kind.TheVariants.{Equals, LeftSquareBracket, RightSquareBracket}
use Rattle.token.specs.Kinds.{number_of}
use Rattle.token.specs.Tokens.{Tok, tok}
use Rattle.rules.specs.declared.skipping.Bracket.{Bracket}
use Rattle.rules.specs.declared.value.InValue.{InValue}
use Rattle.rules.specs.Out.{span, after, report, Out, done, ◌▹◌, ◌then◌}
use Rattle.rules.specs.Messages as message
use Rattle.rules.specs.Expected as expected
use Rattle.rules.specs.Receiver as receiver
use Rattle.rules.specs.Skipping.{ignore_to_newline, ws_comment_newline}
use Rattle.rules.specs.Keys.{opt_whitespace, opt_dot_keys, key_valid}
use Rattle.rules.specs.Scalar.{on_scalar}
use Rattle.rules.specs.Nest.{on_open}
use Rattle.rules.specs.Value.{in_value, value_step, value}
use Rattle.rules.specs.Table.{next_by, next_token_if, unclosed, closed, header, on_table}
use Rattle.rules.specs.Document.{on_expression_key_val_sep, no_equals, expression}
use Rattle.rules.specs.Costs.{Costs, then_costs}
use Rattle.bounds.specs.LineCosts.{ignore_to_newline_costs, ws_comment_newline_costs}
use Rattle.rules.proofs.KeyCosts.{opt_whitespace_costs, key_costs}
use Rattle.bounds.specs.ScalarCosts.{on_scalar_costs}
use Rattle.bounds.specs.NestCosts.{on_open_costs}

-- a value: an empty one before a token that is left, or the report at the end of the list
module _ (levels : ℕ) (k : Kind) (a b : ℕ) (ts : List Tok) where
  value_step_costs : (c : InValue) (again : Out) → Costs ts 1 1 again → Costs (tok k a b ∷ ts) 1 1 (value_step c levels k a b ts (done (tok k a b ∷ ts)) again)
  value_step_costs InValue.Nothing again p = omega arith
  value_step_costs InValue.Equals again p = omega arith
  value_step_costs InValue.OpenCurly again p = let q : Costs ts 2 1 (on_open levels Bracket.Curly a b ts) = on_open_costs levels Bracket.Curly a b ts in omega arith
  value_step_costs InValue.CloseCurly again p = omega arith
  value_step_costs InValue.OpenSquare again p = let q : Costs ts 2 1 (on_open levels Bracket.Square a b ts) = on_open_costs levels Bracket.Square a b ts in omega arith
  value_step_costs InValue.CloseSquare again p = omega arith
  value_step_costs InValue.Scalar again p = let q : Costs ts 1 0 (on_scalar k a b ts) = on_scalar_costs k a b ts in omega arith

pub value_costs : (levels : ℕ) (ts : List Tok) → Costs ts 1 1 (value levels ts)
value_costs levels [] = omega arith
value_costs levels (tok k a b ∷ ts) = value_step_costs levels k a b ts (in_value k) (value levels ts) (value_costs levels ts)

-- a token of a kind if it is there: `got` is paid for by the token
next_by_costs : (t : Bool) (got : ℕ → ℕ → List Tok → Out) (missing : List Tok → Out) (k : Kind) (a b : ℕ) (ts : List Tok) (e r : ℕ)
    → ((c d : ℕ) (us : List Tok) → Costs us (3 + e) (2 + r) (got c d us)) → ((us : List Tok) → Costs us e r (missing us)) → Costs (tok k a b ∷ ts) e r (next_by t got missing k a b ts)
next_by_costs true got missing k a b ts e r p q = let h : Costs ts (3 + e) (2 + r) (got a b ts) = p a b ts in omega arith
next_by_costs false got missing k a b ts e r p q = q (tok k a b ∷ ts)

next_token_costs : (kind : Kind) (got : ℕ → ℕ → List Tok → Out) (missing : List Tok → Out) (e r : ℕ)
    → ((c d : ℕ) (us : List Tok) → Costs us (3 + e) (2 + r) (got c d us)) → ((us : List Tok) → Costs us e r (missing us)) → (ts : List Tok) → Costs ts e r (next_token_if kind got missing ts)
next_token_costs kind got missing e r p q [] = q []
next_token_costs kind got missing e r p q (tok k a b ∷ ts) = next_by_costs (eqb (number_of k) (number_of kind)) got missing k a b ts e r p q

-- tables
unclosed_costs : (array valid : Bool) (a b : ℕ) (ts : List Tok) → Costs ts 0 1 (unclosed array valid a b ts)
unclosed_costs array false a b ts = let p : Costs ts 0 0 (ignore_to_newline ts) = ignore_to_newline_costs ts in omega arith
unclosed_costs true true a b ts = let p : Costs ts 0 0 (ignore_to_newline ts) = ignore_to_newline_costs ts in omega arith
unclosed_costs false true a b ts = let p : Costs ts 0 0 (ignore_to_newline ts) = ignore_to_newline_costs ts in omega arith

closed_costs : (array : Bool) (a c d : ℕ) (ts : List Tok) → Costs ts 3 3 (closed array a c d ts)
closed_costs false a c d ts = let p : Costs ts 0 0 (ws_comment_newline ts) = ws_comment_newline_costs ts in omega arith
closed_costs true a c d ts =
    next_token_costs RightSquareBracket (λ e f us. receiver.array_table_close c f ▹ ws_comment_newline us)
    (λ us. report message.unclosed_array_table expected.close_square (span a d) (after c d) ▹ ignore_to_newline us) 3 3
    (λ e f us. let p : Costs us 0 0 (ws_comment_newline us) = ws_comment_newline_costs us in omega arith)
    (λ us. let p : Costs us 0 0 (ignore_to_newline us) = ignore_to_newline_costs us in omega arith)
    ts

header_costs : (array : Bool) (a b : ℕ) (ts : List Tok) → Costs ts 1 2 (header array a b ts)
header_costs array a b ts =
    then_costs _ 1 2 (opt_whitespace_costs ts)
    (λ us. then_costs _ 0 1 (then_costs opt_whitespace 0 0 (key_costs message.invalid_table us) opt_whitespace_costs)
    (next_token_costs RightSquareBracket (closed array a) (unclosed array (key_valid us) a b) 0 1 (closed_costs array a) (unclosed_costs array (key_valid us) a b)))

-- the table's first bracket is not among ts
pub on_table_costs : (a b : ℕ) (ts : List Tok) → Costs ts 2 2 (on_table a b ts)
on_table_costs a b ts =
    next_token_costs LeftSquareBracket (λ c d us. receiver.array_table_open a d ▹ header true a b us)
    (λ us. receiver.std_table_open a b ▹ header false a b us) 2 2
    (λ c d us. let p : Costs us 1 2 (header true a b us) = header_costs true a b us in omega arith)
    (λ us. let p : Costs us 1 2 (header false a b us) = header_costs false a b us in omega arith)
    ts

-- expressions; the token that begins one is not among ts
pub key_val_sep_costs : (levels a b : ℕ) (ts : List Tok) → Costs ts 2 1 (on_expression_key_val_sep levels a b ts)
key_val_sep_costs levels a b ts =
    let p : Costs ts 1 1 (opt_whitespace ts then value levels then ws_comment_newline) =
    then_costs ws_comment_newline 0 0 (then_costs (value levels) 1 1 (opt_whitespace_costs ts) (value_costs levels)) ws_comment_newline_costs in
    omega arith

no_equals_costs : (m : ℕ) (ts : List Tok) → Costs ts 0 1 (no_equals m ts)
no_equals_costs m [] = omega arith
no_equals_costs m (tok k a b ∷ ts) = let p : Costs (tok k a b ∷ ts) 0 0 (ignore_to_newline (tok k a b ∷ ts)) = ignore_to_newline_costs (tok k a b ∷ ts) in omega arith

-- behind what the dots cost
pub expression_costs : (m levels e : ℕ) (ts us : List Tok) → Costs ts e 0 (opt_dot_keys us) → Costs ts (e + 0 + 0) 1 (expression m levels us)
expression_costs m levels e ts us p =
    then_costs _ 0 1 (then_costs opt_whitespace 0 0 p opt_whitespace_costs)
    (next_token_costs Equals (on_expression_key_val_sep levels) (no_equals m) 0 1
    (λ c d vs. let q : Costs vs 2 1 (on_expression_key_val_sep levels c d vs) = key_val_sep_costs levels c d vs in omega arith)
    (no_equals_costs m))
