-- The costs of keys. Proved; nothing here needs to be believed.
use Rattle.std.specs.Prelude.{List, [], ◌∷◌, ℕ}
use Rattle.std.proofs.Common.{arith}
use Rattle.token.specs.declared.kind.Kind.{Kind}
use Rattle.token.specs.Tokens.{Tok, tok}
use Rattle.rules.specs.declared.skipping.InLine.{InLine}
use Rattle.rules.specs.declared.keys.InKey.{InKey}
use Rattle.rules.specs.Out.{Out, done}
use Rattle.rules.specs.Costs.{Costs, done_costs}
use Rattle.rules.specs.Skipping.{in_line}
use Rattle.rules.specs.Keys.{in_key, whitespace_step, opt_whitespace, after_part_step, dot_step, part_step, opt_dot_keys, dot_keys, after_dot, key}

module _ (k : Kind) (a b : ℕ) (ts : List Tok) where
  whitespace_step_costs : (l : InLine) → Costs (tok k a b ∷ ts) 0 0 (whitespace_step l a b ts (done (tok k a b ∷ ts)))
  whitespace_step_costs InLine.Other = omega arith
  whitespace_step_costs InLine.Comment = omega arith
  whitespace_step_costs InLine.Whitespace = omega arith
  whitespace_step_costs InLine.Newline = omega arith
  whitespace_step_costs InLine.Eof = omega arith

  after_part_costs : (c : InKey) (dots part : Out) → Costs ts 0 0 dots → Costs ts 1 0 part → Costs (tok k a b ∷ ts) 0 0 (after_part_step c a b (done (tok k a b ∷ ts)) dots part)
  after_part_costs (InKey.Part e) dots part p q = omega arith
  after_part_costs InKey.Whitespace dots part p q = omega arith
  after_part_costs InKey.Dot dots part p q = omega arith
  after_part_costs InKey.Other dots part p q = omega arith

  dot_step_costs : (c : InKey) (part : Out) → Costs ts 1 0 part → Costs (tok k a b ∷ ts) 0 0 (dot_step c a b (done (tok k a b ∷ ts)) part)
  dot_step_costs (InKey.Part e) part q = omega arith
  dot_step_costs InKey.Whitespace part q = omega arith
  dot_step_costs InKey.Dot part q = omega arith
  dot_step_costs InKey.Other part q = omega arith

  part_step_costs : (c : InKey) (r : ℕ) (part on : Out) → Costs ts 1 r part → Costs ts 0 0 on → Costs (tok k a b ∷ ts) 1 r (part_step c a b (done (tok k a b ∷ ts)) part on)
  part_step_costs (InKey.Part e) r part on p q = omega arith
  part_step_costs InKey.Whitespace r part on p q = omega arith
  part_step_costs InKey.Dot r part on p q = omega arith
  part_step_costs InKey.Other r part on p q = omega arith

pub opt_whitespace_costs : (ts : List Tok) → Costs ts 0 0 (opt_whitespace ts)
opt_whitespace_costs [] = done_costs [] 0 0
opt_whitespace_costs (tok k a b ∷ ts) = whitespace_step_costs k a b ts (in_line k)

-- after a dot a token that can start no key is left, and has an empty key before it
mutual
  pub opt_dot_keys_costs : (ts : List Tok) → Costs ts 0 0 (opt_dot_keys ts)
  opt_dot_keys_costs [] = done_costs [] 0 0
  opt_dot_keys_costs (tok k a b ∷ ts) = after_part_costs k a b ts (in_key k) (dot_keys ts) (after_dot ts b) (dot_keys_costs ts) (after_dot_costs ts b)

  dot_keys_costs : (ts : List Tok) → Costs ts 0 0 (dot_keys ts)
  dot_keys_costs [] = done_costs [] 0 0
  dot_keys_costs (tok k a b ∷ ts) = dot_step_costs k a b ts (in_key k) (after_dot ts b) (after_dot_costs ts b)

  pub after_dot_costs : (ts : List Tok) (d : ℕ) → Costs ts 1 0 (after_dot ts d)
  after_dot_costs [] d = omega arith
  after_dot_costs (tok k a b ∷ ts) d = part_step_costs k a b ts (in_key k) 0 (after_dot ts d) (opt_dot_keys ts) (after_dot_costs ts d) (opt_dot_keys_costs ts)

pub key_costs : (m : ℕ) (ts : List Tok) → Costs ts 1 1 (key m ts)
key_costs m [] = omega arith
key_costs m (tok k a b ∷ ts) = part_step_costs k a b ts (in_key k) 1 (key m ts) (opt_dot_keys ts) (key_costs m ts) (opt_dot_keys_costs ts)
