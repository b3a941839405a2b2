-- Keys and scalars, more closely: two events a token of a key at most, and one of a scalar. Proved; nothing here needs to be believed.
use Rattle.std.specs.Prelude.{Bool, true, false, List, [], ◌∷◌, ℕ, ◌+◌, ◌*◌, ◌≤◌, length}
use Rattle.std.proofs.Common.{arith}
use Rattle.token.specs.declared.kind.Kind.{Kind}
use Rattle.token.specs.Tokens.{Tok, tok}
use Rattle.rules.specs.declared.skipping.InLine.{InLine}
use Rattle.rules.specs.declared.keys.InKey.{InKey}
use Rattle.rules.specs.declared.scalar.Starting.{Starting}
use Rattle.rules.specs.declared.scalar.InScalar.{InScalar}
use Rattle.rules.specs.Out.{Out, done}
use Rattle.rules.specs.Costs.{event_count, error_count, not_back}
use Rattle.rules.specs.Skipping.{in_line}
use Rattle.rules.specs.Keys.{in_key, whitespace_step, opt_whitespace, after_part_step, dot_step, part_step, opt_dot_keys, dot_keys, after_dot, part_valid, opt_dot_keys_valid, key, key_valid}
use Rattle.rules.specs.Scalar.{starting_of, in_scalar, unquoted_step, space_step, unquoted, behind_space, scalar_by, on_scalar}
use Rattle.bounds.specs.LineRates.{some, some_few}
use Rattle.bounds.specs.ScalarCosts.{on_scalar_costs}

-- each token that was taken pays for two events, and e come besides; r reports
pub record Twos (ts : List Tok) (e r : ℕ) (o : Out) : Type 0 where
  pub events : event_count o.items + 2 * length o.rest ≤ 2 * length ts + e
  pub errors : error_count o.items ≤ r

module _ (k : Kind) (a b : ℕ) (ts : List Tok) where
  whitespace_step_twos : (l : InLine) → Twos (tok k a b ∷ ts) 0 0 (whitespace_step l a b ts (done (tok k a b ∷ ts)))
  whitespace_step_twos InLine.Other = omega arith
  whitespace_step_twos InLine.Comment = omega arith
  whitespace_step_twos InLine.Whitespace = omega arith
  whitespace_step_twos InLine.Newline = omega arith
  whitespace_step_twos InLine.Eof = omega arith

  after_part_twos : (c : InKey) (dots part : Out) → Twos ts 0 0 dots → Twos ts 1 0 part → Twos (tok k a b ∷ ts) 0 0 (after_part_step c a b (done (tok k a b ∷ ts)) dots part)
  after_part_twos (InKey.Part e) dots part p q = omega arith
  after_part_twos InKey.Whitespace dots part p q = omega arith
  after_part_twos InKey.Dot dots part p q = omega arith
  after_part_twos InKey.Other dots part p q = omega arith

  dot_step_twos : (c : InKey) (part : Out) → Twos ts 1 0 part → Twos (tok k a b ∷ ts) 0 0 (dot_step c a b (done (tok k a b ∷ ts)) part)
  dot_step_twos (InKey.Part e) part q = omega arith
  dot_step_twos InKey.Whitespace part q = omega arith
  dot_step_twos InKey.Dot part q = omega arith
  dot_step_twos InKey.Other part q = omega arith

  part_step_twos : (c : InKey) (r : ℕ) (part on : Out) → Twos ts 1 r part → Twos ts 0 0 on → Twos (tok k a b ∷ ts) 1 r (part_step c a b (done (tok k a b ∷ ts)) part on)
  part_step_twos (InKey.Part e) r part on p q = omega arith
  part_step_twos InKey.Whitespace r part on p q = omega arith
  part_step_twos InKey.Dot r part on p q = omega arith
  part_step_twos InKey.Other r part on p q = omega arith

pub opt_whitespace_twos : (ts : List Tok) → Twos ts 0 0 (opt_whitespace ts)
opt_whitespace_twos [] = omega arith
opt_whitespace_twos (tok k a b ∷ ts) = whitespace_step_twos k a b ts (in_line k)

mutual
  pub opt_dot_keys_twos : (ts : List Tok) → Twos ts 0 0 (opt_dot_keys ts)
  opt_dot_keys_twos [] = omega arith
  opt_dot_keys_twos (tok k a b ∷ ts) = after_part_twos k a b ts (in_key k) (dot_keys ts) (after_dot ts b) (dot_keys_twos ts) (after_dot_twos ts b)

  dot_keys_twos : (ts : List Tok) → Twos ts 0 0 (dot_keys ts)
  dot_keys_twos [] = omega arith
  dot_keys_twos (tok k a b ∷ ts) = dot_step_twos k a b ts (in_key k) (after_dot ts b) (after_dot_twos ts b)

  pub after_dot_twos : (ts : List Tok) (d : ℕ) → Twos ts 1 0 (after_dot ts d)
  after_dot_twos [] d = omega arith
  after_dot_twos (tok k a b ∷ ts) d = part_step_twos k a b ts (in_key k) 0 (after_dot ts d) (opt_dot_keys ts) (after_dot_twos ts d) (opt_dot_keys_twos ts)

pub key_twos : (m : ℕ) (ts : List Tok) → Twos ts 1 1 (key m ts)
key_twos m [] = omega arith
key_twos m (tok k a b ∷ ts) = part_step_twos k a b ts (in_key k) 1 (key m ts) (opt_dot_keys ts) (key_twos m ts) (opt_dot_keys_twos ts)

-- a key that is reported is not valid, and has read all tokens
abbrev pub one : Bool → ℕ
one true = 1
one false = 0

one_few : (b : Bool) → one b ≤ 1
one_few true = omega arith
one_few false = omega arith

pub record Told (o : Out) (b : Bool) : Type 0 where
  pub left : error_count o.items + some o.rest ≤ 1
  pub valid : error_count o.items + one b ≤ 1

part_step_told : (k : Kind) (a b : ℕ) (ts : List Tok) (c : InKey) (part on : Out) (again valid : Bool) → Told part again → Twos ts 0 0 on → Told (part_step c a b (done (tok k a b ∷ ts)) part on) (part_valid c again valid)
part_step_told k a b ts (InKey.Part e) part on again valid p q = record { left = omega (arith, q.errors, (some_few on.rest).0); valid = omega (arith, q.errors, one_few valid) }
part_step_told k a b ts InKey.Whitespace part on again valid p q = record { left = p.left; valid = p.valid }
part_step_told k a b ts InKey.Dot part on again valid p q = record { left = p.left; valid = p.valid }
part_step_told k a b ts InKey.Other part on again valid p q = record { left = omega arith; valid = omega arith }

pub key_told : (m : ℕ) (ts : List Tok) → Told (key m ts) (key_valid ts)
key_told m [] = record { left = omega arith; valid = omega arith }
key_told m (tok k a b ∷ ts) = part_step_told k a b ts (in_key k) (key m ts) (opt_dot_keys ts) (key_valid ts) (opt_dot_keys_valid ts) (key_told m ts) (opt_dot_keys_twos ts)

-- an entry's key, and then an event for each token that is left
part_step_leaves : (k : Kind) (a b : ℕ) (ts : List Tok) (c : InKey) (part on : Out) → event_count part.items + length part.rest ≤ 2 * length ts → Twos ts 0 0 on → event_count (part_step c a b (done (tok k a b ∷ ts)) part on).items + length (part_step c a b (done (tok k a b ∷ ts)) part on).rest ≤ 2 * length (tok k a b ∷ ts)
part_step_leaves k a b ts (InKey.Part e) part on p q = omega (arith, q.events)
part_step_leaves k a b ts InKey.Whitespace part on p q = omega arith
part_step_leaves k a b ts InKey.Dot part on p q = omega arith
part_step_leaves k a b ts InKey.Other part on p q = omega arith

pub key_leaves : (m : ℕ) (ts : List Tok) → event_count (key m ts).items + length (key m ts).rest ≤ 2 * length ts
key_leaves m [] = omega arith
key_leaves m (tok k a b ∷ ts) = part_step_leaves k a b ts (in_key k) (key m ts) (opt_dot_keys ts) (key_leaves m ts) (opt_dot_keys_twos ts)

-- a scalar is one event, and nothing is reported
pub record Single (o : Out) : Type 0 where
  pub events : event_count o.items ≤ 1
  pub errors : error_count o.items ≤ 0

unquoted_step_single : (c : InScalar) (more space here : Out) → Single more → Single space → Single here → Single (unquoted_step c more space here)
unquoted_step_single InScalar.Dot more space here p q r = p
unquoted_step_single InScalar.Atom more space here p q r = p
unquoted_step_single InScalar.Whitespace more space here p q r = q
unquoted_step_single InScalar.Other more space here p q r = r

space_step_single : (c : InScalar) (more here : Out) → Single more → Single here → Single (space_step c more here)
space_step_single InScalar.Dot more here p q = q
space_step_single InScalar.Atom more here p q = p
space_step_single InScalar.Whitespace more here p q = q
space_step_single InScalar.Other more here p q = q

mutual
  unquoted_single : (ts : List Tok) (a b : ℕ) → Single (unquoted ts a b)
  unquoted_single [] a b = omega arith
  unquoted_single (tok k c d ∷ ts) a b = unquoted_step_single (in_scalar k) (unquoted ts a d) (behind_space ts (tok k c d ∷ ts) a b) _ (unquoted_single ts a d) (behind_space_single ts (tok k c d ∷ ts) a b) (omega arith)

  behind_space_single : (ts here : List Tok) (a b : ℕ) → Single (behind_space ts here a b)
  behind_space_single [] here a b = omega arith
  behind_space_single (tok k c d ∷ ts) here a b = space_step_single (in_scalar k) (unquoted ts a d) _ (unquoted_single ts a d) (omega arith)

scalar_by_single : (s : Starting) (a b : ℕ) (ts : List Tok) → Single (scalar_by s a b ts)
scalar_by_single (Starting.Quoted e) a b ts = omega arith
scalar_by_single Starting.Unquoted a b ts = unquoted_single ts a b
scalar_by_single Starting.Never a b ts = omega arith

pub on_scalar_single : (k : Kind) (a b : ℕ) (ts : List Tok) → Single (on_scalar k a b ts)
on_scalar_single k a b ts = scalar_by_single (starting_of k) a b ts

pub on_scalar_left : (k : Kind) (a b : ℕ) (ts : List Tok) → length (on_scalar k a b ts).rest ≤ length ts
on_scalar_left k a b ts = not_back 1 (omega arith) (on_scalar_costs k a b ts)
