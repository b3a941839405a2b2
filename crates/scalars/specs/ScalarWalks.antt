-- What the walk over a scalar promises and asks. Assumes nothing.
use Rattle.std.specs.Prelude.{◌≡◌, List, ℕ, ◌≤◌}
use Rattle.token.specs.Tokens.{Tok, tokens_at, Good}
use Rattle.token.specs.declared.cursor.Cursor.{Cursor}
use Rattle.rules.specs.declared.event.Encoding.{Encoding}
use Rattle.rules.specs.declared.scalar.Starting.{Starting}
use Rattle.rules.specs.Out.{Out, done, ◌▹◌}
use Rattle.rules.specs.Receiver as receiver
use Rattle.rules.specs.Scalar.{unquoted, on_scalar}
use Rattle.token.specs.declared.cursor.Token.{Token}
use Rattle.scalars.specs.declared.scalar.Reach.{Reach}
use Rattle.scalars.specs.declared.scalar.Extent.{Extent}

-- a kind that can start a scalar
abbrev pub Starts : Starting → Type 0
Starts (Starting.Quoted e) = Unit {0}
Starts Starting.Unquoted = Unit {0}
Starts Starting.Never = ⊥

-- the scalar over a..b, before the tokens that are left
abbrev pub scalar_over : ℕ → ℕ → List Tok → Out
scalar_over a b ts = receiver.scalar Encoding.None a b ▹ done ts

-- wherever the scalar began, it goes from c, where it reaches to e, as far as r says
pub record Reached (s : List ℕ) (c : Cursor) (e : ℕ) (r : Reach) : Type 0 where
  pub is : (a : ℕ) → unquoted (tokens_at s c) a e ≡ scalar_over a r.end (tokens_at s r.cur)
  pub good : Good s r.cur
  pub on : c.at ≤ r.cur.at
  pub base : r.cur.base ≡ c.base

-- the scalar that starts with t, read just before c, is one event, as r says
pub record Extends (s : List ℕ) (t : Token) (c : Cursor) (r : Extent) : Type 0 where
  pub is : on_scalar t.kind t.start t.end (tokens_at s c) ≡ (receiver.scalar r.encoding t.start r.end ▹ done (tokens_at s r.cur))
  pub good : Good s r.cur
  pub on : c.at ≤ r.cur.at
  pub base : r.cur.base ≡ c.base
