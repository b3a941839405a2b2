-- What the walks of expressions promise that may begin with a dot or `=`. Assumes nothing.
use Rattle.std.specs.Prelude.{◌≡◌, true, List, ℕ, ◌+◌, ◌≤◌}
use Rattle.token.specs.Tokens.{tokens_at, starts_with}
use Rattle.token.specs.declared.kind.Kind.TheVariants.{Dot, Equals}
use Rattle.token.specs.declared.cursor.Cursor.{Cursor}
use Rattle.rules.specs.Out.{Out}
use Rattle.output.specs.Pour.{Bufs}
use Rattle.nest.specs.Nested.{NestWalk, walk_of, Nested}

-- a walk by the rule's answer r that goes past a dot or `=` with which its tokens begin
pub record Expressed (s : List ℕ) (r : Out) (c : Cursor) (o : Bufs) (a b : List ℕ) (v : NestWalk) : Type 0 where
  pub nested : Nested s r c o a b v
  pub dotted : starts_with Dot (tokens_at s c) ≡ true → c.at + 1 ≤ (walk_of v).cur.at
  pub equalled : starts_with Equals (tokens_at s c) ≡ true → c.at + 1 ≤ (walk_of v).cur.at
