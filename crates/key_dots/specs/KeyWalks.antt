-- What the walks over keys promise, which also say whether the key was valid. Assumes nothing.
use Rattle.std.specs.Prelude.{◌≡◌, Bool, List, ℕ}
use Rattle.token.specs.Tokens.{Good, Took}
use Rattle.token.specs.declared.kind.Kind.TheVariants.{Dot}
use Rattle.token.specs.declared.cursor.Token.{Token}
use Rattle.token.specs.declared.cursor.Cursor.{Cursor}
use Rattle.rules.specs.Out.{Out}
use Rattle.output.specs.declared.emitting.Walk.{Walk}
use Rattle.key_dots.specs.declared.dots.KeyWalk.{KeyWalk}
use Rattle.output.specs.Pour.{Bufs}
use Rattle.output.specs.Walks.{Goes}

abbrev pub walk_of : KeyWalk → Walk
walk_of w = record { cur = w.cur; n = w.n }

-- a walk by the rule's answer r, and the rule's word on whether the key is valid
pub record Keyed (s : List ℕ) (r : Out) (ok : Bool) (c : Cursor) (o : Bufs) (a b : List ℕ) (w : KeyWalk) : Type 0 where
  pub goes : Goes s r c o a b (walk_of w)
  pub valid : w.valid ≡ ok

-- the dot t was read just before the cursor c
pub record ReadDot (s : List ℕ) (t : Token) (c : Cursor) : Type 0 where
  pub from : Cursor
  pub good : Good s from
  pub took : Took s from t c
  pub dot : t.kind ≡ Dot
