-- What a walk promises that may be refused one more level: it stops just behind that level's bracket. Assumes nothing.
use Rattle.std.specs.Prelude.{ℕ, suc, ◌≤◌, ◌≡◌, Bool, true, false, Result, Ok, Err, List, length}
use Rattle.token.specs.Tokens.{all_tokens, tokens_at, Good}
use Rattle.token.specs.declared.cursor.Cursor.{Cursor}
use Rattle.rules.specs.Out.{Out}
use Rattle.output.specs.declared.emitting.Counts.{Counts}
use Rattle.output.specs.Pour.{Bufs, bufs, refused, pour}
use Rattle.output.specs.declared.emitting.Walk.{Walk}
use Rattle.nest.specs.declared.nest.TooDeep.{TooDeep}

-- what a walk answers that may be refused one more level
abbrev pub NestWalk : Type 0
NestWalk = Result Walk TooDeep

-- where it ended, or was refused; and which of the two
abbrev pub walk_of : NestWalk → Walk
walk_of (Ok w) = w
walk_of (Err e) = e.walk

abbrev pub is_stopped : NestWalk → Bool
is_stopped (Ok w) = false
is_stopped (Err e) = true

-- the buffers of a walk that may have been refused
abbrev pub out_of : Bool → List ℕ → List ℕ → List ℕ → Counts → Cursor → Bufs
out_of false s a b n c = bufs a b n
out_of true s a b n c = refused a b n (suc (length (tokens_at s c)))

-- a walk by the rule's answer r from cursor c and buffers o; the tokens left are the rule's unless it was refused
pub record Nested (s : List ℕ) (r : Out) (c : Cursor) (o : Bufs) (a b : List ℕ) (v : NestWalk) : Type 0 where
  pub wrote : (base : ℕ) → c.base ≡ base → out_of (is_stopped v) s a b (walk_of v).n (walk_of v).cur ≡ pour (all_tokens s base) r.items o
  pub rest : is_stopped v ≡ false → tokens_at s (walk_of v).cur ≡ r.rest
  pub good : Good s (walk_of v).cur
  pub on : c.at ≤ (walk_of v).cur.at
  pub base : (walk_of v).cur.base ≡ c.base
