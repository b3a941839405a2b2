-- What a turn of the document loop promises. Assumes nothing.
use Rattle.std.specs.Prelude.{◌≡◌, Bool, true, false, Ok, Err, List, ℕ, ◌+◌, ◌≤◌}
use Rattle.std.specs.declared.ops.ControlFlow.{ControlFlow}
use Rattle.std.specs.declared.ops.ControlFlow.TheVariants.{Continue, Break}
use Rattle.token.specs.Tokens.{Tok}
use Rattle.token.specs.declared.cursor.Cursor.{Cursor}
use Rattle.rules.specs.Out.{Out, ◌then◌}
use Rattle.output.specs.Pour.{Bufs}
use Rattle.output.specs.declared.emitting.Walk.{Walk}
use Rattle.nest.specs.Nested.{NestWalk, walk_of, Nested}

-- where a turn of the loop ended
abbrev pub DocumentTurn : Type 0
DocumentTurn = ControlFlow NestWalk Walk

abbrev pub walk : DocumentTurn → NestWalk
walk (Continue w) = Ok w
walk (Break v) = v

-- it was the last, which one is not in which a level was refused
abbrev pub over : DocumentTurn → Bool
over (Continue w) = false
over (Break (Ok w)) = true
over (Break (Err e)) = false

-- one that goes on, unless a level was refused in it
abbrev pub turn_of : NestWalk → DocumentTurn
turn_of (Ok w) = Continue w
turn_of (Err e) = Break (Err e)

-- a turn by the rule, told what the loop goes on to do: a walk by some answer g, after which the loop goes on unless it is over
pub record Stepped (s : List ℕ) (rule : (Unit {0} → List Tok → Out) → Out) (c : Cursor) (o : Bufs) (a b : List ℕ) (d : DocumentTurn) : Type 0 where
  pub g : Out
  pub walked : Nested s g c o a b (walk d)
  pub goes_on : over d ≡ false → (loop : Unit {0} → List Tok → Out) → rule loop ≡ (g then loop tt)
  pub ends : over d ≡ true → (loop : Unit {0} → List Tok → Out) → rule loop ≡ g
  pub further : over d ≡ false → c.at + 1 ≤ (walk_of (walk d)).cur.at
