-- Turns in arrays, a token at a time. Assumes nothing.
use mathlib.Core.Path.{◌≡◌, refl, ap, sym, subst, ◌∙◌}
use mathlib.Core.Bool.{Bool, true, false}
use mathlib.Core.List.{List}
use Prim.Native.Nat.{ℕ}
use Rattle.token.specs.KindLaws.{every_kind}
use Rattle.token.specs.Tokens.{Tok, tokens_at, Took}
use Rattle.token.specs.declared.kind.Kind.{Kind}
use Rattle.token.specs.declared.cursor.Token.{Token}
use Rattle.token.specs.declared.cursor.Cursor.{Cursor}
use Rattle.rules.specs.declared.array.InArray.{InArray}
use Rattle.rules.specs.declared.array.ArrayState.{ArrayState}
use Rattle.rules.specs.Out.{Place, Out, ◌▸◌}
use Rattle.rules.specs.Scalar.{starting_of}
use Rattle.rules.specs.Array.{Nest, in_array, array_step, array_turn, array_comma}
use Rattle.output.specs.Pour.{Bufs}
use Rattle.output.specs.Walks.{run}
use Rattle.output.specs.WalkLaws.{at_token}
use Rattle.scalars.specs.ScalarWalks.{Starts}
use Rattle.scalars.specs.StartLaws.{ScalarsStart, class_starts}
use Rattle.array_parts.specs.declared.turn.StateTurn.{StateTurn}
use Rattle.array_parts.specs.declared.turn.Turn.{Turn}
use Rattle.array_parts.specs.Turning.{Turned, Wants, comma_items}

-- arrays: the token that was read, by what its kind is to an array
module _ (s : List ℕ) (c d : Cursor) (t : Token) (k : Took s c t d) (x y : InArray) (p : x ≡ in_array t.kind) (q : x ≡ y) (all : List Tok) (o : Bufs) (head : Place) (nest : Nest) (loop : ArrayState → List Tok → Out) where
  pub array_at : (st : ArrayState) → run all (array_turn head nest loop st (tokens_at s c)) o ≡ run all (array_step y t.kind head nest loop st t.start t.end (tokens_at s d)) o
  array_at st = at_token all o s c d t (array_turn head nest loop st) in_array (λ z. array_step z t.kind head nest loop st t.start t.end (tokens_at s d)) x y k refl p q

  -- a comma
  pub comma_at : (st : ArrayState) → y ≡ InArray.Comma → run all (array_turn head nest loop st (tokens_at s c)) o ≡ run all (comma_items head st t.start t.end ▸ loop ArrayState.NeedsValue (tokens_at s d)) o
  comma_at st e =
      array_at st
      ∙ ap (λ (z : InArray). run all (array_step z t.kind head nest loop st t.start t.end (tokens_at s d)) o) e
      ∙ ap (λ (r : Out). run all r o) (comma_by st)
    where
      comma_by : (z : ArrayState) → array_comma z head loop t.start t.end (tokens_at s d) ≡ (comma_items head z t.start t.end ▸ loop ArrayState.NeedsValue (tokens_at s d))
      comma_by ArrayState.NeedsValue = refl
      comma_by ArrayState.NeedsComma = refl

-- a kind that an array takes for a scalar starts one
abbrev is_scalar : InArray → Bool
is_scalar InArray.Whitespace = false
is_scalar InArray.Comment = false
is_scalar InArray.Newline = false
is_scalar InArray.Eof = false
is_scalar InArray.Comma = false
is_scalar InArray.Equals = false
is_scalar InArray.OpenCurly = false
is_scalar InArray.CloseCurly = false
is_scalar InArray.OpenSquare = false
is_scalar InArray.CloseSquare = false
is_scalar InArray.Scalar = true

pub array_starts : (k : Kind) (x : InArray) → x ≡ in_array k → x ≡ InArray.Scalar → Starts (starting_of k)
array_starts = class_starts in_array is_scalar InArray.Scalar refl (every_kind (ScalarsStart in_array is_scalar) tt tt tt tt tt tt tt tt tt tt tt tt tt tt tt tt)

-- an answer that is made by a function
module _ {s : List ℕ} {c : Cursor} {o : Bufs} {a b : List ℕ} where
  pub array_as : {rule : Nest → (ArrayState → List Tok → Out) → Out} {r : StateTurn ArrayState} {t : Turn} {w : ArrayState} → r ≡ record { turn = t; state = w } → Turned ArrayState s rule c o a b t.cur t.n w t.next → Wants t.next w
      → Turned ArrayState s rule c o a b r.turn.cur r.turn.n r.state r.turn.next × Wants r.turn.next r.state
  array_as {rule} e x y = subst (λ (z : StateTurn ArrayState). Turned ArrayState s rule c o a b z.turn.cur z.turn.n z.state z.turn.next × Wants z.turn.next z.state) (sym e) (x, y)
