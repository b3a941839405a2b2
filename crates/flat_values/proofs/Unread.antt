-- What the arm tells that takes `=` and the opening brackets. Assumes nothing.
use mathlib.Core.Path.{◌≡◌, refl}
use mathlib.Core.List.{List, [], ◌∷◌}
use Prim.Native.Nat.{ℕ}
use denote.Enum.Declared.{tag_of}
use types.Run.{OneOf, miss}
use Rattle.token.specs.declared.kind.Kind.{Kind}
use Rattle.token.specs.Tokens.{Tok}
use Rattle.rules.specs.declared.value.InValue.{InValue}
use Rattle.rules.specs.contracts.value.InValue as in-value
use Rattle.rules.specs.Out.{Out}
use Rattle.flat_values.specs.Flat.{flat_value}

abbrev Rest : List ℕ
Rest = 1 ∷ 2 ∷ 4 ∷ []

pub unread : (x : InValue) (k : Kind) (a b : ℕ) (ts : List Tok) (here : Out) → OneOf Rest (tag_of in-value.the_type x) → here ≡ flat_value x k a b ts here
unread InValue.Nothing k a b ts here w = absurd (miss Rest 0 tt w)
unread InValue.Equals k a b ts here w = refl
unread InValue.OpenCurly k a b ts here w = refl
unread InValue.CloseCurly k a b ts here w = absurd (miss Rest 3 tt w)
unread InValue.OpenSquare k a b ts here w = refl
unread InValue.CloseSquare k a b ts here w = absurd (miss Rest 5 tt w)
unread InValue.Scalar k a b ts here w = absurd (miss Rest 6 tt w)
