-- What the arm tells that takes the starts of keys, and the end. Assumes nothing.
use mathlib.Core.Path.{◌≡◌, refl}
use mathlib.Core.List.{List, [], ◌∷◌}
use Prim.Native.Nat.{ℕ}
use denote.Enum.Declared.{tag_of}
use types.Run.{OneOf, miss}
use Rattle.token.specs.Tokens.{Tok}
use Rattle.rules.specs.declared.document.InDocument.{InDocument}
use Rattle.rules.specs.contracts.document.InDocument as in-document
use Rattle.rules.specs.Out.{done}
use Rattle.keyless_turns.specs.Keyless.{keyless}

abbrev Rest : List ℕ
Rest = 2 ∷ 3 ∷ 4 ∷ 9 ∷ []

pub rest : (x : InDocument) (a b : ℕ) (ts : List Tok) → OneOf Rest (tag_of in-document.the_type x) → done ts ≡ keyless x a b ts
rest InDocument.OpenSquare a b ts w = absurd (miss Rest 0 tt w)
rest InDocument.CloseSquare a b ts w = absurd (miss Rest 1 tt w)
rest (InDocument.Key e) a b ts w = refl
rest InDocument.Equals a b ts w = refl
rest InDocument.Dot a b ts w = refl
rest InDocument.Stray a b ts w = absurd (miss Rest 5 tt w)
rest InDocument.Whitespace a b ts w = absurd (miss Rest 6 tt w)
rest InDocument.Newline a b ts w = absurd (miss Rest 7 tt w)
rest InDocument.Comment a b ts w = absurd (miss Rest 8 tt w)
rest InDocument.Eof a b ts w = refl
