-- The last comma of an inline table, by what the state wants. Proved; nothing here needs to be believed.
use mathlib.Core.Path.{◌≡◌, refl}
use mathlib.Core.Bool.{false}
use mathlib.Core.List.{[], ◌∷◌}
use Prim.Native.Nat.{ℕ}
use denote.Enum.Declared.{tag_of}
use types.Run.{OneOf, miss}
use Rattle.rules.specs.declared.inline_table.State.{State}
use Rattle.rules.specs.contracts.inline_table.State as state
use Rattle.rules.specs.Out.{Place, trailing_comma}
use Rattle.rules.specs.InlineTable.{trailing}

-- what the arm tells that takes all states but NeedsComma
abbrev WantsElse : State → Type 0
WantsElse x = OneOf (0 ∷ 1 ∷ 2 ∷ []) (tag_of state.the_type x)

pub blamed : (x : State) (head : Place) (opened a left : ℕ) → WantsElse x → trailing false x head opened a left ≡ trailing_comma head opened left a ∷ []
blamed State.NeedsKey head opened a left w = refl
blamed State.NeedsEquals head opened a left w = refl
blamed State.NeedsValue head opened a left w = refl
blamed State.NeedsComma head opened a left w = absurd (miss (0 ∷ 1 ∷ 2 ∷ []) 3 tt w)
