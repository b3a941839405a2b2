-- A walk after several items, and one item after several. Assumes nothing.
use mathlib.Core.Path.{◌≡◌, ap, sym, ◌∙◌}
use mathlib.Core.List.{List, [], ◌∷◌, ◌++◌}
use Prim.Native.Nat.{ℕ}
use Rattle.token.specs.Tokens.{Tok}
use Rattle.token.specs.declared.cursor.Cursor.{Cursor}
use Rattle.rules.specs.Out.{Item, Out, ◌▸◌}
use Rattle.output.specs.declared.emitting.Walk.{Walk}
use Rattle.output.specs.Pour.{Bufs, put, pour}
use Rattle.output.specs.Walks.{Goes}
use Rattle.output.specs.WalkLaws.{first_items, pour_append}

pub after_items : {s : List ℕ} {r : Out} {c : Cursor} {o₁ : Bufs} {a b : List ℕ} {w : Walk} (is : List Item) (o : Bufs) → ((all : List Tok) → o₁ ≡ pour all is o) → Goes s r c o₁ a b w → Goes s (is ▸ r) c o a b w
after_items {r = r} {o₁ = o₁} is o p g = record { is = λ base q. g.is base q ∙ sym (first_items _ is r o o₁ (p _)); good = g.good; on = g.on; base = g.base }

pub then_item : (all : List Tok) (is : List Item) (i : Item) (o o₁ o₂ : Bufs) → o₁ ≡ pour all is o → o₂ ≡ put all i o₁ → o₂ ≡ pour all (is ++ (i ∷ [])) o
then_item all is i o o₁ o₂ p q = q ∙ ap (put all i) p ∙ sym (pour_append all is (i ∷ []) o)
