-- The parts of a key in an inline table. Assumes nothing.
use mathlib.Core.Path.{◌≡◌, ap, ◌∙◌}
use mathlib.Core.List.{List}
use Prim.Native.Nat.{ℕ}
use Rattle.token.specs.Tokens.{Tok}
use Rattle.rules.specs.declared.event.Encoding.{Encoding}
use Rattle.rules.specs.declared.event.Event.{Event}
use Rattle.rules.specs.Out.{event}
use Rattle.output.specs.Pour.{Bufs, put}

-- a key of the token's encoding
pub key_put : (all : List Tok) (e e' : Encoding) (a b : ℕ) (o o₁ : Bufs) → o₁ ≡ put all (event (Event.SimpleKey e) a b) o → e ≡ e' → o₁ ≡ put all (event (Event.SimpleKey e') a b) o
key_put all e e' a b o o₁ p q = p ∙ ap (λ (z : Encoding). put all (event (Event.SimpleKey z) a b) o) q
