-- A test's answer that is true exactly when a statement holds. Proved; nothing here needs to be believed.
use mathlib.Core.Path.{◌≡◌, refl, sym, ◌∙◌}
use mathlib.Core.Bool.{Bool, true, false, false≢true}
use mathlib.Core.Logic.{◌↔◌}

pub decided_yes : {A : Type 0} → A → (true ≡ true) ↔ A
decided_yes a = (λ e. a, λ x. refl)

pub decided_no : {A : Type 0} → (A → ⊥) → (false ≡ true) ↔ A
decided_no h = (λ e. absurd (false≢true e), λ a. absurd (h a))

-- two tests of the same statement answer alike
pub decided_once : {A : Type 0} (b c : Bool) → (b ≡ true) ↔ A → (c ≡ true) ↔ A → b ≡ c
decided_once true true p q = refl
decided_once true false p q = absurd (false≢true (q.1 (p.0 refl)))
decided_once false true p q = absurd (false≢true (p.1 (q.0 refl)))
decided_once false false p q = refl

-- two statements, the second asked where the first holds
pub decided_both : {A B : Type 0} {b c : Bool} → (b ≡ true) ↔ A → b ≡ true → (c ≡ true) ↔ B → (c ≡ true) ↔ (A × B)
decided_both p e q = (λ t. (p.0 e, q.0 t), λ h. q.1 h.1)

pub decided_neither : {A B : Type 0} {b : Bool} → (b ≡ true) ↔ A → b ≡ false → (false ≡ true) ↔ (A × B)
decided_neither p e = decided_no (λ h. false≢true (sym e ∙ p.1 h.0))
