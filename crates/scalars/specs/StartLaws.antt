-- A kind that is taken for a scalar starts one. Proved; nothing here needs to be believed.
use Rattle.std.specs.Prelude.{◌≡◌, Bool, true, false}
use Rattle.std.proofs.Common.{ap, sym, subst, ◌∙◌}
use Rattle.token.specs.declared.kind.Kind.{Kind}
use Rattle.rules.specs.declared.scalar.Starting.{Starting}
use Rattle.rules.specs.Scalar.{starting_of}
use Rattle.scalars.specs.ScalarWalks.{Starts}

-- a scalar starts here, if the answer is true
abbrev pub StartsIf : Bool → Starting → Type 0
StartsIf true x = Starts x
StartsIf false x = Unit {0}

-- by a class of kinds that has a case for scalars
module _ {C : Type 0} (class : Kind → C) (is_scalar : C → Bool) where
  abbrev pub ScalarsStart : Kind → Type 0
  ScalarsStart k = StartsIf (is_scalar (class k)) (starting_of k)

  pub class_starts : (scalar : C) → is_scalar scalar ≡ true → ((k : Kind) → ScalarsStart k) → (k : Kind) (x : C) → x ≡ class k → x ≡ scalar → Starts (starting_of k)
  class_starts scalar e each k x p q = subst (λ (b : Bool). StartsIf b (starting_of k)) (ap is_scalar (sym p ∙ q) ∙ e) (each k)
