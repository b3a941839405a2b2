-- Where the arms of a match meet again. Proved; nothing here needs to be believed.
use Rattle.std.specs.Prelude.{◌≡◌}
use Rattle.std.proofs.Common.{sym, subst}

-- what holds of four things holds of their equals: what an arm showed of the values it brought, said of the variables behind the arms
pub met_at : {A B C D : Type 0} (P : A → B → C → D → Type 0) {a a' : A} {b b' : B} {c c' : C} {d d' : D} → a' ≡ a → b' ≡ b → c' ≡ c → d' ≡ d → P a b c d → P a' b' c' d'
met_at {A} {B} {C} {D} P {a} {a'} {b} {b'} {c} {c'} {d} {d'} p q u v x =
    subst (λ (y : A). P y b' c' d') (sym p) (subst (λ (y : B). P a y c' d') (sym q) (subst (λ (y : C). P a b y d') (sym u) (subst (λ (y : D). P a b c y) (sym v) x)))
