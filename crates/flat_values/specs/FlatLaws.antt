-- Laws of values that open no bracket. Proved; nothing here needs to be believed.
use Rattle.std.specs.Prelude.{◌≡◌, refl, Bool, true, false}
use Rattle.token.specs.KindLaws.{every_kind}
use Rattle.token.specs.declared.kind.Kind.{Kind}
use Rattle.rules.specs.declared.value.InValue.{InValue}
use Rattle.rules.specs.Scalar.{starting_of}
use Rattle.rules.specs.Value.{in_value}
use Rattle.scalars.specs.ScalarWalks.{Starts}
use Rattle.scalars.specs.StartLaws.{ScalarsStart, class_starts}

-- a kind that is taken for a scalar starts one
abbrev is_scalar : InValue → Bool
is_scalar InValue.Nothing = false
is_scalar InValue.Equals = false
is_scalar InValue.OpenCurly = false
is_scalar InValue.CloseCurly = false
is_scalar InValue.OpenSquare = false
is_scalar InValue.CloseSquare = false
is_scalar InValue.Scalar = true

pub value_starts : (k : Kind) (x : InValue) → x ≡ in_value k → x ≡ InValue.Scalar → Starts (starting_of k)
value_starts = class_starts in_value is_scalar InValue.Scalar refl (every_kind (ScalarsStart in_value is_scalar) tt tt tt tt tt tt tt tt tt tt tt tt tt tt tt tt)
