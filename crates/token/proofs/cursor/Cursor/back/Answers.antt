-- One record back: its length is what lies between.
use native.Mathlib.Omega.{arith}
use Rattle.token.specs.CursorLaws.{back_fits, backed}
use Rattle.token.proofs.cursor.Cursor.back.Goals as goal

pub overflow_sub-result : goal.overflow_sub-result
overflow_sub-result c = omega (arith, c.length_at.ensures, back_fits _ _ c.requires.good c.requires.at_nonzero)

pub returns : goal.returns
returns c = backed _ _ _ c.requires.good c.requires.at_nonzero c.length_at.ensures
