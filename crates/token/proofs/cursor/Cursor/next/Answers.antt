-- The token at the cursor, or none is left.
use native.Mathlib.Omega.{arith}
use Rattle.token.specs.CursorLaws.{next_fits, took, tokens_none}
use Rattle.token.proofs.cursor.Cursor.next.Goals as goal

pub overflow_add-end : goal.overflow_add-end
overflow_add-end c = omega (arith, c.length_at.ensures, next_fits _ _ c.requires c.if-at-s.true)

pub returns-then-at-s : goal.returns-then-at-s
returns-then-at-s c = took _ _ _ _ c.requires c.if-at-s.true c.length_at.ensures c.kind_at.ensures

pub returns-else-at-s : goal.returns-else-at-s
returns-else-at-s c = tokens_none _ _ c.if-at-s.false
