-- A whitespace, or none.
use mathlib.Core.Path.{refl, ◌∙◌}
use native.Mathlib.Omega.{arith}
use Rattle.output.specs.WalkLaws.{told_if, told_none, first_item, run_done, goes_by}
use Rattle.key_spaces.proofs.WhitespaceLaws.{space_at, space_out}
use Rattle.token.specs.declared.kind.Kind.{Kind}
use Rattle.key_spaces.proofs.opt_whitespace.Goals as goal

pub returns-in_default : goal.returns-in_default
returns-in_default c = goes_by _ _ _ _ _ _ (λ base q. space_out _ _ _ _ c.in_default.ensures ∙ run_done _ _ _ _ _ _) c.requires (omega arith) refl

pub returns : goal.returns
returns c = goes_by _ _ _ _ _ _ (λ base q. space_at _ _ _ _ c.in-Some.ensures _ _ ∙ ((first_item _ _ _ _ _ (c.emit-n.ensures _ _))) ∙ run_done _ _ _ _ _ _) c.in-Some.ensures.1.good (omega (arith, c.in-Some.ensures.1.on)) c.in-Some.ensures.1.base
