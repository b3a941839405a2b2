-- Turn by turn, until one is over or refused.
use mathlib.Core.Path.{refl, ◌∙◌}
use native.Mathlib.Omega.{arith}
use Prim.Native.Nat.{◌-◌}
use Rattle.output.specs.TurnLaws.{turns_begun}
use Rattle.documents.proofs.DocumentLaws.{step_break, step_continue, step_further}
use Rattle.documents.proofs.document.document.Goals as goal

pub loop-end-init : goal.loop-end-init
loop-end-init c = (turns_begun _ _ _ _ c.requires, refl, refl)

pub document_turn-requires : goal.document_turn-requires
document_turn-requires c = c.loop-end.invariant.0.good

pub returns-in-Break : goal.returns-in-Break
returns-in-Break c = step_break c.args.settings.levels c.loop-end.invariant.0 _ c.document_turn.ensures _ c.in-Break.is

pub loop-end-smaller : goal.loop-end-smaller
loop-end-smaller c = omega (arith, step_further c.args.settings.levels c.loop-end.invariant.0 _ c.document_turn.ensures _ c.in-Continue.is, (step_continue c.args.settings.levels c.loop-end.invariant.0 _ c.document_turn.ensures _ c.in-Continue.is).good.low)

pub loop-end-preserved : goal.loop-end-preserved
loop-end-preserved c = (step_continue c.args.settings.levels c.loop-end.invariant.0 _ c.document_turn.ensures _ c.in-Continue.is, (c.document_turn.auto.events) ∙ c.loop-end.invariant.1, (c.document_turn.auto.errors) ∙ c.loop-end.invariant.2)
