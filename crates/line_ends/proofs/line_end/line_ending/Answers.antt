-- Whitespace goes on; everything else ends the line.
use mathlib.Core.Path.{refl, ◌∙◌}
use native.Mathlib.Omega.{arith}
use Prim.Native.Nat.{◌-◌}
use Rattle.output.specs.WalkLaws.{begun, again, finish, finish_by, first_item, run_done, told, told_done}
use Rattle.rules.specs.Out.{done}
use Rattle.rules.specs.Skipping.{ending}
use Rattle.output.specs.WalkLaws.{at_end}
use Rattle.line_ends.proofs.EndingLaws.{ending_at}
use Rattle.line_ends.proofs.line_end.line_ending.Goals as goal

pub loop-t-init : goal.loop-t-init
loop-t-init c = (begun _ _ _ _ c.requires, refl, refl)

pub next-requires : goal.next-requires
next-requires c = c.loop-t.invariant.0.good

pub returns : goal.returns
returns c = finish c.loop-t.invariant.0 _ _ _ (at_end _ _ _ _ (λ ts. ending ts c.args.first) done c.in_default.ensures refl ∙ run_done _ _ _ _ _ _) (omega arith) refl c.loop-t.invariant.0.good

pub ignore_to_newline-requires : goal.ignore_to_newline-requires
ignore_to_newline-requires c = c.in-Some.ensures.good

pub returns-in-Other : goal.returns-in-Other
returns-in-Other c = finish_by c.loop-t.invariant.0 ((ending_at _ _ _ _ c.in-Some.ensures _ _ c.in_line.ensures c.in-Other.is _ _ c.args.first) ∙ ((first_item _ _ _ _ _ (c.report-n.ensures _ _)) ∙ (first_item _ _ _ _ _ (c.emit-n.ensures _ _)))) (omega (arith, c.in-Some.ensures.on)) c.in-Some.ensures.base c.ignore_to_newline.ensures

pub on_comment-requires : goal.on_comment-requires
on_comment-requires c = c.in-Some.ensures.good

pub returns-in-Comment : goal.returns-in-Comment
returns-in-Comment c = finish_by c.loop-t.invariant.0 (ending_at _ _ _ _ c.in-Some.ensures _ _ c.in_line.ensures c.in-Comment.is _ _ c.args.first) (omega (arith, c.in-Some.ensures.on)) c.in-Some.ensures.base c.on_comment.ensures

pub loop-t-smaller : goal.loop-t-smaller
loop-t-smaller c = omega (arith, c.in-Some.ensures.left, c.in-Some.ensures.on)

pub loop-t-preserved : goal.loop-t-preserved
loop-t-preserved c = (again c.loop-t.invariant.0 _ _ _ ((ending_at _ _ _ _ c.in-Some.ensures _ _ c.in_line.ensures c.in-Whitespace.is _ _ c.args.first) ∙ ((first_item _ _ _ _ _ (c.emit-n-in-Whitespace.ensures _ _)))) (omega (arith, c.in-Some.ensures.on)) c.in-Some.ensures.base c.in-Some.ensures.good, (c.emit-n-in-Whitespace.auto.events) ∙ c.loop-t.invariant.1, (refl) ∙ c.loop-t.invariant.2)

pub returns-in-Newline : goal.returns-in-Newline
returns-in-Newline c = finish c.loop-t.invariant.0 _ _ _ ((ending_at _ _ _ _ c.in-Some.ensures _ _ c.in_line.ensures c.in-Newline.is _ _ c.args.first) ∙ ((first_item _ _ _ _ _ (c.emit-n-in-Newline.ensures _ _))) ∙ run_done _ _ _ _ _ _) (omega (arith, c.in-Some.ensures.on)) c.in-Some.ensures.base c.in-Some.ensures.good

pub returns-in-Eof : goal.returns-in-Eof
returns-in-Eof c = finish c.loop-t.invariant.0 _ _ _ ((ending_at _ _ _ _ c.in-Some.ensures _ _ c.in_line.ensures c.in-Eof.is _ _ c.args.first) ∙ (refl) ∙ run_done _ _ _ _ _ _) (omega (arith, c.in-Some.ensures.on)) c.in-Some.ensures.base c.in-Some.ensures.good
