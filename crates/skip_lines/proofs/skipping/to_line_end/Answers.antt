-- By the kind, and by whether a comment was read; what is to come from here gives what was to come from the start.
use mathlib.Core.Path.{refl, ◌∙◌}
use native.Mathlib.Omega.{arith}
use Prim.Native.Nat.{◌-◌}
use Rattle.output.specs.WalkLaws.{begun, again, finish, first_item, first_items, run_done, told, told_done}
use Rattle.skip_lines.specs.LineEnd.{content_after_comment}
use Rattle.skip_lines.proofs.SkippingLaws.{line_at, content_at, is_other, line_none}
use borrow.Enum.Refused.{opened}
use Rattle.skip_lines.proofs.skipping.to_line_end.Goals as goal

pub returns : goal.returns
returns c = finish c.loop-t.invariant.0 _ _ _ (line_none _ _ c.loop-t.after c.loop-t.start c.in_default.ensures _ _ ∙ run_done _ _ _ _ _ _) (omega arith) refl c.loop-t.invariant.0.good

pub returns-in-Newline : goal.returns-in-Newline
returns-in-Newline c = finish c.loop-t.invariant.0 _ _ _ ((line_at _ _ _ _ c.in-Some.ensures _ _ c.in_line-x.ensures c.in-Newline.is _ _ c.loop-t.after _ c.loop-t.start) refl ∙ ((first_item _ _ _ _ _ (c.emit-n.ensures _ _))) ∙ run_done _ _ _ _ _ _) (omega (arith, c.in-Some.ensures.on)) c.in-Some.ensures.base c.in-Some.ensures.good

pub returns-in-Eof : goal.returns-in-Eof
returns-in-Eof c = finish c.loop-t.invariant.0 _ _ _ ((line_at _ _ _ _ c.in-Some.ensures _ _ c.in_line-x.ensures c.in-Eof.is _ _ c.loop-t.after _ c.loop-t.start) refl ∙ (refl) ∙ run_done _ _ _ _ _ _) (omega (arith, c.in-Some.ensures.on)) c.in-Some.ensures.base c.in-Some.ensures.good

pub loop-t-preserved-then-after : goal.loop-t-preserved-then-after
loop-t-preserved-then-after c =
    (again c.loop-t.invariant.0 _ _ _ ((content_at _ _ _ _ c.in-Some.ensures _ c.in_line-x.ensures (opened c.in_default-x.in_default-x-own.keys3) _ _ c.loop-t.after c.loop-t.start c.if-after.true) ∙ first_items _ (content_after_comment c.loop-t.start c.in-Some.t.start c.in-Some.t.end) _ _ _ (c.content_after_comment-n.ensures _)) (omega (arith, c.in-Some.ensures.on)) c.in-Some.ensures.base c.in-Some.ensures.good, (c.content_after_comment-n.auto.events) ∙ c.loop-t.invariant.1, (c.content_after_comment-n.auto.errors) ∙ c.loop-t.invariant.2)

pub loop-t-preserved-in-Whitespace : goal.loop-t-preserved-in-Whitespace
loop-t-preserved-in-Whitespace c =
    rw c.if-after.false
    (again c.loop-t.invariant.0 _ _ _ ((line_at _ _ _ _ c.in-Some.ensures _ _ c.in_line-x.ensures c.in-Whitespace.is _ _ c.loop-t.after _ c.loop-t.start) c.if-after.false ∙ ((first_item _ _ _ _ _ (c.emit-n-in-Whitespace.ensures _ _)))) (omega (arith, c.in-Some.ensures.on)) c.in-Some.ensures.base c.in-Some.ensures.good, (c.emit-n-in-Whitespace.auto.events) ∙ c.loop-t.invariant.1, (refl) ∙ c.loop-t.invariant.2)

pub loop-t-preserved-in-Comment : goal.loop-t-preserved-in-Comment
loop-t-preserved-in-Comment c =
    (again c.loop-t.invariant.0 _ _ _ ((line_at _ _ _ _ c.in-Some.ensures _ _ c.in_line-x.ensures c.in-Comment.is _ _ c.loop-t.after _ c.loop-t.start) c.if-after.false ∙ ((first_item _ _ _ _ _ (c.emit-n-in-Comment.ensures _ _)))) (omega (arith, c.in-Some.ensures.on)) c.in-Some.ensures.base c.in-Some.ensures.good, (c.emit-n-in-Comment.auto.events) ∙ c.loop-t.invariant.1, (refl) ∙ c.loop-t.invariant.2)

pub loop-t-preserved : goal.loop-t-preserved
loop-t-preserved c =
    rw c.if-after.false
    (again c.loop-t.invariant.0 _ _ _ (line_at _ _ _ _ c.in-Some.ensures _ _ c.in_line-x.ensures (is_other c.in_line-x.result (opened c.in_default-x.in_default-x-own.keys3) (opened c.in_default-x-2.in_default-x-2-own.keys3)) _ _ c.loop-t.after _ c.loop-t.start c.if-after.false ∙ ((first_item _ _ _ _ _ (c.emit-n-in_default-x-2.ensures _ _)))) (omega (arith, c.in-Some.ensures.on)) c.in-Some.ensures.base c.in-Some.ensures.good, (c.emit-n-in_default-x-2.auto.events) ∙ c.loop-t.invariant.1, (refl) ∙ c.loop-t.invariant.2)
