-- By the kind; the brackets opened meanwhile are counted.
use mathlib.Core.Path.{refl, ◌∙◌}
use native.Mathlib.Omega.{arith}
use Prim.Native.Nat.{◌-◌}
use Rattle.output.specs.WalkLaws.{first_item, run_done, told, told_done, at_end}
use Rattle.rules.specs.Out.{done}
use Rattle.rules.specs.Skipping.{opened, value_close_turn}
use Rattle.output.specs.TurnLaws.{turns_begun, turn_again, turn_finish}
use Rattle.skip_brackets.proofs.BracketLaws.{value_at, comment_on, square_close, curly_close, Erred, at_other, at_open_square, at_open_curly, at_square_skip, at_square_down, at_curly_skip, at_curly_down}
use Rattle.skip_brackets.proofs.brackets.ignore_to_value_close.Goals as goal
use Rattle.skip_brackets.proofs.brackets.ignore_to_value_close.Goals.{in-OpenSquare, in-CloseSquare+then-arrays-eq0+in-Curly, in-CloseSquare+else-arrays-eq0, in-OpenCurly, in-CloseCurly+then-tables-eq0+in-Square-closing, in-CloseCurly+else-tables-eq0, in-Other}

pub returns : goal.returns
returns c = turn_finish (value_close_turn c.args.closing) (λ f g w. refl) (opened c.loop-t.arrays c.loop-t.tables) c.loop-t.invariant.0 _ _ _ (at_end _ _ _ _ (value_close_turn c.args.closing _ _) done c.in_default.ensures refl ∙ run_done _ _ _ _ _ _) (omega arith) refl c.loop-t.invariant.0.good

pub loop-t-preserved-in-Comment : goal.loop-t-preserved-in-Comment
loop-t-preserved-in-Comment c = (
  turn_again (value_close_turn c.args.closing) (λ f g w. refl) (opened c.loop-t.arrays c.loop-t.tables) c.loop-t.invariant.0 _ _ _ (comment_on _ _ _ _ c.in-Some.ensures _ _ c.in_close.ensures c.in-Comment.is c.args.closing c.loop-t.arrays c.loop-t.tables _ _ _ refl _ _ _ (c.on_comment-w.ensures.is _ (c.in-Some.ensures.base ∙ c.loop-t.invariant.0.base)))
      (omega (arith, c.in-Some.ensures.on, c.on_comment-w.ensures.on)) (c.on_comment-w.ensures.base ∙ c.in-Some.ensures.base) c.on_comment-w.ensures.good,
  (c.on_comment-w.auto.events) ∙ c.loop-t.invariant.1,
  (c.on_comment-w.auto.errors) ∙ c.loop-t.invariant.2,
  omega (arith, c.in-Some.ensures.on, c.on_comment-w.ensures.on, c.loop-t.invariant.3),
  omega (arith, c.in-Some.ensures.on, c.on_comment-w.ensures.on, c.loop-t.invariant.4),
)

pub loop-t-preserved-in-Whitespace : goal.loop-t-preserved-in-Whitespace
loop-t-preserved-in-Whitespace c = (turn_again (value_close_turn c.args.closing) (λ f g w. refl) (opened c.loop-t.arrays c.loop-t.tables) c.loop-t.invariant.0 _ _ _ (value_at _ _ _ _ c.in-Some.ensures _ _ c.in_close.ensures c.in-Whitespace.is c.args.closing c.loop-t.arrays c.loop-t.tables _ _ _ ∙ ((first_item _ _ _ _ _ (c.emit-n.ensures _ _)))) (omega (arith, c.in-Some.ensures.on)) c.in-Some.ensures.base c.in-Some.ensures.good, (c.emit-n.auto.events) ∙ c.loop-t.invariant.1, (refl) ∙ c.loop-t.invariant.2, omega (arith, c.in-Some.ensures.on, c.loop-t.invariant.3), omega (arith, c.in-Some.ensures.on, c.loop-t.invariant.4))

pub loop-t-preserved-in-Newline : goal.loop-t-preserved-in-Newline
loop-t-preserved-in-Newline c = (turn_again (value_close_turn c.args.closing) (λ f g w. refl) (opened c.loop-t.arrays c.loop-t.tables) c.loop-t.invariant.0 _ _ _ (value_at _ _ _ _ c.in-Some.ensures _ _ c.in_close.ensures c.in-Newline.is c.args.closing c.loop-t.arrays c.loop-t.tables _ _ _ ∙ ((first_item _ _ _ _ _ (c.emit-n-in-Newline.ensures _ _)))) (omega (arith, c.in-Some.ensures.on)) c.in-Some.ensures.base c.in-Some.ensures.good, (c.emit-n-in-Newline.auto.events) ∙ c.loop-t.invariant.1, (refl) ∙ c.loop-t.invariant.2, omega (arith, c.in-Some.ensures.on, c.loop-t.invariant.3), omega (arith, c.in-Some.ensures.on, c.loop-t.invariant.4))

pub returns-in-Eof : goal.returns-in-Eof
returns-in-Eof c = turn_finish (value_close_turn c.args.closing) (λ f g w. refl) (opened c.loop-t.arrays c.loop-t.tables) c.loop-t.invariant.0 _ _ _ (value_at _ _ _ _ c.in-Some.ensures _ _ c.in_close.ensures c.in-Eof.is c.args.closing c.loop-t.arrays c.loop-t.tables _ _ _ ∙ run_done _ _ _ _ _ _) (omega (arith, c.in-Some.ensures.on)) c.in-Some.ensures.base c.in-Some.ensures.good

pub returns-in-Square : goal.returns-in-Square
returns-in-Square c = turn_finish (value_close_turn c.args.closing) (λ f g w. refl) (opened c.loop-t.arrays c.loop-t.tables) c.loop-t.invariant.0 _ _ _ (square_close _ _ _ _ c.in-Some.ensures _ _ c.in_close.ensures c.in-CloseSquare.is c.args.closing c.loop-t.arrays c.loop-t.tables _ _ _ refl c.if-arrays-eq0.true c.in-Square.is ∙ ((first_item _ _ _ _ _ (c.emit-n-in-Square.ensures _ _))) ∙ run_done _ _ _ _ _ _) (omega (arith, c.in-Some.ensures.on)) c.in-Some.ensures.base c.in-Some.ensures.good

pub returns-in-Curly-closing : goal.returns-in-Curly-closing
returns-in-Curly-closing c = turn_finish (value_close_turn c.args.closing) (λ f g w. refl) (opened c.loop-t.arrays c.loop-t.tables) c.loop-t.invariant.0 _ _ _ (curly_close _ _ _ _ c.in-Some.ensures _ _ c.in_close.ensures c.in-CloseCurly.is c.args.closing c.loop-t.arrays c.loop-t.tables _ _ _ refl c.if-tables-eq0.true c.in-Curly-closing.is ∙ ((first_item _ _ _ _ _ (c.emit-n-in-Curly-closing.ensures _ _))) ∙ run_done _ _ _ _ _ _) (omega (arith, c.in-Some.ensures.on)) c.in-Some.ensures.base c.in-Some.ensures.good

pub loop-t-preserved : goal.loop-t-preserved
loop-t-preserved c =
    let j : Erred c.args.s.now c.loop-t.cur c.in-Some.past c.in-Some.t c.args.closing c.loop-t.arrays c.loop-t.tables c.match-in_close.arrays c.match-in_close.tables = elim c.match-in_close.branch [
      | in-OpenSquare w ↦ at_open_square c.in-Some.ensures c.in_close.ensures c.args.closing c.loop-t.arrays c.loop-t.tables c.loop-t.invariant.3 c.loop-t.invariant.4 c.match-in_close.arrays c.match-in_close.tables w.in-OpenSquare.is w.arrays-is w.tables-is
      | in-CloseSquare+then-arrays-eq0+in-Curly w ↦ at_square_skip c.in-Some.ensures c.in_close.ensures c.args.closing c.loop-t.arrays c.loop-t.tables c.loop-t.invariant.3 c.loop-t.invariant.4 c.match-in_close.arrays c.match-in_close.tables w.in-CloseSquare.is w.if-arrays-eq0.true w.in-Curly.is w.arrays-is w.tables-is
      | in-CloseSquare+else-arrays-eq0 w ↦ at_square_down c.in-Some.ensures c.in_close.ensures c.args.closing c.loop-t.arrays c.loop-t.tables c.loop-t.invariant.3 c.loop-t.invariant.4 c.match-in_close.arrays c.match-in_close.tables w.in-CloseSquare.is w.if-arrays-eq0.false w.arrays-is w.tables-is
      | in-OpenCurly w ↦ at_open_curly c.in-Some.ensures c.in_close.ensures c.args.closing c.loop-t.arrays c.loop-t.tables c.loop-t.invariant.3 c.loop-t.invariant.4 c.match-in_close.arrays c.match-in_close.tables w.in-OpenCurly.is w.arrays-is w.tables-is
      | in-CloseCurly+then-tables-eq0+in-Square-closing w ↦ at_curly_skip c.in-Some.ensures c.in_close.ensures c.args.closing c.loop-t.arrays c.loop-t.tables c.loop-t.invariant.3 c.loop-t.invariant.4 c.match-in_close.arrays c.match-in_close.tables w.in-CloseCurly.is w.if-tables-eq0.true w.in-Square-closing.is w.arrays-is w.tables-is
      | in-CloseCurly+else-tables-eq0 w ↦ at_curly_down c.in-Some.ensures c.in_close.ensures c.args.closing c.loop-t.arrays c.loop-t.tables c.loop-t.invariant.3 c.loop-t.invariant.4 c.match-in_close.arrays c.match-in_close.tables w.in-CloseCurly.is w.if-tables-eq0.false w.arrays-is w.tables-is
      | in-Other w ↦ at_other c.in-Some.ensures c.in_close.ensures c.args.closing c.loop-t.arrays c.loop-t.tables c.loop-t.invariant.3 c.loop-t.invariant.4 c.match-in_close.arrays c.match-in_close.tables w.in-Other.is w.arrays-is w.tables-is
    ] in
    (turn_again (value_close_turn c.args.closing) (λ f g w. refl) (opened c.loop-t.arrays c.loop-t.tables) c.loop-t.invariant.0 _ _ _ (j.is _ _ _ ∙ ((first_item _ _ _ _ _ (c.emit-n-in-Some.ensures _ _)))) (omega (arith, c.in-Some.ensures.on)) c.in-Some.ensures.base c.in-Some.ensures.good, (c.emit-n-in-Some.auto.events) ∙ c.loop-t.invariant.1, (refl) ∙ c.loop-t.invariant.2, j.arrays, j.tables)
