-- One answer an arm: the rule at the token, what was emitted, and what is next.
use mathlib.Core.Path.{refl, ◌∙◌}
use native.Mathlib.Omega.{arith}
use Rattle.rules.specs.Out.{span, done, ◌▸◌}
use Rattle.rules.specs.declared.skipping.Bracket.{Bracket}
use Rattle.rules.specs.WithoutOpen.{without_open}
use Rattle.rules.specs.Array.{array_turn, missing_comma}
use Rattle.output.specs.Pour.{bufs}
use Rattle.rules.specs.Messages as message
use Rattle.rules.specs.Expected as expected
use Rattle.output.specs.WalkLaws.{told, told_done, at_end, first_item, first_items, then_goes}
use Rattle.array_parts.specs.Turning.{unclosed_items, comma_items}
use Rattle.array_turns.proofs.ArrayLaws.{array_at, comma_at, array_starts, array_as}
use Rattle.array_turns.proofs.array.array_turn.Goals as goal

pub returns-in_default : goal.returns-in_default
returns-in_default c =
    array_as c.over.ensures (record {
      is = λ base q nest loop. at_end _ _ _ _ (array_turn (span c.args.head.start c.args.head.end) nest loop c.args.state) (λ ts. unclosed_items message.unclosed_array expected.close_square (span c.args.head.start c.args.head.end) ▸ done ts) c.in_default.ensures refl ∙ first_items _ (unclosed_items message.unclosed_array expected.close_square (span c.args.head.start c.args.head.end)) _ (bufs c.args.events.now c.args.errors.now c.args.m) _ (c.unclosed-n.ensures base q);
      good = c.requires;
      on = omega arith;
      base = refl;
    }) tt

pub returns-in-Comment : goal.returns-in-Comment
returns-in-Comment c =
    array_as c.again_walk.ensures (record {
      is = λ base q nest loop. array_at _ _ _ _ c.in-Some.ensures _ _ c.in_array.ensures c.in-Comment.is _ _ (span c.args.head.start c.args.head.end) nest loop c.args.state ∙ then_goes (loop c.args.state) c.on_comment-w.ensures base (c.in-Some.ensures.base ∙ q);
      good = c.on_comment-w.ensures.good;
      on = omega (arith, c.in-Some.ensures.on, c.on_comment-w.ensures.on);
      base = c.on_comment-w.ensures.base ∙ c.in-Some.ensures.base;
    }) tt

pub returns-in-Whitespace : goal.returns-in-Whitespace
returns-in-Whitespace c = array_as c.again.ensures (record { is = λ base q nest loop. array_at _ _ _ _ c.in-Some.ensures _ _ c.in_array.ensures c.in-Whitespace.is _ _ (span c.args.head.start c.args.head.end) nest loop c.args.state ∙ ((first_item _ _ _ _ _ (c.emit-n.ensures _ _))); good = c.in-Some.ensures.good; on = omega (arith, c.in-Some.ensures.on); base = c.in-Some.ensures.base }) tt

pub returns-in-Newline : goal.returns-in-Newline
returns-in-Newline c = array_as c.again-in-Newline.ensures (record { is = λ base q nest loop. array_at _ _ _ _ c.in-Some.ensures _ _ c.in_array.ensures c.in-Newline.is _ _ (span c.args.head.start c.args.head.end) nest loop c.args.state ∙ ((first_item _ _ _ _ _ (c.emit-n-in-Newline.ensures _ _))); good = c.in-Some.ensures.good; on = omega (arith, c.in-Some.ensures.on); base = c.in-Some.ensures.base }) tt

pub returns-in-Eof : goal.returns-in-Eof
returns-in-Eof c = array_as c.over-in-Eof.ensures (record { is = λ base q nest loop. array_at _ _ _ _ c.in-Some.ensures _ _ c.in_array.ensures c.in-Eof.is _ _ (span c.args.head.start c.args.head.end) nest loop c.args.state ∙ ((first_item _ _ _ _ _ (c.report_at-i.ensures _ _)) ∙ (first_item _ _ _ _ _ (c.emit-n-in-Eof.ensures _ _))); good = c.in-Some.ensures.good; on = omega (arith, c.in-Some.ensures.on); base = c.in-Some.ensures.base }) tt

pub returns-in-Comma : goal.returns-in-Comma
returns-in-Comma c = array_as c.again-in-Comma.ensures (record { is = λ base q nest loop. comma_at _ _ _ _ c.in-Some.ensures _ _ c.in_array.ensures c.in-Comma.is _ _ (span c.args.head.start c.args.head.end) nest loop c.args.state refl ∙ first_items _ (comma_items (span c.args.head.start c.args.head.end) c.args.state c.in-Some.t.start c.in-Some.t.end) _ (bufs c.args.events.now c.args.errors.now c.args.m) _ (c.comma-n.ensures _); good = c.in-Some.ensures.good; on = omega (arith, c.in-Some.ensures.on); base = c.in-Some.ensures.base }) tt

pub returns-in-Equals : goal.returns-in-Equals
returns-in-Equals c = array_as c.again-in-Equals.ensures (record { is = λ base q nest loop. array_at _ _ _ _ c.in-Some.ensures _ _ c.in_array.ensures c.in-Equals.is _ _ (span c.args.head.start c.args.head.end) nest loop c.args.state ∙ ((first_item _ _ _ _ _ (c.report_at-i-in-Equals.ensures _ _)) ∙ (first_item _ _ _ _ _ (c.emit-n-in-Equals.ensures _ _))); good = c.in-Some.ensures.good; on = omega (arith, c.in-Some.ensures.on); base = c.in-Some.ensures.base }) tt

pub returns-in-OpenCurly : goal.returns-in-OpenCurly
returns-in-OpenCurly c = array_as c.opening.ensures (record { is = λ base q nest loop. array_at _ _ _ _ c.in-Some.ensures _ _ c.in_array.ensures c.in-OpenCurly.is _ _ (span c.args.head.start c.args.head.end) nest loop c.args.state ∙ (first_items _ (missing_comma (span c.args.head.start c.args.head.end) c.args.state c.in-Some.t.start c.in-Some.t.end) _ (bufs c.args.events.now c.args.errors.now c.args.m) _ (c.missing_comma-n.ensures _)); good = c.in-Some.ensures.good; on = omega (arith, c.in-Some.ensures.on); base = c.in-Some.ensures.base }) refl

pub returns-in-CloseCurly : goal.returns-in-CloseCurly
returns-in-CloseCurly c = array_as c.again-in-CloseCurly.ensures (record { is = λ base q nest loop. array_at _ _ _ _ c.in-Some.ensures _ _ c.in_array.ensures c.in-CloseCurly.is _ _ (span c.args.head.start c.args.head.end) nest loop c.args.state ∙ (first_items _ (missing_comma (span c.args.head.start c.args.head.end) c.args.state c.in-Some.t.start c.in-Some.t.end) _ (bufs c.args.events.now c.args.errors.now c.args.m) _ (c.missing_comma-h.ensures _)) ∙ first_items _ (without_open Bracket.Curly c.in-Some.t.start c.in-Some.t.end) _ _ _ (c.without_open-n.ensures _); good = c.in-Some.ensures.good; on = omega (arith, c.in-Some.ensures.on); base = c.in-Some.ensures.base }) tt

pub returns-in-OpenSquare : goal.returns-in-OpenSquare
returns-in-OpenSquare c = array_as c.opening-in-OpenSquare.ensures (record { is = λ base q nest loop. array_at _ _ _ _ c.in-Some.ensures _ _ c.in_array.ensures c.in-OpenSquare.is _ _ (span c.args.head.start c.args.head.end) nest loop c.args.state ∙ (first_items _ (missing_comma (span c.args.head.start c.args.head.end) c.args.state c.in-Some.t.start c.in-Some.t.end) _ (bufs c.args.events.now c.args.errors.now c.args.m) _ (c.missing_comma-n-in-OpenSquare.ensures _)); good = c.in-Some.ensures.good; on = omega (arith, c.in-Some.ensures.on); base = c.in-Some.ensures.base }) refl

pub returns-in-CloseSquare : goal.returns-in-CloseSquare
returns-in-CloseSquare c = array_as c.over-in-CloseSquare.ensures (record { is = λ base q nest loop. array_at _ _ _ _ c.in-Some.ensures _ _ c.in_array.ensures c.in-CloseSquare.is _ _ (span c.args.head.start c.args.head.end) nest loop c.args.state ∙ ((first_item _ _ _ _ _ (c.emit-n-in-CloseSquare.ensures _ _))); good = c.in-Some.ensures.good; on = omega (arith, c.in-Some.ensures.on); base = c.in-Some.ensures.base }) tt

pub returns-in-Scalar : goal.returns-in-Scalar
returns-in-Scalar c =
    array_as c.again_walk-in-Scalar.ensures (record {
      is = λ base q nest loop. array_at _ _ _ _ c.in-Some.ensures _ _ c.in_array.ensures c.in-Scalar.is _ _ (span c.args.head.start c.args.head.end) nest loop c.args.state ∙ (first_items _ (missing_comma (span c.args.head.start c.args.head.end) c.args.state c.in-Some.t.start c.in-Some.t.end) _ (bufs c.args.events.now c.args.errors.now c.args.m) _ (c.missing_comma-h-in-Scalar.ensures _)) ∙ then_goes (loop _) c.on_scalar-w.ensures base (c.in-Some.ensures.base ∙ q);
      good = c.on_scalar-w.ensures.good;
      on = omega (arith, c.in-Some.ensures.on, c.on_scalar-w.ensures.on);
      base = c.on_scalar-w.ensures.base ∙ c.in-Some.ensures.base;
    }) tt
