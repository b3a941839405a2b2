-- Each record is the one before the place, and is what is sought or adds nothing.
use Rattle.std.proofs.Common.{ap, sym, ◌∙◌, arith}
use Rattle.token.specs.Search.{is_sought}
use Rattle.token.specs.CursorLaws.{back_fits, backed}
use Rattle.token.specs.SearchLaws.{nearest_hit, nearest_miss}
use Rattle.backward_search.proofs.nearest_before.Goals as goal

pub overflow_sub-place : goal.overflow_sub-place
overflow_sub-place c = omega (arith, c.length_at-place.ensures, back_fits _ _ c.loop-at.invariant.good (omega arith))

pub returns-then-is_sought : goal.returns-then-is_sought
returns-then-is_sought c =
    nearest_hit _ _ _ _ _ _ _ _ c.loop-at.invariant.good c.loop-at-test.true c.length_at-place.ensures (ap (is_sought c.args.what) (sym c.kind_at.ensures) ∙ sym c.is_sought.ensures ∙ c.if-is_sought.true)
    ∙ c.loop-at.invariant.same

pub loop-at-preserved : goal.loop-at-preserved
loop-at-preserved c = record {
  same = sym (nearest_miss _ _ _ _ _ _ c.loop-at-test.true c.loop-at.invariant.good.low (ap (is_sought c.args.what) (sym c.kind_at.ensures) ∙ sym c.is_sought.ensures ∙ c.if-is_sought.false)) ∙ c.loop-at.invariant.same;
  good = (backed _ _ _ c.loop-at.invariant.good (omega arith) c.length_at-place.ensures).good;
}
