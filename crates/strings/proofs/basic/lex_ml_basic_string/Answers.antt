-- Past plain bytes, then a byte a turn, or two at an escape.
use mathlib.Core.Path.{refl, sym, ◌∙◌}
use native.Mathlib.Omega.{arith}
use Rattle.scan.specs.Lexer.{lex_ml_basic_string}
use Rattle.places.specs.PlaceLaws.{passed_still, over, out}
use Rattle.scan.specs.ScanLaws.{ml_basic_passes, three_within, ml_basic_close, ml_basic_on}
use Rattle.strings.proofs.basic.lex_ml_basic_string.Goals as goal

pub past_plain_if_first-i-requires : goal.past_plain_if_first-i-requires
past_plain_if_first-i-requires c = c.requires

pub loop-i-init : goal.loop-i-init
loop-i-init c = passed_still ml_basic_passes c.past_plain_if_first-i.ensures

pub starts_three-requires : goal.starts_three-requires
starts_three-requires c = c.loop-i.invariant.low

pub overflow_add-i : goal.overflow_add-i
overflow_add-i c = omega (arith, three_within 34 c.args.text.now c.loop-i.i (sym c.starts_three.ensures ∙ c.if-starts_three.true))

pub up_to_two-requires : goal.up_to_two-requires
up_to_two-requires c = three_within _ _ _ (sym c.starts_three.ensures ∙ c.if-starts_three.true)

pub returns-then-starts_three : goal.returns-then-starts_three
returns-then-starts_three c =
    over c.loop-i.invariant _ _ (omega (arith, c.up_to_two.ensures.is)) c.up_to_two.ensures.within (ml_basic_close c.args.text.now c.loop-i.i c.loop-i-test.true (sym c.starts_three.ensures ∙ c.if-starts_three.true))

pub loop-i-smaller : goal.loop-i-smaller
loop-i-smaller c = omega (arith, c.loop-i-test.true, c.behind-i.ensures.is, c.behind-i.ensures.within)

pub loop-i-preserved : goal.loop-i-preserved
loop-i-preserved c =
    record {
      low = c.behind-i.ensures.within;
      same = sym (ml_basic_on c.args.text.now c.loop-i.i c.loop-i-test.true _ c.behind-i.ensures.is (sym c.starts_three.ensures ∙ c.if-starts_three.false)) ∙ c.loop-i.invariant.same;
    }

pub returns : goal.returns
unfolding lex_ml_basic_string
returns c = out c.loop-i.invariant refl c.loop-i-test.false
