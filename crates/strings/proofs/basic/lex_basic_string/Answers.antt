-- Past plain bytes, then a byte a turn, or two at an escape.
use mathlib.Core.Path.{refl, sym, ◌∙◌}
use Rattle.std.proofs.Common.{rules}
use native.Mathlib.Omega.{arith}
use Rattle.scan.specs.Lexer.{lex_basic_string}
use Rattle.places.specs.PlaceLaws.{passed_still, over, out}
use Rattle.scan.specs.ScanLaws.{basic_passes, basic_close, basic_line, basic_on}
use Rattle.strings.proofs.basic.lex_basic_string.Goals as goal

pub past_plain-i-requires : goal.past_plain-i-requires
past_plain-i-requires c = c.requires

pub loop-i-init : goal.loop-i-init
loop-i-init c = passed_still basic_passes c.past_plain-i.ensures

pub returns-in-34 : goal.returns-in-34
returns-in-34 c = over c.loop-i.invariant 1 _ (omega arith) (omega (arith, c.loop-i-test.true)) (basic_close c.args.text.now c.loop-i.i c.loop-i-test.true c.in-34.is)

pub returns-in-10 : goal.returns-in-10
returns-in-10 c = over c.loop-i.invariant 0 _ (omega arith) c.loop-i.invariant.low (basic_line c.args.text.now c.loop-i.i c.loop-i-test.true c.in-10.is)

pub loop-i-smaller : goal.loop-i-smaller
loop-i-smaller c = omega (arith, c.loop-i-test.true, c.behind-i.ensures.is, c.behind-i.ensures.within)

pub loop-i-preserved : goal.loop-i-preserved
loop-i-preserved c =
    record {
      low = c.behind-i.ensures.within;
      same = sym (basic_on c.args.text.now c.loop-i.i c.loop-i-test.true _ c.behind-i.ensures.is (search rules) (search rules)) ∙ c.loop-i.invariant.same;
    }

pub returns : goal.returns
unfolding lex_basic_string
returns c = out c.loop-i.invariant refl c.loop-i-test.false
