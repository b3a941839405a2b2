-- Past plain bytes, then a byte a turn.
use mathlib.Core.Path.{refl}
use Rattle.std.proofs.Common.{rules}
use native.Mathlib.Omega.{arith}
use Rattle.scan.specs.Lexer.{lex_literal_string}
use Rattle.places.specs.PlaceLaws.{passed_still, next, over, out}
use Rattle.scan.specs.ScanLaws.{literal_passes, literal_close, literal_line, literal_on}
use Rattle.strings.proofs.literal.lex_literal_string.Goals as goal

pub past_plain-i-requires : goal.past_plain-i-requires
past_plain-i-requires c = c.requires

pub loop-i-init : goal.loop-i-init
loop-i-init c = passed_still literal_passes c.past_plain-i.ensures

pub returns-in-39 : goal.returns-in-39
returns-in-39 c = over c.loop-i.invariant 1 _ (omega arith) (omega (arith, c.loop-i-test.true)) (literal_close c.args.text.now c.loop-i.i c.loop-i-test.true c.in-39.is)

pub returns-in-10 : goal.returns-in-10
returns-in-10 c = over c.loop-i.invariant 0 _ (omega arith) c.loop-i.invariant.low (literal_line c.args.text.now c.loop-i.i c.loop-i-test.true c.in-10.is)

pub loop-i-preserved : goal.loop-i-preserved
loop-i-preserved c = next c.loop-i.invariant c.loop-i-test.true (literal_on c.args.text.now c.loop-i.i c.loop-i-test.true (search rules) (search rules))

pub returns : goal.returns
unfolding lex_literal_string
returns c = out c.loop-i.invariant refl c.loop-i-test.false
