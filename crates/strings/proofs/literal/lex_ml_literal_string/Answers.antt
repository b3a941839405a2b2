-- Past plain bytes, then a byte a turn.
use mathlib.Core.Path.{refl, sym, ◌∙◌}
use Rattle.std.proofs.Common.{◌≡◌, ℕ, length, subst}
use Rattle.places.specs.Places.{Scanned}
use native.Mathlib.Omega.{arith}
use Rattle.scan.specs.Lexer.{lex_ml_literal_string}
use Rattle.places.specs.PlaceLaws.{passed_still, next, over, out}
use Rattle.scan.specs.ScanLaws.{ml_literal_passes, three_within, ml_literal_close, ml_literal_on}
use Rattle.strings.proofs.literal.lex_ml_literal_string.Goals as goal

pub past_plain_if_first-i-requires : goal.past_plain_if_first-i-requires
past_plain_if_first-i-requires c = c.requires

pub loop-i-init : goal.loop-i-init
loop-i-init c = passed_still ml_literal_passes c.past_plain_if_first-i.ensures

pub starts_three-requires : goal.starts_three-requires
starts_three-requires c = c.loop-i.invariant.low

pub overflow_add-i : goal.overflow_add-i
overflow_add-i c = omega (arith, three_within 39 c.args.text.now c.loop-i.i (sym c.starts_three.ensures ∙ c.if-starts_three.true))

pub up_to_two-requires : goal.up_to_two-requires
up_to_two-requires c = three_within _ _ _ (sym c.starts_three.ensures ∙ c.if-starts_three.true)

pub returns-then-starts_three : goal.returns-then-starts_three
returns-then-starts_three c =
    over c.loop-i.invariant _ _ (omega (arith, c.up_to_two.ensures.is)) c.up_to_two.ensures.within (ml_literal_close c.args.text.now c.loop-i.i c.loop-i-test.true (sym c.starts_three.ensures ∙ c.if-starts_three.true))

pub loop-i-preserved : goal.loop-i-preserved
loop-i-preserved c = next c.loop-i.invariant c.loop-i-test.true (ml_literal_on c.args.text.now c.loop-i.i c.loop-i-test.true (sym c.starts_three.ensures ∙ c.if-starts_three.false))

pub returns : goal.returns
unfolding lex_ml_literal_string
returns c = let e : c.loop-i.i ≡ length c.args.text.now = (let l = c.loop-i.invariant.low in omega arith) in subst (λ (n : ℕ). Scanned lex_ml_literal_string c.args.text.now c.args.at n) e (out c.loop-i.invariant refl c.loop-i-test.false)
