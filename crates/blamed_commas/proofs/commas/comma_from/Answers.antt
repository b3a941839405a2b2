-- Each record is the one before the place, and is the comma or no comma.
use Rattle.std.proofs.Common.{◌≡◌, ◌+◌, ◌-◌, ◌<◌, refl, sym, ◌∙◌, arith}
use Rattle.blamed_commas.specs.CommaLaws.{back_length, back_on, back_found}
use Rattle.blamed_commas.proofs.commas.comma_from.Goals as goal

pub overflow_sub-start : goal.overflow_sub-start
overflow_sub-start c = back_length c.loop-i.invariant.back (omega arith) c.length_at.ensures

pub returns-then-is_comma : goal.returns-then-is_comma
returns-then-is_comma c =
    let some : 0 < c.loop-i.i = omega arith in
    let behind : c.loop-i.i - 1 + 1 ≡ c.loop-i.i = omega arith in
    (rw behind (back_found c.loop-i.invariant.back some c.length_at.ensures c.kind_at-kind.ensures c.requires.counted.whole (sym c.is_comma.ensures ∙ c.if-is_comma.true)), refl)

pub loop-i-preserved : goal.loop-i-preserved
loop-i-preserved c = record {
  back = back_on c.loop-i.invariant.back (omega arith) c.length_at.ensures c.kind_at-kind.ensures (sym c.is_comma.ensures ∙ c.if-is_comma.false) _ c.newlines-line.ensures;
  low = omega arith;
}
