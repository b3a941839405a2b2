-- Each turn sums a stretch, and so do the records that are left behind the turns; what the sum tells of the check is the law of Summed.
use Rattle.std.proofs.Common.{◌≡◌, refl, ap, sym, ◌∙◌, arith, ◌+◌, ◌*◌, ◌/◌, ◌%◌, ◌≤◌}
use Rattle.token.specs.Records.{count}
use Rattle.token.specs.Check.{passed}
use Rattle.token.specs.CheckLaws.{summed_end, from_start}
use Rattle.record_checks.proofs.StretchLaws.{summed_by, refused_by}
use Rattle.checks.proofs.check.all_pass.Goals as goal

pub returns-then-not-all_fit : goal.returns-then-not-all_fit
returns-then-not-all_fit c =
    let h : c.loop-turn.turn * 4 + 4 ≤ count c.args.s.now = omega (arith, c.loop-turn-test.true) in
    sym (sym (ap passed (from_start c.args.s.now c.args.from)) ∙ refused_by c.loop-turn.invariant 4 h c.lengths_of-lengths.ensures.1 (sym c.all_fit.ensures ∙ c.if-not-all_fit.true))

pub loop-turn-preserved : goal.loop-turn-preserved
loop-turn-preserved c =
    let h : c.loop-turn.turn * 4 + 4 ≤ count c.args.s.now = omega (arith, c.loop-turn-test.true) in
    let z : (c.loop-turn.turn + 1) * 4 ≡ c.loop-turn.turn * 4 + 4 = omega arith in
    rw (z, c.lengths_of-lengths.ensures.0) (summed_by c.loop-turn.invariant 4 h c.lengths_of-lengths.ensures.1 (sym c.all_fit.ensures ∙ c.if-not-all_fit.false))

pub overflow_add-result : goal.overflow_add-result
overflow_add-result c =
    let e : c.loop-turn.turn ≡ count c.args.s.now / 4 = omega (arith, c.loop-turn.auto.turn-end, c.loop-turn-test.false) in
    let h : count c.args.s.now / 4 * 4 + count c.args.s.now % 4 ≤ count c.args.s.now = omega arith in
    omega (arith, (summed_by (rw e at c.loop-turn.invariant) (count c.args.s.now % 4) h c.lengths_of-lengths-2.ensures.1 (sym c.all_fit-2.ensures ∙ c.if-all_fit.true)).small, c.lengths_of-lengths-2.ensures.0, h, c.requires.s_bound)

pub returns-then-all_fit : goal.returns-then-all_fit
returns-then-all_fit c =
    let e : c.loop-turn.turn ≡ count c.args.s.now / 4 = omega (arith, c.loop-turn.auto.turn-end, c.loop-turn-test.false) in
    let h : count c.args.s.now / 4 * 4 + count c.args.s.now % 4 ≤ count c.args.s.now = omega arith in
    rw c.lengths_of-lengths-2.ensures.0 (summed_end (summed_by (rw e at c.loop-turn.invariant) (count c.args.s.now % 4) h c.lengths_of-lengths-2.ensures.1 (sym c.all_fit-2.ensures ∙ c.if-all_fit.true)) (omega arith) _ refl ∙ ap passed (from_start c.args.s.now c.args.from))

pub returns-else-all_fit : goal.returns-else-all_fit
returns-else-all_fit c =
    let e : c.loop-turn.turn ≡ count c.args.s.now / 4 = omega (arith, c.loop-turn.auto.turn-end, c.loop-turn-test.false) in
    let h : count c.args.s.now / 4 * 4 + count c.args.s.now % 4 ≤ count c.args.s.now = omega arith in
    c.if-all_fit.false ∙ sym (sym (ap passed (from_start c.args.s.now c.args.from)) ∙ refused_by (rw e at c.loop-turn.invariant) (count c.args.s.now % 4) h c.lengths_of-lengths-2.ensures.1 (sym c.all_fit-2.ensures ∙ c.if-all_fit.false))
