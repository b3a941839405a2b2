-- A turn writes one record; at the end nothing is left to do.
use Rattle.std.proofs.Common.{List, ℕ, ◌≤◌, ◌+◌, ◌*◌, length, ap, sym, ◌∙◌, arith}
use Rattle.struct_records.proofs.StructLaws.{Copied, copy_step, copy_done}
use Rattle.struct_records.proofs.copy.Goals as goal

pub loop-i-preserved : goal.loop-i-preserved
loop-i-preserved c =
    let room : 6 * length c.args.tokens.now ≤ length c.loop-i.records = omega (arith, c.requires, c.loop-i.invariant.kept) in
    record {
      same = ap (λ (s : List ℕ). Copied c.args.tokens.now (c.loop-i.i + 1) s) c.put.ensures ∙ copy_step _ _ _ c.loop-i-test.true room ∙ c.loop-i.invariant.same;
      kept = c.put.auto.records ∙ c.loop-i.invariant.kept;
    }

pub returns : goal.returns
returns c = sym (copy_done c.args.tokens.now c.loop-i.i c.loop-i.records c.loop-i.auto.i-end c.loop-i-test.false) ∙ c.loop-i.invariant.same
