-- The six stores are the record.
use mathlib.Core.Path.{ap, ◌∙◌}
use mathlib.Core.List.{◌++◌}
use Prim.Native.Nat.{ℕ, ◌+◌}
use native.Mathlib.Omega.{arith}
use lib.ListN.{take, drop, length-set}
use Rattle.token.specs.Writing.{record_of, put_at}
use Rattle.token.specs.WritingLaws.{six_stores}
use Rattle.token_records.proofs.put.Goals as goal

pub bounds-records-out-2 : goal.bounds-records-out-2
bounds-records-out-2 c = simp length-set (omega arith)

pub bounds-records-out-3 : goal.bounds-records-out-3
bounds-records-out-3 c = simp length-set (omega arith)

pub bounds-records-out-4 : goal.bounds-records-out-4
bounds-records-out-4 c = simp length-set (omega arith)

pub bounds-records-out-5 : goal.bounds-records-out-5
bounds-records-out-5 c = simp length-set (omega arith)

pub bounds-records-out-6 : goal.bounds-records-out-6
bounds-records-out-6 c = simp length-set (omega arith)

pub returns : goal.returns
unfolding put_at
returns c =
    λ n e. six_stores c.args.records.now c.args.out _ _ _ _ _ _ c.requires
    ∙ ap (λ (m : ℕ). take m c.args.records.now ++ record_of c.args.size c.args.kind ++ drop (m + 6) c.args.records.now) e
