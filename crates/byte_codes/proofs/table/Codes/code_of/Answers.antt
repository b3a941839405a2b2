-- The table's entry.
use mathlib.Core.Path.{ap, ◌∙◌}
use mathlib.Core.List.{List}
use native.Mathlib.Omega.{arith}
use Prim.Native.Nat.{ℕ}
use lib.ListN.{get_or}
use Rattle.scan.specs.CodeLaws.{table_at}
use Rattle.byte_codes.proofs.table.Codes.code_of.Goals as goal

pub returns : goal.returns
returns c = ap (λ (l : List ℕ). get_or l c.args.b 0) c.args.self.now.is_table ∙ table_at c.args.b (omega arith)
