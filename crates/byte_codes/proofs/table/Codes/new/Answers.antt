-- The constant is the table.
use mathlib.Core.Path.{refl}
use Rattle.scan.specs.Lexer.{start_of}
use Rattle.scan.specs.Codes.{codes_from, code_table}
use Rattle.byte_codes.proofs.table.Codes.new.Goals as goal

pub invariant_of-result : goal.invariant_of-result
unfolding code_table codes_from start_of
invariant_of-result c = record { is_table = refl }
