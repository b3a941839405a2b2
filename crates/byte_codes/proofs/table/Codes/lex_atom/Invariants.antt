-- A byte a turn, in eights and then alone, until one is of the set.
use Prim.Native.Nat.{◌-◌, ◌+◌}
use lib.ListN.{length}
use Rattle.scan.specs.Lexer.{lex_atom}
use Rattle.places.specs.PlaceLaws.{Still}
use Rattle.byte_codes.proofs.table.Codes.lex_atom.Given as goal

abbrev pub invariant-loop-k : goal.invariant-loop-k
invariant-loop-k l = Still lex_atom l.text l.at (l.i + l.k)

abbrev pub invariant-loop-i : goal.invariant-loop-i
invariant-loop-i l = Still lex_atom l.text l.at l.i

abbrev pub decreases-loop-i : goal.decreases-loop-i
decreases-loop-i l = length l.text - l.i
