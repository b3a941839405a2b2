-- Past plain bytes, then a byte a turn.
use Prim.Native.Nat.{◌-◌}
use lib.ListN.{length}
use Rattle.scan.specs.Lexer.{lex_literal_string}
use Rattle.places.specs.PlaceLaws.{Still}
use Rattle.strings.proofs.literal.lex_literal_string.Given as goal

abbrev pub invariant-loop-i : goal.invariant-loop-i
invariant-loop-i l = Still lex_literal_string l.text l.at l.i

abbrev pub decreases-loop-i : goal.decreases-loop-i
decreases-loop-i l = length l.text - l.i
