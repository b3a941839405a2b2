-- Past plain bytes, then a byte a turn, or two at an escape.
use mathlib.Core.Bool.{false}
use Prim.Native.Nat.{◌-◌}
use lib.ListN.{length}
use Rattle.scan.specs.Lexer.{lex_basic_string}
use Rattle.places.specs.PlaceLaws.{Still}
use Rattle.strings.proofs.basic.lex_basic_string.Given as goal

abbrev pub invariant-loop-i : goal.invariant-loop-i
invariant-loop-i l = Still (λ bs. lex_basic_string false bs) l.text l.at l.i

abbrev pub decreases-loop-i : goal.decreases-loop-i
decreases-loop-i l = length l.text - l.i
