-- Past plain bytes, then a byte a turn.
use Rattle.scan.specs.Lexer.{lex_ml_literal_string}
use Rattle.places.specs.PlaceLaws.{Still}
use Rattle.strings.proofs.literal.lex_ml_literal_string.Given as goal

abbrev pub invariant-loop-i : goal.invariant-loop-i
invariant-loop-i l = Still lex_ml_literal_string l.text l.at l.i
