-- By computation.
use mathlib.Core.Path.{refl}
use Rattle.places.specs.Places.{peeks}
use Rattle.utf8_sequences.specs.Utf8.{fits, valid_from}
use Rattle.scan.specs.Lexer.{start_of, until, lex_literal_string, lex_ml_literal_string, escapable, lex_basic_string, lex_ml_basic_string, lexer, tokens_of}
use Rattle.lex.specs.Texts.{texts}
use Rattle.lex.proofs.theorems.texts_as_read.Goals as goal

pub returns : goal.returns
unfolding texts peeks fits valid_from start_of until lex_literal_string lex_ml_literal_string escapable lex_basic_string lex_ml_basic_string lexer tokens_of
returns c = refl
