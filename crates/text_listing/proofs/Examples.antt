-- The mistakes of the texts of specs/Examples.antt are those that are written there: by computation.
use mathlib.Core.Path.{◌≡◌, refl}
use Rattle.token.specs.Kinds.{kind_of}
use Rattle.token.specs.Records.{length_at, kind_number_at}
use Rattle.token.specs.Tokens.{tokens_from, all_tokens}
use Rattle.token.specs.Check.{checked_from, checked}
use Rattle.token.specs.Writing.{records_of}
use Rattle.rules.specs.Turns.{turns}
use Rattle.rules.specs.Nest.{on_open}
use Rattle.rules.specs.Lines.{line_of}
use Rattle.rules.specs.Words.{looked_up}
use Rattle.rules.specs.Answer.{outcome, walked, filled}
use Rattle.places.specs.Places.{peeks}
use Rattle.utf8_sequences.specs.Utf8.{fits, valid_from}
use Rattle.scan.specs.Lexer.{start_of, until, lex_literal_string, lex_ml_literal_string, escapable, lex_basic_string, lex_ml_basic_string, lexer, tokens_of}
use Rattle.lex.specs.Lexed.{lex_outcome}
use Rattle.text_rules.specs.TextOutcome.{text_outcome}
use Rattle.pieces.specs.Pieces.{events_from, pieces}
use Rattle.mistake_rules.specs.Mistakes.{errors_from, merged}
use Rattle.text_listing.specs.Checking.{check_outcome}
use Rattle.text_listing.specs.Examples.{examples, told_by, as_listed}

pub examples_told : told_by examples ≡ as_listed examples
unfolding turns on_open looked_up line_of kind_of length_at kind_number_at tokens_from all_tokens checked_from checked records_of outcome walked filled peeks fits valid_from start_of until lex_literal_string lex_ml_literal_string escapable lex_basic_string lex_ml_basic_string lexer tokens_of lex_outcome text_outcome events_from pieces errors_from merged check_outcome examples
examples_told = refl
