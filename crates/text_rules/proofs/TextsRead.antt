-- The texts of specs/TextsRead.antt are read as they are written there: by computation.
use Prim.Native.Nat.{ℕ}
use mathlib.Core.Path.{◌≡◌, refl}
use Rattle.token.specs.Kinds.{kind_of}
use Rattle.token.specs.Records.{length_at, kind_number_at}
use Rattle.token.specs.Tokens.{tokens_from, all_tokens}
use Rattle.token.specs.Check.{checked_from, checked}
use Rattle.token.specs.Writing.{records_of}
use Rattle.rules.specs.Turns.{turns}
use Rattle.rules.specs.Nest.{on_open}
use Rattle.rules.specs.Lines.{line_of}
use Rattle.rules.specs.Words.{looked_up, comma_between}
use Rattle.rules.specs.Answer.{outcome, walked, filled}
use Rattle.rules.specs.Texts.{texts, further_texts}
use Rattle.places.specs.Places.{peeks}
use Rattle.utf8_sequences.specs.Utf8.{fits, valid_from}
use Rattle.scan.specs.Lexer.{start_of, until, lex_literal_string, lex_ml_literal_string, escapable, lex_basic_string, lex_ml_basic_string, lexer, tokens_of}
use Rattle.lex.specs.Lexed.{lex_outcome}
use Rattle.text_rules.specs.TextOutcome.{text_outcome}
use Rattle.text_rules.specs.TextsRead.{readings, document_texts, outcomes_of, outcomes_written, strange_texts, told_by, as_given}

pub documents_read : (w : ℕ) → outcomes_of w document_texts ≡ outcomes_written w readings
unfolding texts further_texts turns on_open looked_up comma_between line_of kind_of length_at kind_number_at tokens_from all_tokens checked_from checked records_of outcome walked filled peeks fits valid_from start_of until lex_literal_string lex_ml_literal_string escapable lex_basic_string lex_ml_basic_string lexer tokens_of lex_outcome text_outcome readings document_texts
documents_read w = refl

pub strange_read : told_by strange_texts ≡ as_given strange_texts
unfolding turns on_open looked_up comma_between line_of kind_of length_at kind_number_at tokens_from all_tokens checked_from checked records_of outcome walked filled peeks fits valid_from start_of until lex_literal_string lex_ml_literal_string escapable lex_basic_string lex_ml_basic_string lexer tokens_of lex_outcome text_outcome strange_texts
strange_read = refl
