-- The texts of specs/Texts.antt are read by the rules as they are written there: by computation.
use Prim.Native.Nat.{ℕ}
use mathlib.Core.Path.{◌≡◌, refl}
use mathlib.Core.List.{[], ◌∷◌}
use Rattle.token.specs.Kinds.{kind_of}
use Rattle.token.specs.Records.{length_at, kind_number_at}
use Rattle.token.specs.Tokens.{tokens_from, all_tokens}
use Rattle.token.specs.Check.{checked_from, checked}
use Rattle.rules.specs.Turns.{turns}
use Rattle.rules.specs.Nest.{on_open}
use Rattle.rules.specs.Lines.{line_of}
use Rattle.rules.specs.declared.options.Mode.{Mode}
use Rattle.rules.specs.Words.{looked_up, comma_between}
use Rattle.rules.specs.Entries.{document_entry}
use Rattle.rules.specs.Answer.{outcome, walked, filled, as_crate}
use Rattle.rules.specs.Texts.{texts, further_texts, as_written, as_ruled, written_outcomes, ruled_outcomes}
use Rattle.rules.specs.LineTexts.{line_texts, lines_written, lines_ruled}

-- the fourteen texts of document 01
pub texts_as_read : as_ruled Mode.Crate texts ≡ as_written texts
unfolding texts turns on_open looked_up comma_between line_of
texts_as_read = refl

pub further_texts_as_read : as_ruled Mode.Crate further_texts ≡ as_written further_texts
unfolding further_texts turns on_open looked_up comma_between line_of
further_texts_as_read = refl

-- the lines that surprise
pub lines_as_read : lines_ruled Mode.Crate line_texts ≡ lines_written line_texts
unfolding line_texts turns on_open looked_up comma_between line_of
lines_as_read = refl

-- the same from record bytes: answer and both buffers, whatever word w these hold beforehand
pub texts_in_buffers : (w : ℕ) → ruled_outcomes as_crate w texts ≡ written_outcomes w texts
unfolding texts turns on_open looked_up comma_between line_of kind_of length_at kind_number_at tokens_from all_tokens checked_from checked outcome walked filled
texts_in_buffers w = refl

pub further_texts_in_buffers : (w : ℕ) → ruled_outcomes as_crate w further_texts ≡ written_outcomes w further_texts
unfolding further_texts turns on_open looked_up comma_between line_of kind_of length_at kind_number_at tokens_from all_tokens checked_from checked outcome walked filled
further_texts_in_buffers w = refl

-- text 4 once more, each byte and each word written out
pub text-four
    : (w : ℕ) → outcome as_crate document_entry
    (1 ∷ 0 ∷ 0 ∷ 0 ∷ 4 ∷ 0 ∷ 1 ∷ 0 ∷ 0 ∷ 0 ∷ 4 ∷ 0 ∷ 1 ∷ 0 ∷ 0 ∷ 0 ∷ 15 ∷ 0 ∷ 1 ∷ 0 ∷ 0 ∷ 0 ∷ 5 ∷ 0 ∷ 1 ∷ 0 ∷ 0 ∷ 0 ∷ 10 ∷ 0 ∷ 0 ∷ 0 ∷ 0 ∷ 0 ∷ 16 ∷ 0 ∷ [])
    0 (w ∷ w ∷ w ∷ w ∷ w ∷ w ∷ w ∷ w ∷ w ∷ w ∷ w ∷ w ∷ w ∷ w ∷ []) (w ∷ w ∷ w ∷ w ∷ w ∷ w ∷ w ∷ w ∷ [])
    ≡ record {
      answer = record { refusal = 0; place = 0; events = 3; errors = 1 };
      events = 3 ∷ 0 ∷ 0 ∷ 2 ∷ 5 ∷ 0 ∷ 2 ∷ 3 ∷ 16 ∷ 0 ∷ 4 ∷ 5 ∷ w ∷ w ∷ [];
      errors = 1 ∷ 2 ∷ 0 ∷ 4 ∷ 4 ∷ 4 ∷ 1 ∷ w ∷ [];
    }
unfolding turns on_open looked_up comma_between line_of kind_of length_at kind_number_at tokens_from all_tokens checked_from checked outcome walked filled
text-four w = refl
