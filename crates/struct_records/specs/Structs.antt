-- The record bytes of token structs. Assumes nothing.
use Rattle.std.specs.Prelude.{◌≡◌, List, [], ◌∷◌, ◌++◌, ℕ, ◌*◌, ◌<◌, ◌^◌, length, Option, Some, None}
use Rattle.rules.specs.declared.answer.Answer.{Answer}
use Rattle.rules.specs.declared.options.Options.{Options}
use Rattle.choices.specs.Modes.{chosen_by, unknown_mode}
use Rattle.token.specs.Limits.{max_records}
use Rattle.token.specs.Records.{length_at, kind_number_at}
use Rattle.token.specs.Writing.{record_of}
use Rattle.struct_records.specs.declared.Token.{Token}

-- the records of a list of structs, one after the other: of each its length and its kind
unfoldable pub records_of : List Token → List ℕ
records_of [] = []
records_of (t ∷ ts) = record_of t.length t.kind ++ records_of ts

-- n structs give n records of six bytes, and no byte more; and in the records of a list the record of a struct, whose fields have 32 and 16
-- bits, has its length and its kind
pub record KindsAndLengthsKept : Type 0 where
  pub records : (tokens : List Token) → length (records_of tokens) ≡ 6 * length tokens
  pub lengths : (before : List Token) (t : Token) (behind : List Token) → t.length < 2 ^ 32 → length_at (records_of (before ++ (t ∷ behind))) (length before) ≡ t.length
  pub kinds : (before : List Token) (t : Token) (behind : List Token) → t.kind < 2 ^ 16 → kind_number_at (records_of (before ++ (t ∷ behind))) (length before) ≡ t.kind

-- the answer to more structs than there may be records: an unknown mode is refused before it
abbrev pub too_many_by : Option Options → Answer
too_many_by (Some options) = record { refusal = 2; place = max_records; events = 0; errors = 0 }
too_many_by None = unknown_mode

abbrev pub too_many : ℕ → Answer
too_many mode = too_many_by (chosen_by mode)
