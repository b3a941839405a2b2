-- Texts, from their bytes to their events, through the joined entry: document 01's fourteen where they are documents, the further texts that stand
-- with them, and texts at which the lexer takes more than TOML 1.0.0 has. Assumes nothing.
use Rattle.std.specs.Prelude.{ℕ, ◌*◌, ◌-◌, List, [], ◌∷◌, ◌++◌, length}
use Rattle.rules.specs.Entries.{Entry, document_entry, key_entry, simple_key_entry, value_entry}
use Rattle.rules.specs.Answer.{as_crate, event_size, error_size, joined}
use Rattle.rules.specs.Texts.{Text, texts, further_texts}
use Rattle.rules.specs.TextWords.{record_bytes, words, simple_key, key_val_sep, scalar, basic_scalar, newline, whitespace, error, reported}
use Rattle.text_rules.specs.Ascii.{ascii}
use Rattle.text_rules.specs.TextOutcome.{TextOutcome, text_outcome}

-- the readings of a list of texts that are read by the document entry: texts 10 and 11 of document 01 are read by the key entry and have no Eof
abbrev pub kept_at : Entry → Text → List Text → List Text
kept_at document_entry t ts = t ∷ ts
kept_at key_entry t ts = ts
kept_at simple_key_entry t ts = ts
kept_at value_entry t ts = ts

abbrev pub documents_of : List Text → List Text
documents_of [] = []
documents_of (t ∷ ts) = kept_at t.entry t (documents_of ts)

-- what they are read as: the tokens, events and reports of rules/specs/Texts.antt
unfoldable pub readings : List Text
readings = documents_of (texts ++ further_texts)

-- and their bytes, in the same order
unfoldable pub document_texts : List (List ℕ)
document_texts =
    -- document 01's, 1 to 9 and 12 to 14
    ascii ""
    ∷ ascii "a=1"
    ∷ ascii "[a]\n"
    ∷ ascii "[[a]\n"
    ∷ ascii "[=\n"
    ∷ ascii "x={[x]}"
    ∷ ascii "x={a=}"
    ∷ ascii "x={}"
    ∷ ascii "x={a=["
    ∷ ascii "x=[1 2,]"
    ∷ ascii "x=[1 \"b\"]"
    ∷ ascii "x=[}]"
    -- the further ones
    ∷ ascii "y=[1,2]\nx={a=}"
    ∷ ascii "[=ledger]\n"
    ∷ ascii "[]\n"
    ∷ ascii "a=\n"
    ∷ []

-- in buffers of so many bytes and words that all hold w: the answer, what is written, what is left as it was
abbrev pub record_buffer : ℕ
record_buffer = 96

abbrev pub word_buffer : ℕ
word_buffer = 64

abbrev pub outcomes_of : ℕ → List (List ℕ) → List TextOutcome
outcomes_of w [] = []
outcomes_of w (t ∷ ts) = text_outcome as_crate t (words w record_buffer) (words w word_buffer) (words w word_buffer) ∷ outcomes_of w ts

abbrev pub outcomes_written : ℕ → List Text → List TextOutcome
outcomes_written w [] = []
outcomes_written w (t ∷ ts) =
    record {
      answer = record { refusal = 0; place = 0; base = 0; records = length t.pieces; events = length t.events; errors = length t.errors };
      records = record_bytes t.pieces ++ words w (record_buffer - 6 * length t.pieces);
      events = joined t.events ++ words w (word_buffer - event_size * length t.events);
      errors = joined t.errors ++ words w (word_buffer - error_size * length t.errors);
    }
    ∷ outcomes_written w ts

-- a text with the events and the reports that it gives
pub record Given : Type 0 where
  pub text : List ℕ
  pub base : ℕ
  pub events : List (List ℕ)
  pub reports : List (List ℕ)

abbrev pub gives : List ℕ → ℕ → List (List ℕ) → List (List ℕ) → Given
gives text base events reports = record { text = text; base = base; events = events; reports = reports }

-- scalars by their encoding
abbrev pub literal_scalar : ℕ → ℕ → List ℕ
literal_scalar a b = 8 ∷ 1 ∷ a ∷ b ∷ []

abbrev pub ml_literal_scalar : ℕ → ℕ → List ℕ
ml_literal_scalar a b = 8 ∷ 3 ∷ a ∷ b ∷ []

abbrev pub ml_basic_scalar : ℕ → ℕ → List ℕ
ml_basic_scalar a b = 8 ∷ 4 ∷ a ∷ b ∷ []

abbrev pub comment : ℕ → ℕ → List ℕ
comment a b = 15 ∷ 0 ∷ a ∷ b ∷ []

-- where the lexer takes more than TOML 1.0.0 has. A run with no report and no event of empty span is quiet
unfoldable pub strange_texts : List Given
strange_texts =
    -- a string that is not closed ends with the line or the text, with the CR before the line feed
    gives (ascii "a='") 0 (simple_key 0 1 ∷ key_val_sep 1 2 ∷ literal_scalar 2 3 ∷ []) []
    ∷ gives (ascii "a=\"b\n") 0 (simple_key 0 1 ∷ key_val_sep 1 2 ∷ basic_scalar 2 4 ∷ newline 4 5 ∷ []) []
    ∷ gives (ascii "a='b\r\n") 0 (simple_key 0 1 ∷ key_val_sep 1 2 ∷ literal_scalar 2 5 ∷ newline 5 6 ∷ []) []
    -- three quotes that are not closed swallow the rest: the header and the pair are gone
    ∷ gives (ascii "a='''\n[b]\nc=1\n") 0 (simple_key 0 1 ∷ key_val_sep 1 2 ∷ ml_literal_scalar 2 14 ∷ []) []
    -- eight apostrophes are one string, the ninth starts another
    ∷ gives (ascii "a=''''''''") 0 (simple_key 0 1 ∷ key_val_sep 1 2 ∷ ml_literal_scalar 2 10 ∷ []) []
    ∷ gives (ascii "a='''''''''") 0 (simple_key 0 1 ∷ key_val_sep 1 2 ∷ ml_literal_scalar 2 10 ∷ error 10 11 ∷ []) (reported 23 11 10 11 10 10 1 ∷ [])
    -- an escape takes one quote, and is not judged
    ∷ gives (ascii "a=\"\"\"\\\"\"\"") 0 (simple_key 0 1 ∷ key_val_sep 1 2 ∷ ml_basic_scalar 2 9 ∷ []) []
    ∷ gives (ascii "a=\"\\q\"") 0 (simple_key 0 1 ∷ key_val_sep 1 2 ∷ basic_scalar 2 6 ∷ []) []
    -- a lone CR ends a line, and a comment
    ∷ gives (ascii "a=1\rb=2") 0 (simple_key 0 1 ∷ key_val_sep 1 2 ∷ scalar 2 3 ∷ newline 3 4 ∷ simple_key 4 5 ∷ key_val_sep 5 6 ∷ scalar 6 7 ∷ []) []
    ∷ gives (ascii "#a\r") 0 (comment 0 2 ∷ newline 2 3 ∷ []) []
    -- but not a string
    ∷ gives (ascii "a='b\rc'") 0 (simple_key 0 1 ∷ key_val_sep 1 2 ∷ literal_scalar 2 7 ∷ []) []
    -- any bytes that start no other token are an atom, quotes in it too: NUL; é, two bytes
    ∷ gives (97 ∷ 61 ∷ 0 ∷ []) 0 (simple_key 0 1 ∷ key_val_sep 1 2 ∷ scalar 2 3 ∷ []) []
    ∷ gives (195 ∷ 169 ∷ 61 ∷ 195 ∷ 169 ∷ []) 0 (simple_key 0 2 ∷ key_val_sep 2 3 ∷ scalar 3 5 ∷ []) []
    ∷ gives (ascii "a=1\"2\"") 0 (simple_key 0 1 ∷ key_val_sep 1 2 ∷ scalar 2 6 ∷ []) []
    ∷ gives (ascii "a=\"b\"c") 0 (simple_key 0 1 ∷ key_val_sep 1 2 ∷ basic_scalar 2 5 ∷ error 5 6 ∷ []) (reported 23 11 5 6 5 5 1 ∷ [])
    -- a byte order mark is skipped, a second one is an atom
    ∷ gives (239 ∷ 187 ∷ 191 ∷ []) 3 [] []
    ∷ gives (239 ∷ 187 ∷ 191 ∷ 97 ∷ 61 ∷ 239 ∷ 187 ∷ 191 ∷ []) 3 (simple_key 3 4 ∷ key_val_sep 4 5 ∷ scalar 5 8 ∷ []) []
    -- unquoted scalars are not judged; whitespace and then a dot do not go on with one
    ∷ gives (ascii "a=1.") 0 (simple_key 0 1 ∷ key_val_sep 1 2 ∷ scalar 2 4 ∷ []) []
    ∷ gives (ascii "a=1 .") 0 (simple_key 0 1 ∷ key_val_sep 1 2 ∷ scalar 2 3 ∷ whitespace 3 4 ∷ error 4 5 ∷ []) (reported 23 11 3 5 4 4 1 ∷ [])
    ∷ []

-- the base, events and reports that are answered, and what the buffers begin with
pub record Told : Type 0 where
  pub refusal : ℕ
  pub base : ℕ
  pub events : List ℕ
  pub reports : List ℕ

abbrev pub told_by : List Given → List Told
told_by [] = []
told_by (g ∷ gs) =
    (let o = text_outcome as_crate g.text (words 0 record_buffer) (words 0 word_buffer) (words 0 word_buffer) in
    record { refusal = o.answer.refusal; base = o.answer.base; events = o.events; reports = o.errors }) ∷ told_by gs

abbrev pub as_given : List Given → List Told
as_given [] = []
as_given (g ∷ gs) =
    record {
      refusal = 0;
      base = g.base;
      events = joined g.events ++ words 0 (word_buffer - event_size * length g.events);
      reports = joined g.reports ++ words 0 (word_buffer - error_size * length g.reports);
    }
    ∷ as_given gs
