-- What document.rs says nothing about, by number: messages from 101 on, each with what is expected there. Assumes nothing.
use Rattle.std.specs.Prelude.{ℕ, cond, eqb}

-- `key missing`: a key part was invented
abbrev pub key_missing : ℕ
key_missing = 101

-- `value missing`: a value was invented
abbrev pub value_missing : ℕ
value_missing = 102

-- `text skipped`: tokens that have no place where they stand
abbrev pub text_skipped : ℕ
text_skipped = 103

-- `multi-line string as key`
abbrev pub multi_line_string : ℕ
multi_line_string = 104

-- `bracket not closed`: an array or inline table was given up
abbrev pub bracket_not_closed : ℕ
bracket_not_closed = 105

-- `something missing`: anything else was invented
abbrev pub something_missing : ℕ
something_missing = 106

-- the message for an event of this kind that has an empty span: 5 is simple_key, 8 scalar, 11 array_close, 13 inline_table_close
abbrev pub missing : ℕ → ℕ
missing kind =
    cond (eqb kind 5) key_missing
    (cond (eqb kind 8) value_missing
    (cond (eqb kind 11) bracket_not_closed
    (cond (eqb kind 13) bracket_not_closed
    something_missing)))

-- what is expected, by document 01's numbers: 4 a key, 6 a value, 14 a key part that is no multi-line string, 1 nothing in particular
abbrev pub expected_by : ℕ → ℕ
expected_by message =
    cond (eqb message key_missing) 4
    (cond (eqb message value_missing) 6
    (cond (eqb message multi_line_string) 14
    1))
