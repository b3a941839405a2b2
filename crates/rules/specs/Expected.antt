-- What an error report says was expected, by the numbers of docs/LAYOUT.md. Assumes nothing.
use Rattle.std.specs.Prelude.{ℕ}

abbrev pub nothing : ℕ
nothing = 1

-- `]`
abbrev pub close_square : ℕ
close_square = 2

-- `]]`
abbrev pub close_squares : ℕ
close_squares = 3

-- key
abbrev pub a_key : ℕ
a_key = 4

-- `=`
abbrev pub equals : ℕ
equals = 5

-- value
abbrev pub a_value : ℕ
a_value = 6

-- value or `]`
abbrev pub value_or_close_square : ℕ
value_or_close_square = 7

-- `,`
abbrev pub comma : ℕ
comma = 8

-- `{`
abbrev pub open_curly : ℕ
open_curly = 9

-- `}`
abbrev pub close_curly : ℕ
close_curly = 10

-- newline or `#`
abbrev pub newline_or_comment : ℕ
newline_or_comment = 11

-- newline
abbrev pub a_newline : ℕ
a_newline = 12

-- `[`
abbrev pub open_square : ℕ
open_square = 13

-- literal string, basic string or unquoted string
abbrev pub key_strings : ℕ
key_strings = 14
