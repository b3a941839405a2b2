-- The bytes that the lexer knows by name. Assumes nothing.
use Rattle.std.specs.Prelude.{ℕ}

abbrev pub tab : ℕ
tab = 9

abbrev pub line_feed : ℕ
line_feed = 10

abbrev pub carriage_return : ℕ
carriage_return = 13

abbrev pub space : ℕ
space = 32

abbrev pub quotation_mark : ℕ
quotation_mark = 34

abbrev pub number_sign : ℕ
number_sign = 35

abbrev pub apostrophe : ℕ
apostrophe = 39

abbrev pub comma : ℕ
comma = 44

abbrev pub dot : ℕ
dot = 46

abbrev pub equals : ℕ
equals = 61

abbrev pub left_square_bracket : ℕ
left_square_bracket = 91

abbrev pub backslash : ℕ
backslash = 92

abbrev pub right_square_bracket : ℕ
right_square_bracket = 93

abbrev pub left_curly_bracket : ℕ
left_curly_bracket = 123

abbrev pub right_curly_bracket : ℕ
right_curly_bracket = 125
