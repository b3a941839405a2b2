-- The messages of error reports, by the numbers of docs/LAYOUT.md. Assumes nothing.
use Rattle.std.specs.Prelude.{ℕ}

abbrev pub unclosed_array_table : ℕ
unclosed_array_table = 1

abbrev pub unclosed_table : ℕ
unclosed_table = 2

abbrev pub invalid_table : ℕ
invalid_table = 3

abbrev pub invalid_key : ℕ
invalid_key = 4

abbrev pub key_with_no_value : ℕ
key_with_no_value = 5

abbrev pub missing_value_for_key : ℕ
missing_value_for_key = 6

abbrev pub unclosed_array : ℕ
unclosed_array = 7

abbrev pub extra_comma_in_array : ℕ
extra_comma_in_array = 8

abbrev pub unexpected_equals_in_array : ℕ
unexpected_equals_in_array = 9

abbrev pub missing_comma_in_array : ℕ
missing_comma_in_array = 10

abbrev pub missing_inline_table_opening : ℕ
missing_inline_table_opening = 11

abbrev pub comment_in_inline_table : ℕ
comment_in_inline_table = 12

abbrev pub newline_in_inline_table : ℕ
newline_in_inline_table = 13

abbrev pub unclosed_inline_table : ℕ
unclosed_inline_table = 14

abbrev pub extra_comma_in_inline_table : ℕ
extra_comma_in_inline_table = 15

abbrev pub extra_assignment : ℕ
extra_assignment = 16

abbrev pub missing_key_in_inline_table : ℕ
missing_key_in_inline_table = 17

abbrev pub missing_assignment : ℕ
missing_assignment = 18

abbrev pub trailing_comma : ℕ
trailing_comma = 19

abbrev pub invalid_inline_table_element : ℕ
invalid_inline_table_element = 20

abbrev pub missing_array_opening : ℕ
missing_array_opening = 21

abbrev pub missing_comma_in_inline_table : ℕ
missing_comma_in_inline_table = 22

abbrev pub unexpected_key_or_value : ℕ
unexpected_key_or_value = 23

abbrev pub content_after_comment : ℕ
content_after_comment = 24

abbrev pub unexpected_content : ℕ
unexpected_content = 25

abbrev pub invalid_key_value_pair : ℕ
invalid_key_value_pair = 26

abbrev pub missing_table_open : ℕ
missing_table_open = 27

abbrev pub missing_value : ℕ
missing_value = 28

abbrev pub extra_equals : ℕ
extra_equals = 29
