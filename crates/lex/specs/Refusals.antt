-- The refusals of a text, named once. They come before document 01's eight, in this order. Assumes nothing.
use Rattle.std.specs.Prelude.{ℕ}

-- the text is longer than 16,777,216 bytes
abbrev pub text_too_long : ℕ
text_too_long = 9

-- it is not UTF-8
abbrev pub not_utf8 : ℕ
not_utf8 = 10

-- its tokens have no room
abbrev pub no_room_for_tokens : ℕ
no_room_for_tokens = 11
