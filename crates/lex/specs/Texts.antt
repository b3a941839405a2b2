-- Texts and their tokens: document 01's, and those that show where the tokens differ from TOML 1.0.0, as lexer/mod.rs reads them. A text is its
-- bytes; a token its kind, start and end. Assumes nothing.
use Rattle.std.specs.Prelude.{List, [], ◌∷◌, ℕ, length}
use Rattle.token.specs.declared.kind.Kind.TheVariants.{Dot, Equals, Comma, LeftSquareBracket, RightSquareBracket, LeftCurlyBracket, RightCurlyBracket, Whitespace, Comment, Newline, LiteralString, BasicString, MlLiteralString, MlBasicString, Atom, Eof}
use Rattle.token.specs.Tokens.{Tok, tok}
use Rattle.utf8_sequences.specs.Utf8.{valid_up_to}
use Rattle.scan.specs.Lexer.{tokens_of, base_of}

-- the bytes, where the tokens start, and the tokens
pub record Text : Type 0 where
  pub bytes : List ℕ
  pub base : ℕ
  pub tokens : List Tok

abbrev pub text : List ℕ → ℕ → List Tok → Text
text bytes base tokens = record { bytes = bytes; base = base; tokens = tokens }

unfoldable pub texts : List Text
texts =
    -- document 01's texts, as texts; 10 and 11 are token lists without Eof
    -- 1: empty
    text ([]) 0 (tok Eof 0 0 ∷ [])
    -- 2: `a=1`
    ∷ text (97 ∷ 61 ∷ 49 ∷ []) 0 (tok Atom 0 1 ∷ tok Equals 1 2 ∷ tok Atom 2 3 ∷ tok Eof 3 3 ∷ [])
    -- 3: `[a]` and a newline
    ∷ text (91 ∷ 97 ∷ 93 ∷ 10 ∷ []) 0 (tok LeftSquareBracket 0 1 ∷ tok Atom 1 2 ∷ tok RightSquareBracket 2 3 ∷ tok Newline 3 4 ∷ tok Eof 4 4 ∷ [])
    -- 4: `[[a]` and a newline
    ∷ text (91 ∷ 91 ∷ 97 ∷ 93 ∷ 10 ∷ []) 0 (tok LeftSquareBracket 0 1 ∷ tok LeftSquareBracket 1 2 ∷ tok Atom 2 3 ∷ tok RightSquareBracket 3 4 ∷ tok Newline 4 5 ∷ tok Eof 5 5 ∷ [])
    -- 5: `[=` and a newline
    ∷ text (91 ∷ 61 ∷ 10 ∷ []) 0 (tok LeftSquareBracket 0 1 ∷ tok Equals 1 2 ∷ tok Newline 2 3 ∷ tok Eof 3 3 ∷ [])
    -- 6: `x={[x]}`
    ∷ text (120 ∷ 61 ∷ 123 ∷ 91 ∷ 120 ∷ 93 ∷ 125 ∷ []) 0 (tok Atom 0 1 ∷ tok Equals 1 2 ∷ tok LeftCurlyBracket 2 3 ∷ tok LeftSquareBracket 3 4 ∷ tok Atom 4 5 ∷ tok RightSquareBracket 5 6 ∷ tok RightCurlyBracket 6 7 ∷ tok Eof 7 7 ∷ [])
    -- 7: `x={a=}`
    ∷ text (120 ∷ 61 ∷ 123 ∷ 97 ∷ 61 ∷ 125 ∷ []) 0 (tok Atom 0 1 ∷ tok Equals 1 2 ∷ tok LeftCurlyBracket 2 3 ∷ tok Atom 3 4 ∷ tok Equals 4 5 ∷ tok RightCurlyBracket 5 6 ∷ tok Eof 6 6 ∷ [])
    -- 8: `x={}`
    ∷ text (120 ∷ 61 ∷ 123 ∷ 125 ∷ []) 0 (tok Atom 0 1 ∷ tok Equals 1 2 ∷ tok LeftCurlyBracket 2 3 ∷ tok RightCurlyBracket 3 4 ∷ tok Eof 4 4 ∷ [])
    -- 9: `x={a=[`
    ∷ text (120 ∷ 61 ∷ 123 ∷ 97 ∷ 61 ∷ 91 ∷ []) 0 (tok Atom 0 1 ∷ tok Equals 1 2 ∷ tok LeftCurlyBracket 2 3 ∷ tok Atom 3 4 ∷ tok Equals 4 5 ∷ tok LeftSquareBracket 5 6 ∷ tok Eof 6 6 ∷ [])
    -- 12: `x=[1 2,]`
    ∷ text (120 ∷ 61 ∷ 91 ∷ 49 ∷ 32 ∷ 50 ∷ 44 ∷ 93 ∷ []) 0 (tok Atom 0 1 ∷ tok Equals 1 2 ∷ tok LeftSquareBracket 2 3 ∷ tok Atom 3 4 ∷ tok Whitespace 4 5 ∷ tok Atom 5 6 ∷ tok Comma 6 7 ∷ tok RightSquareBracket 7 8 ∷ tok Eof 8 8 ∷ [])
    -- 13: `x=[1 "b"]`
    ∷ text (120 ∷ 61 ∷ 91 ∷ 49 ∷ 32 ∷ 34 ∷ 98 ∷ 34 ∷ 93 ∷ []) 0 (tok Atom 0 1 ∷ tok Equals 1 2 ∷ tok LeftSquareBracket 2 3 ∷ tok Atom 3 4 ∷ tok Whitespace 4 5 ∷ tok BasicString 5 8 ∷ tok RightSquareBracket 8 9 ∷ tok Eof 9 9 ∷ [])
    -- 14: `x=[}]`
    ∷ text (120 ∷ 61 ∷ 91 ∷ 125 ∷ 93 ∷ []) 0 (tok Atom 0 1 ∷ tok Equals 1 2 ∷ tok LeftSquareBracket 2 3 ∷ tok RightCurlyBracket 3 4 ∷ tok RightSquareBracket 4 5 ∷ tok Eof 5 5 ∷ [])
    -- where the tokens differ from TOML 1.0.0: strings that are not closed, to the end of the text or of the line
    -- `'`
    ∷ text (39 ∷ []) 0 (tok LiteralString 0 1 ∷ tok Eof 1 1 ∷ [])
    -- `"`
    ∷ text (34 ∷ []) 0 (tok BasicString 0 1 ∷ tok Eof 1 1 ∷ [])
    -- `'a`, LF
    ∷ text (39 ∷ 97 ∷ 10 ∷ []) 0 (tok LiteralString 0 2 ∷ tok Newline 2 3 ∷ tok Eof 3 3 ∷ [])
    -- `"a`, LF
    ∷ text (34 ∷ 97 ∷ 10 ∷ []) 0 (tok BasicString 0 2 ∷ tok Newline 2 3 ∷ tok Eof 3 3 ∷ [])
    -- `'a`, CR, LF: the CR is in the string
    ∷ text (39 ∷ 97 ∷ 13 ∷ 10 ∷ []) 0 (tok LiteralString 0 3 ∷ tok Newline 3 4 ∷ tok Eof 4 4 ∷ [])
    -- `'a`, LF, `'`: two strings
    ∷ text (39 ∷ 97 ∷ 10 ∷ 39 ∷ []) 0 (tok LiteralString 0 2 ∷ tok Newline 2 3 ∷ tok LiteralString 3 4 ∷ tok Eof 4 4 ∷ [])
    -- `'''`
    ∷ text (39 ∷ 39 ∷ 39 ∷ []) 0 (tok MlLiteralString 0 3 ∷ tok Eof 3 3 ∷ [])
    -- four apostrophes
    ∷ text (39 ∷ 39 ∷ 39 ∷ 39 ∷ []) 0 (tok MlLiteralString 0 4 ∷ tok Eof 4 4 ∷ [])
    -- five apostrophes
    ∷ text (39 ∷ 39 ∷ 39 ∷ 39 ∷ 39 ∷ []) 0 (tok MlLiteralString 0 5 ∷ tok Eof 5 5 ∷ [])
    -- `"""`
    ∷ text (34 ∷ 34 ∷ 34 ∷ []) 0 (tok MlBasicString 0 3 ∷ tok Eof 3 3 ∷ [])
    -- `a='''`, LF, `[b]`, LF: the header is in the string
    ∷ text (97 ∷ 61 ∷ 39 ∷ 39 ∷ 39 ∷ 10 ∷ 91 ∷ 98 ∷ 93 ∷ 10 ∷ []) 0 (tok Atom 0 1 ∷ tok Equals 1 2 ∷ tok MlLiteralString 2 10 ∷ tok Eof 10 10 ∷ [])
    -- quotes behind the closing three: two at most
    -- six apostrophes
    ∷ text (39 ∷ 39 ∷ 39 ∷ 39 ∷ 39 ∷ 39 ∷ []) 0 (tok MlLiteralString 0 6 ∷ tok Eof 6 6 ∷ [])
    -- seven
    ∷ text (39 ∷ 39 ∷ 39 ∷ 39 ∷ 39 ∷ 39 ∷ 39 ∷ []) 0 (tok MlLiteralString 0 7 ∷ tok Eof 7 7 ∷ [])
    -- eight
    ∷ text (39 ∷ 39 ∷ 39 ∷ 39 ∷ 39 ∷ 39 ∷ 39 ∷ 39 ∷ []) 0 (tok MlLiteralString 0 8 ∷ tok Eof 8 8 ∷ [])
    -- nine
    ∷ text (39 ∷ 39 ∷ 39 ∷ 39 ∷ 39 ∷ 39 ∷ 39 ∷ 39 ∷ 39 ∷ []) 0 (tok MlLiteralString 0 8 ∷ tok LiteralString 8 9 ∷ tok Eof 9 9 ∷ [])
    -- ten
    ∷ text (39 ∷ 39 ∷ 39 ∷ 39 ∷ 39 ∷ 39 ∷ 39 ∷ 39 ∷ 39 ∷ 39 ∷ []) 0 (tok MlLiteralString 0 8 ∷ tok LiteralString 8 10 ∷ tok Eof 10 10 ∷ [])
    -- `'''a''''''`
    ∷ text (39 ∷ 39 ∷ 39 ∷ 97 ∷ 39 ∷ 39 ∷ 39 ∷ 39 ∷ 39 ∷ 39 ∷ []) 0 (tok MlLiteralString 0 9 ∷ tok LiteralString 9 10 ∷ tok Eof 10 10 ∷ [])
    -- escapes are not judged; a backslash takes a backslash or a quotation mark with it
    -- `"""\"""`
    ∷ text (34 ∷ 34 ∷ 34 ∷ 92 ∷ 34 ∷ 34 ∷ 34 ∷ []) 0 (tok MlBasicString 0 7 ∷ tok Eof 7 7 ∷ [])
    -- `"\`
    ∷ text (34 ∷ 92 ∷ []) 0 (tok BasicString 0 2 ∷ tok Eof 2 2 ∷ [])
    -- `"\`, LF
    ∷ text (34 ∷ 92 ∷ 10 ∷ []) 0 (tok BasicString 0 2 ∷ tok Newline 2 3 ∷ tok Eof 3 3 ∷ [])
    -- `"""\`
    ∷ text (34 ∷ 34 ∷ 34 ∷ 92 ∷ []) 0 (tok MlBasicString 0 4 ∷ tok Eof 4 4 ∷ [])
    -- `"\q"`
    ∷ text (34 ∷ 92 ∷ 113 ∷ 34 ∷ []) 0 (tok BasicString 0 4 ∷ tok Eof 4 4 ∷ [])
    -- a CR alone is a newline, but for strings; it ends a comment
    -- CR
    ∷ text (13 ∷ []) 0 (tok Newline 0 1 ∷ tok Eof 1 1 ∷ [])
    -- `a=1`, CR, `b=2`
    ∷ text (97 ∷ 61 ∷ 49 ∷ 13 ∷ 98 ∷ 61 ∷ 50 ∷ []) 0 (tok Atom 0 1 ∷ tok Equals 1 2 ∷ tok Atom 2 3 ∷ tok Newline 3 4 ∷ tok Atom 4 5 ∷ tok Equals 5 6 ∷ tok Atom 6 7 ∷ tok Eof 7 7 ∷ [])
    -- CR, CR, LF
    ∷ text (13 ∷ 13 ∷ 10 ∷ []) 0 (tok Newline 0 1 ∷ tok Newline 1 3 ∷ tok Eof 3 3 ∷ [])
    -- `#a`, CR, `b`
    ∷ text (35 ∷ 97 ∷ 13 ∷ 98 ∷ []) 0 (tok Comment 0 2 ∷ tok Newline 2 3 ∷ tok Atom 3 4 ∷ tok Eof 4 4 ∷ [])
    -- `'x`, CR, `y'`
    ∷ text (39 ∷ 120 ∷ 13 ∷ 121 ∷ 39 ∷ []) 0 (tok LiteralString 0 5 ∷ tok Eof 5 5 ∷ [])
    -- `"a`, CR, `b"`
    ∷ text (34 ∷ 97 ∷ 13 ∷ 98 ∷ 34 ∷ []) 0 (tok BasicString 0 5 ∷ tok Eof 5 5 ∷ [])
    -- `'''`, CR, `'''`
    ∷ text (39 ∷ 39 ∷ 39 ∷ 13 ∷ 39 ∷ 39 ∷ 39 ∷ []) 0 (tok MlLiteralString 0 7 ∷ tok Eof 7 7 ∷ [])
    -- controls, marks and what is not ASCII
    -- `#`, NUL
    ∷ text (35 ∷ 0 ∷ []) 0 (tok Comment 0 2 ∷ tok Eof 2 2 ∷ [])
    -- `"`, NUL, `"`
    ∷ text (34 ∷ 0 ∷ 34 ∷ []) 0 (tok BasicString 0 3 ∷ tok Eof 3 3 ∷ [])
    -- `#`, DEL
    ∷ text (35 ∷ 127 ∷ []) 0 (tok Comment 0 2 ∷ tok Eof 2 2 ∷ [])
    -- NUL
    ∷ text (0 ∷ []) 0 (tok Atom 0 1 ∷ tok Eof 1 1 ∷ [])
    -- DEL
    ∷ text (127 ∷ []) 0 (tok Atom 0 1 ∷ tok Eof 1 1 ∷ [])
    -- VT, FF
    ∷ text (11 ∷ 12 ∷ []) 0 (tok Atom 0 2 ∷ tok Eof 2 2 ∷ [])
    -- `\`
    ∷ text (92 ∷ []) 0 (tok Atom 0 1 ∷ tok Eof 1 1 ∷ [])
    -- `@`
    ∷ text (64 ∷ []) 0 (tok Atom 0 1 ∷ tok Eof 1 1 ∷ [])
    -- U+00E9, `=`, U+00E9
    ∷ text (195 ∷ 169 ∷ 61 ∷ 195 ∷ 169 ∷ []) 0 (tok Atom 0 2 ∷ tok Equals 2 3 ∷ tok Atom 3 5 ∷ tok Eof 5 5 ∷ [])
    -- U+00A0
    ∷ text (194 ∷ 160 ∷ []) 0 (tok Atom 0 2 ∷ tok Eof 2 2 ∷ [])
    -- U+0085
    ∷ text (194 ∷ 133 ∷ []) 0 (tok Atom 0 2 ∷ tok Eof 2 2 ∷ [])
    -- U+2028
    ∷ text (226 ∷ 128 ∷ 168 ∷ []) 0 (tok Atom 0 3 ∷ tok Eof 3 3 ∷ [])
    -- U+3000
    ∷ text (227 ∷ 128 ∷ 128 ∷ []) 0 (tok Atom 0 3 ∷ tok Eof 3 3 ∷ [])
    -- U+1F980
    ∷ text (240 ∷ 159 ∷ 166 ∷ 128 ∷ []) 0 (tok Atom 0 4 ∷ tok Eof 4 4 ∷ [])
    -- quotes in an atom start nothing
    -- `a"b"`
    ∷ text (97 ∷ 34 ∷ 98 ∷ 34 ∷ []) 0 (tok Atom 0 4 ∷ tok Eof 4 4 ∷ [])
    -- `a'b c'`
    ∷ text (97 ∷ 39 ∷ 98 ∷ 32 ∷ 99 ∷ 39 ∷ []) 0 (tok Atom 0 3 ∷ tok Whitespace 3 4 ∷ tok Atom 4 6 ∷ tok Eof 6 6 ∷ [])
    -- `a"#"`
    ∷ text (97 ∷ 34 ∷ 35 ∷ 34 ∷ []) 0 (tok Atom 0 2 ∷ tok Comment 2 4 ∷ tok Eof 4 4 ∷ [])
    -- `"a"b`
    ∷ text (34 ∷ 97 ∷ 34 ∷ 98 ∷ []) 0 (tok BasicString 0 3 ∷ tok Atom 3 4 ∷ tok Eof 4 4 ∷ [])
    -- `'a''b'`
    ∷ text (39 ∷ 97 ∷ 39 ∷ 39 ∷ 98 ∷ 39 ∷ []) 0 (tok LiteralString 0 3 ∷ tok LiteralString 3 6 ∷ tok Eof 6 6 ∷ [])
    -- a byte order mark at the start is skipped, and is content elsewhere
    -- BOM
    ∷ text (239 ∷ 187 ∷ 191 ∷ []) 3 (tok Eof 3 3 ∷ [])
    -- BOM, `a`
    ∷ text (239 ∷ 187 ∷ 191 ∷ 97 ∷ []) 3 (tok Atom 3 4 ∷ tok Eof 4 4 ∷ [])
    -- BOM, BOM
    ∷ text (239 ∷ 187 ∷ 191 ∷ 239 ∷ 187 ∷ 191 ∷ []) 3 (tok Atom 3 6 ∷ tok Eof 6 6 ∷ [])
    -- `a=`, BOM, `1`
    ∷ text (97 ∷ 61 ∷ 239 ∷ 187 ∷ 191 ∷ 49 ∷ []) 0 (tok Atom 0 1 ∷ tok Equals 1 2 ∷ tok Atom 2 6 ∷ tok Eof 6 6 ∷ [])
    -- LF, BOM
    ∷ text (10 ∷ 239 ∷ 187 ∷ 191 ∷ []) 0 (tok Newline 0 1 ∷ tok Atom 1 4 ∷ tok Eof 4 4 ∷ [])
    -- unquoted scalars are not judged
    -- `a=.`
    ∷ text (97 ∷ 61 ∷ 46 ∷ []) 0 (tok Atom 0 1 ∷ tok Equals 1 2 ∷ tok Dot 2 3 ∷ tok Eof 3 3 ∷ [])
    -- `a=1.`
    ∷ text (97 ∷ 61 ∷ 49 ∷ 46 ∷ []) 0 (tok Atom 0 1 ∷ tok Equals 1 2 ∷ tok Atom 2 3 ∷ tok Dot 3 4 ∷ tok Eof 4 4 ∷ [])
    -- `a=1 2`
    ∷ text (97 ∷ 61 ∷ 49 ∷ 32 ∷ 50 ∷ []) 0 (tok Atom 0 1 ∷ tok Equals 1 2 ∷ tok Atom 2 3 ∷ tok Whitespace 3 4 ∷ tok Atom 4 5 ∷ tok Eof 5 5 ∷ [])
    -- `x=[1. 5]`
    ∷ text (120 ∷ 61 ∷ 91 ∷ 49 ∷ 46 ∷ 32 ∷ 53 ∷ 93 ∷ []) 0 (tok Atom 0 1 ∷ tok Equals 1 2 ∷ tok LeftSquareBracket 2 3 ∷ tok Atom 3 4 ∷ tok Dot 4 5 ∷ tok Whitespace 5 6 ∷ tok Atom 6 7 ∷ tok RightSquareBracket 7 8 ∷ tok Eof 8 8 ∷ [])
    -- `a=1 .`
    ∷ text (97 ∷ 61 ∷ 49 ∷ 32 ∷ 46 ∷ []) 0 (tok Atom 0 1 ∷ tok Equals 1 2 ∷ tok Atom 2 3 ∷ tok Whitespace 3 4 ∷ tok Dot 4 5 ∷ tok Eof 5 5 ∷ [])
    ∷ []

-- how a text is read: how far it is UTF-8, its base, its tokens
pub record Reading : Type 0 where
  pub valid : ℕ
  pub base : ℕ
  pub tokens : List Tok

-- as written above, every byte of it UTF-8
abbrev pub as_written : List Text → List Reading
as_written [] = []
as_written (t ∷ ts) = record { valid = length t.bytes; base = t.base; tokens = t.tokens } ∷ as_written ts

-- as the rules have it
abbrev pub as_ruled : List Text → List Reading
as_ruled [] = []
as_ruled (t ∷ ts) = record { valid = valid_up_to t.bytes; base = base_of t.bytes; tokens = tokens_of t.bytes } ∷ as_ruled ts
