-- Which tokens a text has: lexer/mod.rs, function by function, with TOML 1.0.0's grammar for each token and where the function takes
-- more. The bytes that a lex function gets are those behind what its token is known to start with, and its answer is how many
-- of them are the token's too. Assumes nothing.
use Rattle.std.specs.Prelude.{Bool, true, false, cond, ◌&&◌, ◌||◌, not, List, [], ◌∷◌, ℕ, zero, suc, ◌+◌, drop, eqb}
use Rattle.token.specs.declared.kind.Kind.{Kind}
use Rattle.token.specs.declared.kind.Kind.TheVariants.{Dot, Equals, Comma, LeftSquareBracket, RightSquareBracket, LeftCurlyBracket, RightCurlyBracket, Whitespace, Comment, Newline, LiteralString, BasicString, MlLiteralString, MlBasicString, Atom, Eof}
use Rattle.token.specs.Tokens.{Tok, tok}
use Rattle.places.specs.Places.{is_byte, peeks, starts_with}
use Rattle.scan.specs.declared.start.Start.{Start}
use Rattle.scan.specs.Bytes.{tab, line_feed, carriage_return, space, quotation_mark, number_sign, apostrophe, comma, dot, equals, left_square_bracket, backslash, right_square_bracket, left_curly_bracket, right_curly_bracket}

-- what a token starts with: the arms of process_token
unfoldable pub start_of : ℕ → Start
start_of b =
    cond (eqb b dot) Start.Dot
    (cond (eqb b equals) Start.Equals
    (cond (eqb b comma) Start.Comma
    (cond (eqb b left_square_bracket) Start.LeftSquareBracket
    (cond (eqb b right_square_bracket) Start.RightSquareBracket
    (cond (eqb b left_curly_bracket) Start.LeftCurlyBracket
    (cond (eqb b right_curly_bracket) Start.RightCurlyBracket
    (cond (eqb b space) Start.Wschar
    (cond (eqb b tab) Start.Wschar
    (cond (eqb b number_sign) Start.CommentStartSymbol
    (cond (eqb b carriage_return) Start.CarriageReturn
    (cond (eqb b line_feed) Start.LineFeed
    (cond (eqb b apostrophe) Start.Apostrophe
    (cond (eqb b quotation_mark) Start.QuotationMark
    Start.Other)))))))))))))

-- TOKEN_START: what ends an atom. Quotes do not, "in case the opening quote was missing"
abbrev pub token_start : Start → Bool
token_start Start.Dot = true
token_start Start.Equals = true
token_start Start.Comma = true
token_start Start.LeftSquareBracket = true
token_start Start.RightSquareBracket = true
token_start Start.LeftCurlyBracket = true
token_start Start.RightCurlyBracket = true
token_start Start.Wschar = true
token_start Start.CommentStartSymbol = true
token_start Start.CarriageReturn = true
token_start Start.LineFeed = true
token_start Start.Apostrophe = false
token_start Start.QuotationMark = false
token_start Start.Other = false

-- WSCHAR
abbrev pub wschar : Start → Bool
wschar Start.Dot = false
wschar Start.Equals = false
wschar Start.Comma = false
wschar Start.LeftSquareBracket = false
wschar Start.RightSquareBracket = false
wschar Start.LeftCurlyBracket = false
wschar Start.RightCurlyBracket = false
wschar Start.Wschar = true
wschar Start.CommentStartSymbol = false
wschar Start.CarriageReturn = false
wschar Start.LineFeed = false
wschar Start.Apostrophe = false
wschar Start.QuotationMark = false
wschar Start.Other = false

-- what ends whitespace, a comment, an atom
abbrev pub ends_whitespace : ℕ → Bool
ends_whitespace b = not (wschar (start_of b))

abbrev pub ends_comment : ℕ → Bool
ends_comment b = eqb b carriage_return || eqb b line_feed

abbrev pub ends_atom : ℕ → Bool
ends_atom b = token_start (start_of b)

-- how many bytes there are before the first of the set, or to the end
unfoldable pub until : (ℕ → Bool) → List ℕ → ℕ
until set [] = 0
until set (b ∷ bs) = cond (set b) 0 (suc (until set bs))

-- ws = *wschar. As TOML has it
abbrev pub lex_whitespace : List ℕ → ℕ
lex_whitespace bs = until ends_whitespace bs

-- comment = comment-start-symbol *non-eol. Wider: control characters other than CR and LF are taken too
abbrev pub lex_comment : List ℕ → ℕ
lex_comment bs = until ends_comment bs

-- newline = LF / CRLF. Wider: a CR alone is a newline
abbrev pub lex_crlf : List ℕ → ℕ
lex_crlf bs = cond (peeks (is_byte line_feed) bs) 1 0

-- literal-string = apostrophe *literal-char apostrophe. Wider: one that is not closed goes to the LF, or to the end; control
-- characters, CR among them, are taken too
unfoldable pub lex_literal_string : List ℕ → ℕ
lex_literal_string [] = 0
lex_literal_string (b ∷ bs) = cond (eqb b apostrophe) 1 (cond (eqb b line_feed) 0 (suc (lex_literal_string bs)))

-- ml-literal-string-delim = 3apostrophe, ml-basic-string-delim = 3quotation-mark
abbrev pub three_of : ℕ → List ℕ
three_of quote = quote ∷ quote ∷ quote ∷ []

-- [ mll-quotes ], [ mlb-quotes ]: of the quotes behind the closing three the first two are content
abbrev pub up_to_two : ℕ → List ℕ → ℕ
up_to_two quote bs = cond (peeks (is_byte quote) bs) (cond (peeks (is_byte quote) (drop 1 bs)) 2 1) 0

-- ml-literal-string = ml-literal-string-delim [ newline ] ml-literal-body ml-literal-string-delim. Wider: one that is not closed
-- goes to the end; control characters, a lone CR among them, are taken too
unfoldable pub lex_ml_literal_string : List ℕ → ℕ
lex_ml_literal_string [] = 0
lex_ml_literal_string (b ∷ bs) =
    cond (starts_with (three_of apostrophe) (b ∷ bs)) (3 + up_to_two apostrophe (drop 2 bs)) (suc (lex_ml_literal_string bs))

-- escaped = escape escape-seq-char. Wider: what follows an escape is not judged; a backslash or a quotation mark goes with it
unfoldable pub escapable : ℕ → Bool
escapable b = eqb b backslash || eqb b quotation_mark

-- does this byte take the next with it?
abbrev pub takes_next : ℕ → List ℕ → Bool
takes_next b bs = eqb b backslash && peeks escapable bs

abbrev pub taken : ℕ → List ℕ → ℕ
taken b bs = cond (takes_next b bs) 1 0

-- basic-string = quotation-mark *basic-char quotation-mark. Wider: as with literal strings. `escaped`: the first byte goes with the
-- escape before it
unfoldable pub lex_basic_string : Bool → List ℕ → ℕ
lex_basic_string escaped [] = 0
lex_basic_string true (b ∷ bs) = suc (lex_basic_string false bs)
lex_basic_string false (b ∷ bs) =
    cond (eqb b quotation_mark) 1 (cond (eqb b line_feed) 0 (suc (lex_basic_string (takes_next b bs) bs)))

-- ml-basic-string = ml-basic-string-delim [ newline ] ml-basic-body ml-basic-string-delim. Wider: as with multi-line literal strings
unfoldable pub lex_ml_basic_string : Bool → List ℕ → ℕ
lex_ml_basic_string escaped [] = 0
lex_ml_basic_string true (b ∷ bs) = suc (lex_ml_basic_string false bs)
lex_ml_basic_string false (b ∷ bs) =
    cond (starts_with (three_of quotation_mark) (b ∷ bs)) (3 + up_to_two quotation_mark (drop 2 bs)) (suc (lex_ml_basic_string (takes_next b bs) bs))

-- unquoted-key, boolean, integer, float, date-time. Wider: "everything else", any bytes up to one that starts a token
abbrev pub lex_atom : List ℕ → ℕ
lex_atom bs = until ends_atom bs

-- a token: its kind, and how many bytes it has behind its first
pub record Piece : Type 0 where
  pub kind : Kind
  pub more : ℕ

abbrev pub piece : Kind → ℕ → Piece
piece kind more = record { kind = kind; more = more }

-- process_token: the token that starts with b, which is of the class
abbrev pub process_token : Start → ℕ → List ℕ → Piece
process_token Start.Dot b bs = piece Dot 0
process_token Start.Equals b bs = piece Equals 0
process_token Start.Comma b bs = piece Comma 0
process_token Start.LeftSquareBracket b bs = piece LeftSquareBracket 0
process_token Start.RightSquareBracket b bs = piece RightSquareBracket 0
process_token Start.LeftCurlyBracket b bs = piece LeftCurlyBracket 0
process_token Start.RightCurlyBracket b bs = piece RightCurlyBracket 0
process_token Start.Wschar b bs = piece Whitespace (lex_whitespace bs)
process_token Start.CommentStartSymbol b bs = piece Comment (lex_comment bs)
process_token Start.CarriageReturn b bs = piece Newline (lex_crlf bs)
process_token Start.LineFeed b bs = piece Newline 0
process_token Start.Apostrophe b bs =
    cond (starts_with (three_of apostrophe) (b ∷ bs))
    (piece MlLiteralString (2 + lex_ml_literal_string (drop 2 bs)))
    (piece LiteralString (lex_literal_string bs))
process_token Start.QuotationMark b bs =
    cond (starts_with (three_of quotation_mark) (b ∷ bs))
    (piece MlBasicString (2 + lex_ml_basic_string false (drop 2 bs)))
    (piece BasicString (lex_basic_string false bs))
process_token Start.Other b bs = piece Atom (lex_atom bs)

abbrev pub piece_of : ℕ → List ℕ → Piece
piece_of b bs = process_token (start_of b) b bs

-- Lexer::next, to the end: the tokens of the bytes, the first of which starts at p; the first `inside` bytes are of the token before
unfoldable pub lexer : ℕ → ℕ → List ℕ → List Tok
lexer inside p [] = tok Eof p p ∷ []
lexer (suc inside) p (b ∷ bs) = lexer inside p bs
lexer zero p (b ∷ bs) = tok (piece_of b bs).kind p (p + suc (piece_of b bs).more) ∷ lexer (piece_of b bs).more (p + suc (piece_of b bs).more) bs

-- the tokens of a text from a place on
abbrev pub tokens_from : List ℕ → ℕ → List Tok
tokens_from text at = lexer 0 at (drop at text)

-- BOM
abbrev pub byte_order_mark : List ℕ
byte_order_mark = 239 ∷ 187 ∷ 191 ∷ []

-- Lexer::new: where the tokens start, behind a byte order mark
abbrev pub base_of : List ℕ → ℕ
base_of text = cond (starts_with byte_order_mark text) 3 0

-- the tokens of a text
unfoldable pub tokens_of : List ℕ → List Tok
tokens_of text = tokens_from text (base_of text)
