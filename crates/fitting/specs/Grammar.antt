-- The token grammar of document 01, sentence by sentence, with the key parts that document 02's T-05 asks for. It is that of TOML 1.0.0,
-- wider in one place: whether an unquoted scalar is a number or a date is not judged. `Scalar ts rest` is read: the tokens ts begin with a
-- scalar, and rest is what follows it; so for every other name here with two lists. `tok k a b` is a token of kind k from a to b. Assumes
-- nothing.
use Rattle.std.specs.Prelude.{ℕ, zero, suc, List, [], ◌∷◌}
use Rattle.token.specs.declared.kind.Kind.{Kind}
use Rattle.token.specs.declared.kind.Kind.TheVariants.{Dot, Equals, Comma, LeftSquareBracket, RightSquareBracket, LeftCurlyBracket, RightCurlyBracket, Whitespace, Comment, Newline, LiteralString, BasicString, MlLiteralString, MlBasicString, Atom, Eof}
use Rattle.token.specs.Tokens.{Tok, tok}
use Rattle.rules.specs.declared.skipping.Bracket.{Bracket}

-- "ws?": a Whitespace or nothing
pub data OptWhitespace : List Tok → List Tok → Type 0 where
  no_whitespace : {ts : List Tok} → OptWhitespace ts ts
  a_whitespace : {a b : ℕ} {ts : List Tok} → OptWhitespace (tok Whitespace a b ∷ ts) ts

-- a string of any of the four kinds
pub data AnyString : Kind → Type 0 where
  literal : AnyString LiteralString
  basic : AnyString BasicString
  multi_line_literal : AnyString MlLiteralString
  multi_line_basic : AnyString MlBasicString

-- which kinds may be parts of a key: the definitions below have it as a parameter, P
abbrev pub Parts : Type 1
Parts = Kind → Type 0

-- TOML 1.0.0: a key is bare, or quoted as a basic or a literal string
pub data SingleLine : Kind → Type 0 where
  bare : SingleLine Atom
  quoted_basic : SingleLine BasicString
  quoted_literal : SingleLine LiteralString

-- document 01's own grammar, which a run's silence goes by, has no such limit
abbrev pub AnyKind : Parts
AnyKind k = Unit {0}

-- "parts (Atom or any string)", of a kind that P has
pub data KeyPart (P : Parts) : Kind → Type 0 where
  atom_part : P Atom → KeyPart P Atom
  string_part : {k : Kind} → AnyString k → P k → KeyPart P k

-- "joined by Dot with optional ws round it": no or more further parts, each after a Dot
pub data Dots (P : Parts) : List Tok → List Tok → Type 0 where
  no_dot : {ts : List Tok} → Dots P ts ts
  a_dot : {ts us vs rest : List Tok} {a b c d : ℕ} {k : Kind} → OptWhitespace ts (tok Dot a b ∷ us) → OptWhitespace us (tok k c d ∷ vs) → KeyPart P k → Dots P vs rest → Dots P ts rest

-- "Key: parts joined by Dot"
pub data Key (P : Parts) : List Tok → List Tok → Type 0 where
  a_key : {ts rest : List Tok} {a b : ℕ} {k : Kind} → KeyPart P k → Dots P ts rest → Key P (tok k a b ∷ ts) rest

-- "Scalar: the token sequence of the recovery rule", which is: "a string alone; or Dot or Atom, then any of Dot, Atom, or Whitespace
-- followed by Atom"
pub data DotOrAtom : Kind → Type 0 where
  it_is_dot : DotOrAtom Dot
  it_is_atom : DotOrAtom Atom

-- what follows the first token of an unquoted scalar
pub data UnquotedRest : List Tok → List Tok → Type 0 where
  scalar_ends : {ts : List Tok} → UnquotedRest ts ts
  dot_or_atom : {a b : ℕ} {k : Kind} {ts rest : List Tok} → DotOrAtom k → UnquotedRest ts rest → UnquotedRest (tok k a b ∷ ts) rest
  whitespace_atom : {a b c d : ℕ} {ts rest : List Tok} → UnquotedRest ts rest → UnquotedRest (tok Whitespace a b ∷ tok Atom c d ∷ ts) rest

pub data Scalar : List Tok → List Tok → Type 0 where
  a_string : {k : Kind} {a b : ℕ} {ts : List Tok} → AnyString k → Scalar (tok k a b ∷ ts) ts
  unquoted_scalar : {k : Kind} {a b : ℕ} {ts rest : List Tok} → DotOrAtom k → UnquotedRest ts rest → Scalar (tok k a b ∷ ts) rest

-- what an opening bracket may be followed by, up to and with its closing bracket: the definitions below have it as a parameter, N
abbrev pub Inside : Type 1
Inside = Bracket → List Tok → List Tok → Type 0

-- "Value: scalar, array or inline table"
pub data Value (N : Inside) : List Tok → List Tok → Type 0 where
  a_scalar : {ts rest : List Tok} → Scalar ts rest → Value N ts rest
  an_array : {a b : ℕ} {ts rest : List Tok} → N Bracket.Square ts rest → Value N (tok LeftSquareBracket a b ∷ ts) rest
  an_inline_table : {a b : ℕ} {ts rest : List Tok} → N Bracket.Curly ts rest → Value N (tok LeftCurlyBracket a b ∷ ts) rest

-- "before, between and after them ws, Newline, Comment with Newline"
pub data Gap : List Tok → List Tok → Type 0 where
  gap_ends : {ts : List Tok} → Gap ts ts
  whitespace_in_gap : {a b : ℕ} {ts rest : List Tok} → Gap ts rest → Gap (tok Whitespace a b ∷ ts) rest
  newline_in_gap : {a b : ℕ} {ts rest : List Tok} → Gap ts rest → Gap (tok Newline a b ∷ ts) rest
  comment_in_gap : {a b c d : ℕ} {ts rest : List Tok} → Gap ts rest → Gap (tok Comment a b ∷ tok Newline c d ∷ ts) rest

-- "values separated by Comma, one trailing Comma allowed after a value, `]`": from a value on
pub data ArrayValues (N : Inside) : List Tok → List Tok → Type 0 where
  last_value : {ts us rest : List Tok} {a b : ℕ} → Value N ts us → Gap us (tok RightSquareBracket a b ∷ rest) → ArrayValues N ts rest
  trailing_comma : {ts us vs rest : List Tok} {a b c d : ℕ} → Value N ts us → Gap us (tok Comma a b ∷ vs) → Gap vs (tok RightSquareBracket c d ∷ rest) → ArrayValues N ts rest
  more_values : {ts us vs ws rest : List Tok} {a b : ℕ} → Value N ts us → Gap us (tok Comma a b ∷ vs) → Gap vs ws → ArrayValues N ws rest → ArrayValues N ts rest

-- "Array: `[`, no or more values": what follows the `[`
pub data ArrayInside (N : Inside) : List Tok → List Tok → Type 0 where
  no_values : {ts rest : List Tok} {a b : ℕ} → Gap ts (tok RightSquareBracket a b ∷ rest) → ArrayInside N ts rest
  some_values : {ts us rest : List Tok} → Gap ts us → ArrayValues N us rest → ArrayInside N ts rest

-- "Pair: key, ws?, Equals, ws?, value"
pub data Pair (P : Parts) (N : Inside) : List Tok → List Tok → Type 0 where
  a_pair : {ts us vs ws rest : List Tok} {a b : ℕ} → Key P ts us → OptWhitespace us (tok Equals a b ∷ vs) → OptWhitespace vs ws → Value N ws rest → Pair P N ts rest

-- "pairs separated by Comma with ws? round each, then `}`": from a pair on
pub data Pairs (P : Parts) (N : Inside) : List Tok → List Tok → Type 0 where
  last_pair : {ts us rest : List Tok} {a b : ℕ} → Pair P N ts us → OptWhitespace us (tok RightCurlyBracket a b ∷ rest) → Pairs P N ts rest
  more_pairs : {ts us vs ws rest : List Tok} {a b : ℕ} → Pair P N ts us → OptWhitespace us (tok Comma a b ∷ vs) → OptWhitespace vs ws → Pairs P N ws rest → Pairs P N ts rest

-- "Inline table: `{` ws? then nothing, or pairs": what follows the `{`
pub data TableInside (P : Parts) (N : Inside) : List Tok → List Tok → Type 0 where
  no_pairs : {ts rest : List Tok} {a b : ℕ} → OptWhitespace ts (tok RightCurlyBracket a b ∷ rest) → TableInside P N ts rest
  some_pairs : {ts us rest : List Tok} → OptWhitespace ts us → Pairs P N us rest → TableInside P N ts rest

-- "Header: `[` ws? key ws? `]`, or the same with two adjacent brackets each side"
pub data Header (P : Parts) : List Tok → List Tok → Type 0 where
  table_header : {ts us vs rest : List Tok} {a b c d : ℕ} → OptWhitespace ts us → Key P us vs → OptWhitespace vs (tok RightSquareBracket c d ∷ rest) → Header P (tok LeftSquareBracket a b ∷ ts) rest
  array_table_header : {ts us vs rest : List Tok} {a b c d e f g h : ℕ} → OptWhitespace ts us → Key P us vs → OptWhitespace vs (tok RightSquareBracket e f ∷ tok RightSquareBracket g h ∷ rest) → Header P (tok LeftSquareBracket a b ∷ tok LeftSquareBracket c d ∷ ts) rest

-- "nothing, pair or header"
pub data Expression (P : Parts) (N : Inside) : List Tok → List Tok → Type 0 where
  no_expression : {ts : List Tok} → Expression P N ts ts
  pair_expression : {ts rest : List Tok} → Pair P N ts rest → Expression P N ts rest
  header_expression : {ts rest : List Tok} → Header P ts rest → Expression P N ts rest

-- "optional Comment"
pub data OptComment : List Tok → List Tok → Type 0 where
  no_comment : {ts : List Tok} → OptComment ts ts
  a_comment : {a b : ℕ} {ts : List Tok} → OptComment (tok Comment a b ∷ ts) ts

-- "Line: optional ws, then nothing, pair or header, optional ws, optional Comment"
pub data Line (P : Parts) (N : Inside) : List Tok → List Tok → Type 0 where
  a_line : {ts us vs ws rest : List Tok} → OptWhitespace ts us → Expression P N us vs → OptWhitespace vs ws → OptComment ws rest → Line P N ts rest

-- "then Newline or the final Eof": a document is lines
pub data Document (P : Parts) (N : Inside) : List Tok → Type 0 where
  line_and_more : {ts rest : List Tok} {a b : ℕ} → Line P N ts (tok Newline a b ∷ rest) → Document P N rest → Document P N ts
  last_line : {ts : List Tok} {a b : ℕ} → Line P N ts (tok Eof a b ∷ []) → Document P N ts

-- what an opening bracket may be followed by where at most n arrays and inline tables are open within one another, with its own
unfoldable pub Nested : Parts → ℕ → Inside
Nested P zero bracket ts rest = ⊥
Nested P (suc n) Bracket.Square ts rest = ArrayInside (Nested P n) ts rest
Nested P (suc n) Bracket.Curly ts rest = TableInside P (Nested P n) ts rest

-- the list fits the grammar with these key parts, with at most n arrays and inline tables open within one another
abbrev pub FitsBy : Parts → ℕ → List Tok → Type 0
FitsBy P n ts = Document P (Nested P n) ts

-- the list fits the grammar: no key is a multi-line string
abbrev pub FitsWithin : ℕ → List Tok → Type 0
FitsWithin n ts = FitsBy SingleLine n ts

abbrev pub Fits : List Tok → Type 0
Fits ts = (n : ℕ) × FitsWithin n ts

-- the list fits the wide grammar, document 01's own, in which a key may be a multi-line string
abbrev pub FitsWideWithin : ℕ → List Tok → Type 0
FitsWideWithin n ts = FitsBy AnyKind n ts

abbrev pub FitsWide : List Tok → Type 0
FitsWide ts = (n : ℕ) × FitsWideWithin n ts
