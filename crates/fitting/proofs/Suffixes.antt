-- What follows a construct of the grammar is a suffix of the list with no Eof before it; so the premises hold of it, and it is no longer.
-- Nothing here needs to be believed.
use mathlib.Core.Path.{◌≡◌, refl}
use mathlib.Core.List.{List, [], ◌∷◌}
use Prim.Native.Nat.{ℕ, zero, suc, ◌≤◌}
use native.Mathlib.Nat.{le_refl, le_step, not-suc-le-zero}
use lib.ListN.{length}
use Rattle.token.specs.declared.kind.Kind.{Kind}
use Rattle.token.specs.declared.kind.Kind.TheVariants.{Dot, Equals, Comma, LeftSquareBracket, RightSquareBracket, LeftCurlyBracket, RightCurlyBracket, Whitespace, Comment, Newline, LiteralString, BasicString, MlLiteralString, MlBasicString, Atom, Eof}
use Rattle.token.specs.Tokens.{Tok, tok}
use Rattle.rules.specs.declared.skipping.Bracket.{Bracket}
use Rattle.fitting.specs.Grammar.{OptWhitespace, no_whitespace, a_whitespace, AnyString, literal, basic, multi_line_literal, multi_line_basic, Parts, KeyPart, atom_part, string_part, Dots, no_dot, a_dot, Key, a_key, DotOrAtom, it_is_dot, it_is_atom, UnquotedRest, scalar_ends, dot_or_atom, whitespace_atom, Scalar, a_string, unquoted_scalar, Inside, Value, a_scalar, an_array, an_inline_table, Gap, gap_ends, whitespace_in_gap, newline_in_gap, comment_in_gap, ArrayValues, last_value, trailing_comma, more_values, ArrayInside, no_values, some_values, Pair, a_pair, Pairs, last_pair, more_pairs, TableInside, no_pairs, some_pairs, Header, table_header, array_table_header, OptComment, no_comment, a_comment, Nested}
use Rattle.fitting.specs.Premises.{OneEofLast, only_eof, before_eof, NoAdjacentWhitespace, no_token, one_token, not_both, Regular}

-- is a kind other than Eof?
abbrev pub NotEof : Kind → Type 0
NotEof Dot = Unit {0}
NotEof Equals = Unit {0}
NotEof Comma = Unit {0}
NotEof LeftSquareBracket = Unit {0}
NotEof RightSquareBracket = Unit {0}
NotEof LeftCurlyBracket = Unit {0}
NotEof RightCurlyBracket = Unit {0}
NotEof Whitespace = Unit {0}
NotEof Comment = Unit {0}
NotEof Newline = Unit {0}
NotEof LiteralString = Unit {0}
NotEof BasicString = Unit {0}
NotEof MlLiteralString = Unit {0}
NotEof MlBasicString = Unit {0}
NotEof Atom = Unit {0}
NotEof Eof = ⊥

pub data Suffix : List Tok → List Tok → Type 0 where
  whole : {ts : List Tok} → Suffix ts ts
  later : {k : Kind} {a b : ℕ} {ts rest : List Tok} → NotEof k → Suffix ts rest → Suffix (tok k a b ∷ ts) rest

pub suffix_trans : {ts us rest : List Tok} → Suffix ts us → Suffix us rest → Suffix ts rest
suffix_trans whole s = s
suffix_trans (later n r) s = later n (suffix_trans r s)

pub suffix_length : {ts rest : List Tok} → Suffix ts rest → length rest ≤ length ts
suffix_length {ts} whole = le_refl (length ts)
suffix_length (later n r) = le_step (suffix_length r)

apart_tail : {t : Tok} {ts : List Tok} → NoAdjacentWhitespace (t ∷ ts) → NoAdjacentWhitespace ts
apart_tail one_token = no_token
apart_tail (not_both n h) = h

ends_tail : {k : Kind} {a b : ℕ} {ts : List Tok} → NotEof k → OneEofLast (tok k a b ∷ ts) → OneEofLast ts
ends_tail n only_eof = absurd n
ends_tail n (before_eof m h) = h

pub regular_tail : {k : Kind} {a b : ℕ} {ts : List Tok} → NotEof k → Regular (tok k a b ∷ ts) → Regular ts
regular_tail n g = record { ends = ends_tail n g.ends; apart = apart_tail g.apart }

pub suffix_regular : {ts rest : List Tok} → Suffix ts rest → Regular ts → Regular rest
suffix_regular whole g = g
suffix_regular (later n s) g = suffix_regular s (regular_tail n g)

some_token : {ts : List Tok} → OneEofLast ts → length ts ≤ 0 → ⊥
some_token only_eof h = not-suc-le-zero h
some_token (before_eof n g) h = not-suc-le-zero h

pub not_empty : Regular [] → ⊥
not_empty g = some_token g.ends (le_refl 0)

-- behind the Eof is nothing
pub eof_last : {a b : ℕ} {ts : List Tok} → OneEofLast (tok Eof a b ∷ ts) → ts ≡ []
eof_last only_eof = refl
eof_last (before_eof n h) = absurd (n refl)

-- optional whitespace goes on with a whitespace before it: there was none
pub widen : {a b : ℕ} {ts rest : List Tok} → Regular (tok Whitespace a b ∷ ts) → OptWhitespace ts rest → OptWhitespace (tok Whitespace a b ∷ ts) rest
widen g no_whitespace = a_whitespace
widen g a_whitespace = absurd (twice g.apart)
  where
    twice : {a b c d : ℕ} {ts : List Tok} → NoAdjacentWhitespace (tok Whitespace a b ∷ tok Whitespace c d ∷ ts) → ⊥
    twice (not_both n h) = n refl refl

-- two optional whitespaces in a row are one
pub whitespace_merge : {ts us rest : List Tok} → OptWhitespace ts us → OptWhitespace us rest → Regular ts → OptWhitespace ts rest
whitespace_merge no_whitespace w g = w
whitespace_merge a_whitespace w g = widen g w

pub string_not_eof : {k : Kind} → AnyString k → NotEof k
string_not_eof literal = tt
string_not_eof basic = tt
string_not_eof multi_line_literal = tt
string_not_eof multi_line_basic = tt

pub part_not_eof : {P : Parts} {k : Kind} → KeyPart P k → NotEof k
part_not_eof (atom_part l) = tt
part_not_eof (string_part s l) = string_not_eof s

pub dot_or_atom_not_eof : {k : Kind} → DotOrAtom k → NotEof k
dot_or_atom_not_eof it_is_dot = tt
dot_or_atom_not_eof it_is_atom = tt

pub suffix_unquoted : {ts rest : List Tok} → UnquotedRest ts rest → Suffix ts rest
suffix_unquoted scalar_ends = whole
suffix_unquoted (dot_or_atom d r) = later (dot_or_atom_not_eof d) (suffix_unquoted r)
suffix_unquoted (whitespace_atom r) = later tt (later tt (suffix_unquoted r))

pub suffix_whitespace : {ts rest : List Tok} → OptWhitespace ts rest → Suffix ts rest
suffix_whitespace no_whitespace = whole
suffix_whitespace a_whitespace = later tt whole

pub suffix_comment : {ts rest : List Tok} → OptComment ts rest → Suffix ts rest
suffix_comment no_comment = whole
suffix_comment a_comment = later tt whole

pub suffix_gap : {ts rest : List Tok} → Gap ts rest → Suffix ts rest
suffix_gap gap_ends = whole
suffix_gap (whitespace_in_gap g) = later tt (suffix_gap g)
suffix_gap (newline_in_gap g) = later tt (suffix_gap g)
suffix_gap (comment_in_gap g) = later tt (later tt (suffix_gap g))

pub suffix_dots : {P : Parts} {ts rest : List Tok} → Dots P ts rest → Suffix ts rest
suffix_dots no_dot = whole
suffix_dots (a_dot v w p d) = suffix_trans (suffix_whitespace v) (later tt (suffix_trans (suffix_whitespace w) (later (part_not_eof p) (suffix_dots d))))

pub suffix_key : {P : Parts} {ts rest : List Tok} → Key P ts rest → Suffix ts rest
suffix_key (a_key p d) = later (part_not_eof p) (suffix_dots d)

pub suffix_scalar : {ts rest : List Tok} → Scalar ts rest → Suffix ts rest
suffix_scalar (a_string s) = later (string_not_eof s) whole
suffix_scalar (unquoted_scalar d r) = later (dot_or_atom_not_eof d) (suffix_unquoted r)

pub scalar_length : {t : Tok} {ts rest : List Tok} → Scalar (t ∷ ts) rest → length rest ≤ length ts
scalar_length (a_string s) = le_refl _
scalar_length (unquoted_scalar d r) = suffix_length (suffix_unquoted r)

pub suffix_header : {P : Parts} {ts rest : List Tok} → Header P ts rest → Suffix ts rest
suffix_header (table_header v k w) = later tt (suffix_trans (suffix_whitespace v) (suffix_trans (suffix_key k) (suffix_trans (suffix_whitespace w) (later tt whole))))
suffix_header (array_table_header v k w) = later tt (later tt (suffix_trans (suffix_whitespace v) (suffix_trans (suffix_key k) (suffix_trans (suffix_whitespace w) (later tt (later tt whole))))))

-- so for what brackets hold, if it is so for what is nested
abbrev pub NestSuffix : Inside → Type 0
NestSuffix N = (r : Bracket) (ts rest : List Tok) → N r ts rest → Suffix ts rest

module _ {N : Inside} (nested : NestSuffix N) where
  pub suffix_value : {ts rest : List Tok} → Value N ts rest → Suffix ts rest
  suffix_value (a_scalar s) = suffix_scalar s
  suffix_value (an_array n) = later tt (nested _ _ _ n)
  suffix_value (an_inline_table n) = later tt (nested _ _ _ n)

  suffix_values : {ts rest : List Tok} → ArrayValues N ts rest → Suffix ts rest
  suffix_values (last_value v g) = suffix_trans (suffix_value v) (suffix_trans (suffix_gap g) (later tt whole))
  suffix_values (trailing_comma v g h) = suffix_trans (suffix_value v) (suffix_trans (suffix_gap g) (later tt (suffix_trans (suffix_gap h) (later tt whole))))
  suffix_values (more_values v g h vs) = suffix_trans (suffix_value v) (suffix_trans (suffix_gap g) (later tt (suffix_trans (suffix_gap h) (suffix_values vs))))

  suffix_array : {ts rest : List Tok} → ArrayInside N ts rest → Suffix ts rest
  suffix_array (no_values g) = suffix_trans (suffix_gap g) (later tt whole)
  suffix_array (some_values g vs) = suffix_trans (suffix_gap g) (suffix_values vs)

  pub suffix_pair : {P : Parts} {ts rest : List Tok} → Pair P N ts rest → Suffix ts rest
  suffix_pair (a_pair k v w y) = suffix_trans (suffix_key k) (suffix_trans (suffix_whitespace v) (later tt (suffix_trans (suffix_whitespace w) (suffix_value y))))

  suffix_pairs : {P : Parts} {ts rest : List Tok} → Pairs P N ts rest → Suffix ts rest
  suffix_pairs (last_pair p w) = suffix_trans (suffix_pair p) (suffix_trans (suffix_whitespace w) (later tt whole))
  suffix_pairs (more_pairs p v w ps) = suffix_trans (suffix_pair p) (suffix_trans (suffix_whitespace v) (later tt (suffix_trans (suffix_whitespace w) (suffix_pairs ps))))

  suffix_table : {P : Parts} {ts rest : List Tok} → TableInside P N ts rest → Suffix ts rest
  suffix_table (no_pairs w) = suffix_trans (suffix_whitespace w) (later tt whole)
  suffix_table (some_pairs w ps) = suffix_trans (suffix_whitespace w) (suffix_pairs ps)

pub suffix_nested : (P : Parts) (n : ℕ) → NestSuffix (Nested P n)
unfolding Nested
suffix_nested P zero r ts rest d = absurd d
suffix_nested P (suc n) Bracket.Square ts rest d = suffix_array (suffix_nested P n) d
suffix_nested P (suc n) Bracket.Curly ts rest d = suffix_table (suffix_nested P n) d
