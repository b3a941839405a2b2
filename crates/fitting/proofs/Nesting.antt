-- A list that fits, and at no point of which more than n brackets are open, fits with at most n arrays and inline tables open.
-- Nothing here needs to be believed.
use mathlib.Core.List.{List}
use Prim.Native.Nat.{ℕ, zero, suc}
use Rattle.token.specs.declared.kind.Kind.{Kind}
use Rattle.token.specs.Tokens.{Tok}
use Rattle.rules.specs.declared.skipping.Bracket.{Bracket}
use Rattle.fitting.specs.Grammar.{OptWhitespace, no_whitespace, a_whitespace, AnyString, literal, basic, multi_line_literal, multi_line_basic, Parts, KeyPart, atom_part, string_part, Dots, no_dot, a_dot, Key, a_key, DotOrAtom, it_is_dot, it_is_atom, UnquotedRest, scalar_ends, dot_or_atom, whitespace_atom, Scalar, a_string, unquoted_scalar, Inside, Value, a_scalar, an_array, an_inline_table, Gap, gap_ends, whitespace_in_gap, newline_in_gap, comment_in_gap, ArrayValues, last_value, trailing_comma, more_values, ArrayInside, no_values, some_values, Pair, a_pair, Pairs, last_pair, more_pairs, TableInside, no_pairs, some_pairs, Header, table_header, array_table_header, Expression, no_expression, pair_expression, header_expression, OptComment, no_comment, a_comment, Line, a_line, line_and_more, last_line, Nested, FitsBy}
use Rattle.fitting.specs.Premises.{bracketing, remaining, NestedWithin}

-- tokens that are no brackets leave the count
string_flat : {k : Kind} (n : ℕ) (F : ℕ → Type 0) → AnyString k → remaining (bracketing k) n F → F n
string_flat n F literal h = h
string_flat n F basic h = h
string_flat n F multi_line_literal h = h
string_flat n F multi_line_basic h = h

part_flat : {P : Parts} {k : Kind} (n : ℕ) (F : ℕ → Type 0) → KeyPart P k → remaining (bracketing k) n F → F n
part_flat n F (atom_part l) h = h
part_flat n F (string_part s l) h = string_flat n F s h

dot_or_atom_flat : {k : Kind} (n : ℕ) (F : ℕ → Type 0) → DotOrAtom k → remaining (bracketing k) n F → F n
dot_or_atom_flat n F it_is_dot h = h
dot_or_atom_flat n F it_is_atom h = h

-- so do the constructs without brackets
unquoted_within : (n : ℕ) {ts rest : List Tok} → UnquotedRest ts rest → NestedWithin n ts → NestedWithin n rest
unquoted_within n scalar_ends h = h
unquoted_within n (dot_or_atom {ts = ts} d r) h = unquoted_within n r (dot_or_atom_flat n (λ m. NestedWithin m ts) d h)
unquoted_within n (whitespace_atom r) h = unquoted_within n r h

scalar_within : (n : ℕ) {ts rest : List Tok} → Scalar ts rest → NestedWithin n ts → NestedWithin n rest
scalar_within n (a_string {ts = ts} s) h = string_flat n (λ m. NestedWithin m ts) s h
scalar_within n (unquoted_scalar {ts = ts} d r) h = unquoted_within n r (dot_or_atom_flat n (λ m. NestedWithin m ts) d h)

whitespace_within : (n : ℕ) {ts rest : List Tok} → OptWhitespace ts rest → NestedWithin n ts → NestedWithin n rest
whitespace_within n no_whitespace h = h
whitespace_within n a_whitespace h = h

comment_within : (n : ℕ) {ts rest : List Tok} → OptComment ts rest → NestedWithin n ts → NestedWithin n rest
comment_within n no_comment h = h
comment_within n a_comment h = h

gap_within : (n : ℕ) {ts rest : List Tok} → Gap ts rest → NestedWithin n ts → NestedWithin n rest
gap_within n gap_ends h = h
gap_within n (whitespace_in_gap g) h = gap_within n g h
gap_within n (newline_in_gap g) h = gap_within n g h
gap_within n (comment_in_gap g) h = gap_within n g h

dots_within : {P : Parts} (n : ℕ) {ts rest : List Tok} → Dots P ts rest → NestedWithin n ts → NestedWithin n rest
dots_within n no_dot h = h
dots_within n (a_dot {vs = vs} v w p d) h = dots_within n d (part_flat n (λ m. NestedWithin m vs) p (whitespace_within n w (whitespace_within n v h)))

key_within : {P : Parts} (n : ℕ) {ts rest : List Tok} → Key P ts rest → NestedWithin n ts → NestedWithin n rest
key_within n (a_key {ts = ts} p d) h = dots_within n d (part_flat n (λ m. NestedWithin m ts) p h)

-- what brackets hold with some depth, they hold with the depth that is left behind the bracket; behind them one bracket less is open
abbrev Sinks : Parts → Inside → Type 0
Sinks P N = (n : ℕ) (r : Bracket) (ts rest : List Tok) → N r ts rest → NestedWithin n ts → Nested P (suc n) r ts rest × NestedWithin (suc n) rest

module _ (P : Parts) (N : Inside) (sinks : Sinks P N) where
  value_sinks : (n : ℕ) {ts rest : List Tok} → Value N ts rest → NestedWithin n ts → Value (Nested P n) ts rest × NestedWithin n rest
  value_sinks n (a_scalar s) h = (a_scalar s, scalar_within n s h)
  value_sinks zero (an_array m) h = absurd h
  value_sinks (suc n) (an_array m) h = let r = sinks n Bracket.Square _ _ m h in (an_array r.0, r.1)
  value_sinks zero (an_inline_table m) h = absurd h
  value_sinks (suc n) (an_inline_table m) h = let r = sinks n Bracket.Curly _ _ m h in (an_inline_table r.0, r.1)

  values_sink : (n : ℕ) {ts rest : List Tok} → ArrayValues N ts rest → NestedWithin n ts → ArrayValues (Nested P n) ts rest × NestedWithin (suc n) rest
  values_sink n (last_value v g) h = let r = value_sinks n v h in (last_value r.0 g, gap_within n g r.1)
  values_sink n (trailing_comma v g i) h = let r = value_sinks n v h in (trailing_comma r.0 g i, gap_within n i (gap_within n g r.1))
  values_sink n (more_values v g i vs) h = let r = value_sinks n v h in let s = values_sink n vs (gap_within n i (gap_within n g r.1)) in (more_values r.0 g i s.0, s.1)

  array_sinks : (n : ℕ) {ts rest : List Tok} → ArrayInside N ts rest → NestedWithin n ts → ArrayInside (Nested P n) ts rest × NestedWithin (suc n) rest
  array_sinks n (no_values g) h = (no_values g, gap_within n g h)
  array_sinks n (some_values g vs) h = let r = values_sink n vs (gap_within n g h) in (some_values g r.0, r.1)

  pair_sinks : (n : ℕ) {ts rest : List Tok} → Pair P N ts rest → NestedWithin n ts → Pair P (Nested P n) ts rest × NestedWithin n rest
  pair_sinks n (a_pair k v w y) h = let r = value_sinks n y (whitespace_within n w (whitespace_within n v (key_within n k h))) in (a_pair k v w r.0, r.1)

  pairs_sink : (n : ℕ) {ts rest : List Tok} → Pairs P N ts rest → NestedWithin n ts → Pairs P (Nested P n) ts rest × NestedWithin (suc n) rest
  pairs_sink n (last_pair p w) h = let r = pair_sinks n p h in (last_pair r.0 w, whitespace_within n w r.1)
  pairs_sink n (more_pairs p v w ps) h = let r = pair_sinks n p h in let s = pairs_sink n ps (whitespace_within n w (whitespace_within n v r.1)) in (more_pairs r.0 v w s.0, s.1)

  table_sinks : (n : ℕ) {ts rest : List Tok} → TableInside P N ts rest → NestedWithin n ts → TableInside P (Nested P n) ts rest × NestedWithin (suc n) rest
  table_sinks n (no_pairs w) h = (no_pairs w, whitespace_within n w h)
  table_sinks n (some_pairs w ps) h = let r = pairs_sink n ps (whitespace_within n w h) in (some_pairs w r.0, r.1)

nested_sinks : (P : Parts) (m : ℕ) → Sinks P (Nested P m)
unfolding Nested
nested_sinks P zero n r ts rest d h = absurd d
nested_sinks P (suc m) n Bracket.Square ts rest d h = array_sinks P (Nested P m) (nested_sinks P m) n d h
nested_sinks P (suc m) n Bracket.Curly ts rest d h = table_sinks P (Nested P m) (nested_sinks P m) n d h

header_within : {P : Parts} (n : ℕ) {ts rest : List Tok} → Header P ts rest → NestedWithin n ts → NestedWithin n rest
header_within zero (table_header v k w) h = absurd h
header_within (suc n) (table_header v k w) h = whitespace_within n w (key_within n k (whitespace_within n v h))
header_within zero (array_table_header v k w) h = absurd h
header_within (suc zero) (array_table_header v k w) h = absurd h
header_within (suc (suc n)) (array_table_header v k w) h = whitespace_within n w (key_within n k (whitespace_within n v h))

expression_sinks : (P : Parts) (m n : ℕ) {ts rest : List Tok} → Expression P (Nested P m) ts rest → NestedWithin n ts → Expression P (Nested P n) ts rest × NestedWithin n rest
expression_sinks P m n no_expression h = (no_expression, h)
expression_sinks P m n (pair_expression p) h = let r = pair_sinks P (Nested P m) (nested_sinks P m) n p h in (pair_expression r.0, r.1)
expression_sinks P m n (header_expression p) h = (header_expression p, header_within n p h)

line_sinks : (P : Parts) (m n : ℕ) {ts rest : List Tok} → Line P (Nested P m) ts rest → NestedWithin n ts → Line P (Nested P n) ts rest × NestedWithin n rest
line_sinks P m n (a_line w e x c) h = let r = expression_sinks P m n e (whitespace_within n w h) in (a_line w r.0 x c, comment_within n c (whitespace_within n x r.1))

pub fits_within : {P : Parts} (m n : ℕ) {ts : List Tok} → FitsBy P m ts → NestedWithin n ts → FitsBy P n ts
fits_within {P} m n (line_and_more l d) h = let r = line_sinks P m n l h in line_and_more r.0 (fits_within m n d r.1)
fits_within {P} m n (last_line l) h = last_line (line_sinks P m n l h).0
