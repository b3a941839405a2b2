-- Counting the brackets of headers is harmless: in a list that fits with at most n arrays and inline tables open, n at least 2, at no point
-- are more than n brackets open, those of headers with them. Nothing here needs to be believed.
use mathlib.Core.List.{List}
use Prim.Native.Nat.{ℕ, zero, suc, ◌≤◌}
use native.Mathlib.Nat.{le_refl, le_of_suc-le-suc, not-suc-le-zero}
use Rattle.token.specs.declared.kind.Kind.{Kind}
use Rattle.token.specs.Tokens.{Tok}
use Rattle.rules.specs.declared.skipping.Bracket.{Bracket}
use Rattle.fitting.specs.Grammar.{OptWhitespace, no_whitespace, a_whitespace, AnyString, literal, basic, multi_line_literal, multi_line_basic, Parts, KeyPart, atom_part, string_part, Dots, no_dot, a_dot, Key, a_key, DotOrAtom, it_is_dot, it_is_atom, UnquotedRest, scalar_ends, dot_or_atom, whitespace_atom, Scalar, a_string, unquoted_scalar, Value, a_scalar, an_array, an_inline_table, Gap, gap_ends, whitespace_in_gap, newline_in_gap, comment_in_gap, ArrayValues, last_value, trailing_comma, more_values, ArrayInside, no_values, some_values, Pair, a_pair, Pairs, last_pair, more_pairs, TableInside, no_pairs, some_pairs, Header, table_header, array_table_header, Expression, no_expression, pair_expression, header_expression, OptComment, no_comment, a_comment, Line, a_line, line_and_more, last_line, Nested, FitsBy}
use Rattle.fitting.specs.Premises.{bracketing, remaining, NestedWithin}

-- tokens that are no brackets leave the count
string_level : {k : Kind} (n : ℕ) (F : ℕ → Type 0) → AnyString k → F n → remaining (bracketing k) n F
string_level n F literal h = h
string_level n F basic h = h
string_level n F multi_line_literal h = h
string_level n F multi_line_basic h = h

part_level : {P : Parts} {k : Kind} (n : ℕ) (F : ℕ → Type 0) → KeyPart P k → F n → remaining (bracketing k) n F
part_level n F (atom_part l) h = h
part_level n F (string_part s l) h = string_level n F s h

dot_or_atom_level : {k : Kind} (n : ℕ) (F : ℕ → Type 0) → DotOrAtom k → F n → remaining (bracketing k) n F
dot_or_atom_level n F it_is_dot h = h
dot_or_atom_level n F it_is_atom h = h

-- so do the constructs without brackets
unquoted_level : (n : ℕ) {ts rest : List Tok} → UnquotedRest ts rest → NestedWithin n rest → NestedWithin n ts
unquoted_level n scalar_ends h = h
unquoted_level n (dot_or_atom {ts = ts} d r) h = dot_or_atom_level n (λ m. NestedWithin m ts) d (unquoted_level n r h)
unquoted_level n (whitespace_atom r) h = unquoted_level n r h

scalar_level : (n : ℕ) {ts rest : List Tok} → Scalar ts rest → NestedWithin n rest → NestedWithin n ts
scalar_level n (a_string {ts = ts} s) h = string_level n (λ m. NestedWithin m ts) s h
scalar_level n (unquoted_scalar {ts = ts} d r) h = dot_or_atom_level n (λ m. NestedWithin m ts) d (unquoted_level n r h)

whitespace_level : (n : ℕ) {ts rest : List Tok} → OptWhitespace ts rest → NestedWithin n rest → NestedWithin n ts
whitespace_level n no_whitespace h = h
whitespace_level n a_whitespace h = h

comment_level : (n : ℕ) {ts rest : List Tok} → OptComment ts rest → NestedWithin n rest → NestedWithin n ts
comment_level n no_comment h = h
comment_level n a_comment h = h

gap_level : (n : ℕ) {ts rest : List Tok} → Gap ts rest → NestedWithin n rest → NestedWithin n ts
gap_level n gap_ends h = h
gap_level n (whitespace_in_gap g) h = gap_level n g h
gap_level n (newline_in_gap g) h = gap_level n g h
gap_level n (comment_in_gap g) h = gap_level n g h

dots_level : {P : Parts} (n : ℕ) {ts rest : List Tok} → Dots P ts rest → NestedWithin n rest → NestedWithin n ts
dots_level n no_dot h = h
dots_level n (a_dot {vs = vs} v w p d) h = whitespace_level n v (whitespace_level n w (part_level n (λ m. NestedWithin m vs) p (dots_level n d h)))

key_level : {P : Parts} (n : ℕ) {ts rest : List Tok} → Key P ts rest → NestedWithin n rest → NestedWithin n ts
key_level n (a_key {ts = ts} p d) h = part_level n (λ m. NestedWithin m ts) p (dots_level n d h)

-- behind a bracket n levels are left; what it holds with depth m, its own level with it, stays within them
abbrev Rises : Parts → ℕ → Type 0
Rises P m = (n : ℕ) → m ≤ suc n → (r : Bracket) (ts rest : List Tok) → Nested P m r ts rest → NestedWithin (suc n) rest → NestedWithin n ts

nested_none : (P : Parts) (m : ℕ) → m ≤ 0 → (r : Bracket) (ts rest : List Tok) → Nested P m r ts rest → ⊥
unfolding Nested
nested_none P zero h r ts rest d = d
nested_none P (suc m) h r ts rest d = not-suc-le-zero h

module _ (P : Parts) (m : ℕ) (rises : Rises P m) where
  value_rises : (n : ℕ) {ts rest : List Tok} → m ≤ n → Value (Nested P m) ts rest → NestedWithin n rest → NestedWithin n ts
  value_rises n l (a_scalar s) h = scalar_level n s h
  value_rises zero l (an_array d) h = absurd (nested_none P m l _ _ _ d)
  value_rises (suc n) l (an_array d) h = rises n l _ _ _ d h
  value_rises zero l (an_inline_table d) h = absurd (nested_none P m l _ _ _ d)
  value_rises (suc n) l (an_inline_table d) h = rises n l _ _ _ d h

  values_rise : (n : ℕ) {ts rest : List Tok} → m ≤ n → ArrayValues (Nested P m) ts rest → NestedWithin (suc n) rest → NestedWithin n ts
  values_rise n l (last_value v g) h = value_rises n l v (gap_level n g h)
  values_rise n l (trailing_comma v g i) h = value_rises n l v (gap_level n g (gap_level n i h))
  values_rise n l (more_values v g i vs) h = value_rises n l v (gap_level n g (gap_level n i (values_rise n l vs h)))

  array_rises : (n : ℕ) {ts rest : List Tok} → m ≤ n → ArrayInside (Nested P m) ts rest → NestedWithin (suc n) rest → NestedWithin n ts
  array_rises n l (no_values g) h = gap_level n g h
  array_rises n l (some_values g vs) h = gap_level n g (values_rise n l vs h)

  pair_rises : (n : ℕ) {ts rest : List Tok} → m ≤ n → Pair P (Nested P m) ts rest → NestedWithin n rest → NestedWithin n ts
  pair_rises n l (a_pair k v w y) h = key_level n k (whitespace_level n v (whitespace_level n w (value_rises n l y h)))

  pairs_rise : (n : ℕ) {ts rest : List Tok} → m ≤ n → Pairs P (Nested P m) ts rest → NestedWithin (suc n) rest → NestedWithin n ts
  pairs_rise n l (last_pair p w) h = pair_rises n l p (whitespace_level n w h)
  pairs_rise n l (more_pairs p v w ps) h = pair_rises n l p (whitespace_level n v (whitespace_level n w (pairs_rise n l ps h)))

  table_rises : (n : ℕ) {ts rest : List Tok} → m ≤ n → TableInside P (Nested P m) ts rest → NestedWithin (suc n) rest → NestedWithin n ts
  table_rises n l (no_pairs w) h = whitespace_level n w h
  table_rises n l (some_pairs w ps) h = whitespace_level n w (pairs_rise n l ps h)

nested_rises : (P : Parts) (m : ℕ) → Rises P m
unfolding Nested
nested_rises P zero n l r ts rest d h = absurd d
nested_rises P (suc m) n l Bracket.Square ts rest d h = array_rises P m (nested_rises P m) n (le_of_suc-le-suc l) d h
nested_rises P (suc m) n l Bracket.Curly ts rest d h = table_rises P m (nested_rises P m) n (le_of_suc-le-suc l) d h

-- a header has two brackets at most
header_level : {P : Parts} (n : ℕ) {ts rest : List Tok} → Header P ts rest → NestedWithin (suc (suc n)) rest → NestedWithin (suc (suc n)) ts
header_level n (table_header v k w) h = whitespace_level (suc n) v (key_level (suc n) k (whitespace_level (suc n) w h))
header_level n (array_table_header v k w) h = whitespace_level n v (key_level n k (whitespace_level n w h))

expression_level : {P : Parts} (n : ℕ) {ts rest : List Tok} → Expression P (Nested P (suc (suc n))) ts rest → NestedWithin (suc (suc n)) rest → NestedWithin (suc (suc n)) ts
expression_level n no_expression h = h
expression_level {P} n (pair_expression p) h = pair_rises P (suc (suc n)) (nested_rises P (suc (suc n))) (suc (suc n)) (le_refl _) p h
expression_level n (header_expression p) h = header_level n p h

line_level : {P : Parts} (n : ℕ) {ts rest : List Tok} → Line P (Nested P (suc (suc n))) ts rest → NestedWithin (suc (suc n)) rest → NestedWithin (suc (suc n)) ts
line_level n (a_line w e x c) h = whitespace_level (suc (suc n)) w (expression_level n e (whitespace_level (suc (suc n)) x (comment_level (suc (suc n)) c h)))

pub within_fits : {P : Parts} (n : ℕ) {ts : List Tok} → FitsBy P (suc (suc n)) ts → NestedWithin (suc (suc n)) ts
within_fits n (line_and_more l d) = line_level n l (within_fits n d)
within_fits n (last_line l) = line_level n l tt
