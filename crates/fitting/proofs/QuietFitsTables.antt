-- From the rules to the grammar, inline tables: a quiet run of their loop has read what the grammar has behind a `{`. Then both brackets,
-- by levels. Nothing here needs to be believed.
use mathlib.Core.Path.{refl}
use mathlib.Core.Bool.{Bool, true, false}
use mathlib.Core.List.{List, [], ◌∷◌}
use Prim.Native.Nat.{ℕ, zero, suc, ◌≤◌}
use native.Mathlib.Nat.{le_refl, le_trans, le_of_suc-le-suc, not-suc-le-zero}
use lib.ListN.{length}
use Rattle.token.specs.declared.kind.Kind.{Kind}
use Rattle.token.specs.declared.kind.Kind.TheVariants.{Dot, Equals, Comma, LeftSquareBracket, RightSquareBracket, LeftCurlyBracket, RightCurlyBracket, Whitespace, Comment, Newline, LiteralString, BasicString, MlLiteralString, MlBasicString, Atom, Eof}
use Rattle.token.specs.Tokens.{Tok, tok}
use Rattle.rules.specs.declared.skipping.Bracket.{Bracket}
use Rattle.rules.specs.declared.inline_table.State.{State}
use Rattle.rules.specs.Out.{Place, span, Out, done, ◌▹◌, ◌▸◌, ◌then◌}
use Rattle.rules.specs.Turns.{turns}
use Rattle.rules.specs.Keys.{opt_dot_keys}
use Rattle.rules.specs.Scalar.{starting_of, on_scalar}
use Rattle.rules.specs.Array.{Nest}
use Rattle.rules.specs.InlineTable.{action_of, progress, trailing, inline_table_step, inline_table_turn}
use Rattle.rules.specs.Nest.{on_open}
use Rattle.fitting.specs.Quiet.{Quiet}
use Rattle.fitting.specs.Grammar.{OptWhitespace, no_whitespace, literal, basic, multi_line_literal, multi_line_basic, Parts, KeyPart, atom_part, string_part, Key, a_key, it_is_dot, it_is_atom, Inside, Value, a_scalar, an_array, an_inline_table, a_pair, Pairs, last_pair, more_pairs, TableInside, no_pairs, some_pairs, Nested}
use Rattle.fitting.specs.Premises.{Regular}
use Rattle.fitting.proofs.Reading.{quiet_then}
use Rattle.fitting.proofs.Suffixes.{suffix_trans, suffix_length, regular_tail, suffix_regular, widen, whitespace_merge, part_not_eof, suffix_whitespace, suffix_dots, suffix_scalar, scalar_length, NestSuffix, suffix_nested}
use Rattle.fitting.proofs.Views.{StartView, starts_quoted, starts_unquoted}
use Rattle.fitting.proofs.QuietFitsKeys.{keys_fit}
use Rattle.fitting.proofs.QuietFitsArrays.{scalar_fits, NestFits, values_fit}
use Rattle.rules.specs.Receiver as receiver

-- what follows a pair in an inline table
data AfterPair (P : Parts) (N : Inside) : List Tok → List Tok → Type 0 where
  closes_table : {ts rest : List Tok} {a b : ℕ} → OptWhitespace ts (tok RightCurlyBracket a b ∷ rest) → AfterPair P N ts rest
  goes_on : {ts us vs rest : List Tok} {a b : ℕ} → OptWhitespace ts (tok Comma a b ∷ us) → OptWhitespace us vs → Pairs P N vs rest → AfterPair P N ts rest

-- what follows an equals sign: optional whitespace, a value, and what follows the pair
data AfterEquals (P : Parts) (N : Inside) : List Tok → List Tok → Type 0 where
  value_follows : {ts us vs rest : List Tok} → OptWhitespace ts us → Value N us vs → AfterPair P N vs rest → AfterEquals P N ts rest

data AfterKey (P : Parts) (N : Inside) : List Tok → List Tok → Type 0 where
  equals_follows : {ts us rest : List Tok} {a b : ℕ} → OptWhitespace ts (tok Equals a b ∷ us) → AfterEquals P N us rest → AfterKey P N ts rest

-- what follows a comma: a pair is wanted
data AfterComma (P : Parts) (N : Inside) : List Tok → List Tok → Type 0 where
  pairs_follow : {ts us rest : List Tok} → OptWhitespace ts us → Pairs P N us rest → AfterComma P N ts rest

-- what follows where an inline table is in a state; nothing is said of states that are not met
abbrev AfterState : Parts → Inside → State → Bool → List Tok → List Tok → Type 0
AfterState P N State.NeedsKey true ts rest = TableInside P N ts rest
AfterState P N State.NeedsKey false ts rest = AfterComma P N ts rest
AfterState P N State.NeedsEquals true ts rest = Unit {0}
AfterState P N State.NeedsEquals false ts rest = AfterKey P N ts rest
AfterState P N State.NeedsValue true ts rest = Unit {0}
AfterState P N State.NeedsValue false ts rest = AfterEquals P N ts rest
AfterState P N State.NeedsComma true ts rest = Unit {0}
AfterState P N State.NeedsComma false ts rest = AfterPair P N ts rest

-- a whitespace before it
wider : (P : Parts) (N : Inside) {a b : ℕ} {ts : List Tok} (rest : List Tok) (st : State) (empty : Bool) → Regular (tok Whitespace a b ∷ ts) → AfterState P N st empty ts rest → AfterState P N st empty (tok Whitespace a b ∷ ts) rest
wider P N rest State.NeedsKey true g (no_pairs w) = no_pairs (widen g w)
wider P N rest State.NeedsKey true g (some_pairs w ps) = some_pairs (widen g w) ps
wider P N rest State.NeedsKey false g (pairs_follow w ps) = pairs_follow (widen g w) ps
wider P N rest State.NeedsEquals true g h = tt
wider P N rest State.NeedsEquals false g (equals_follows w h) = equals_follows (widen g w) h
wider P N rest State.NeedsValue true g h = tt
wider P N rest State.NeedsValue false g (value_follows w v h) = value_follows (widen g w) v h
wider P N rest State.NeedsComma true g h = tt
wider P N rest State.NeedsComma false g (closes_table w) = closes_table (widen g w)
wider P N rest State.NeedsComma false g (goes_on w x ps) = goes_on (widen g w) x ps

-- a key, and what follows it
attach : {P : Parts} {N : Inside} {ts us vs rest : List Tok} → Key P ts us → OptWhitespace us vs → Regular us → AfterKey P N vs rest → Pairs P N ts rest
attach k w g (equals_follows x (value_follows y v (closes_table z))) = last_pair (a_pair k (whitespace_merge w x g) y v) z
attach k w g (equals_follows x (value_follows y v (goes_on z u ps))) = more_pairs (a_pair k (whitespace_merge w x g) y v) z u ps

-- pairs where a key is wanted
pairs_wanted : {P : Parts} {N : Inside} {ts rest : List Tok} (empty : Bool) → Pairs P N ts rest → AfterState P N State.NeedsKey empty ts rest
pairs_wanted true ps = some_pairs no_whitespace ps
pairs_wanted false ps = pairs_follow no_whitespace ps

module _ (P : Parts) (N : Inside) (head : Place) (opened : ℕ) (nest : Nest) (nested : NestSuffix N) (fits : NestFits P N nest) where
  abbrev loop : ℕ → State → Bool → List Tok → Out
  loop n st empty = turns (inline_table_turn head opened nest) n (progress st empty)

  abbrev TableFits : ℕ → Type 0
  TableFits n = (st : State) (empty : Bool) (ts : List Tok) → length ts ≤ n → Regular ts → Quiet P (loop n st empty ts).items → AfterState P N st empty ts (loop n st empty ts).rest

  abbrev go : ℕ → State → List Tok → Out
  go n st = loop n st false

  key_fits : (n : ℕ) → TableFits n → (empty : Bool) {k : Kind} → KeyPart P k → (a b : ℕ) (ts : List Tok) → length ts ≤ n → Regular (tok k a b ∷ ts) → Quiet P (opt_dot_keys ts then go n State.NeedsEquals).items → AfterState P N State.NeedsKey empty (tok k a b ∷ ts) (opt_dot_keys ts then go n State.NeedsEquals).rest
  key_fits n ih empty p a b ts h g q =
      let s = quiet_then P (opt_dot_keys ts) (go n State.NeedsEquals) q in
      let g₁ = regular_tail (part_not_eof p) g in
      let d = (keys_fit P ts).opt g₁ s.0 in
      let g₂ = suffix_regular (suffix_dots d.1) g₁ in
      let l = le_trans (suffix_length (suffix_trans (suffix_dots d.1) (suffix_whitespace d.2))) h in
      pairs_wanted empty (attach (a_key p d.1) d.2 g₂ (ih State.NeedsEquals false (opt_dot_keys ts).rest l (suffix_regular (suffix_whitespace d.2) g₂) s.1))

  -- a value was read
  value_fits : (n : ℕ) → TableFits n → {ts : List Tok} (o : Out) → Value N ts o.rest → length o.rest ≤ n → Regular o.rest → Quiet P (o then go n State.NeedsComma).items → AfterEquals P N ts (o then go n State.NeedsComma).rest
  value_fits n ih o v h g q = value_follows no_whitespace v (ih State.NeedsComma false o.rest h g (quiet_then P o (go n State.NeedsComma) q).1)

  nest_fits : (n : ℕ) → TableFits n → (r : Bracket) (a b : ℕ) {ps : List Tok} (ts : List Tok) → ((rest : List Tok) → N r ts rest → Value N ps rest) → length ts ≤ n → Regular ts → Quiet P (nest r a b ts then go n State.NeedsComma).items → AfterEquals P N ps (nest r a b ts then go n State.NeedsComma).rest
  nest_fits n ih r a b ts f h g q =
      let m = fits r a b ts g (quiet_then P (nest r a b ts) (go n State.NeedsComma) q).0 in
      value_fits n ih (nest r a b ts) (f _ m) (le_trans (suffix_length (nested _ _ _ m)) h) (suffix_regular (nested _ _ _ m) g) q

  scalar_value : (n : ℕ) → TableFits n → {k : Kind} → StartView k (starting_of k) → (a b : ℕ) (ts : List Tok) → length ts ≤ n → Regular (tok k a b ∷ ts) → Quiet P (on_scalar k a b ts then go n State.NeedsComma).items → AfterEquals P N (tok k a b ∷ ts) (on_scalar k a b ts then go n State.NeedsComma).rest
  scalar_value n ih {k} v a b ts h g q =
      let s = scalar_fits v a b ts in
      value_fits n ih (on_scalar k a b ts) (a_scalar s) (le_trans (scalar_length s) h) (suffix_regular (suffix_scalar s) g) q

  close_fits : (empty : Bool) (a b : ℕ) (ts : List Tok) → Quiet P (trailing empty State.NeedsKey head opened a (suc (length ts)) ▸ receiver.inline_table_close a b ▹ done ts).items → AfterState P N State.NeedsKey empty (tok RightCurlyBracket a b ∷ ts) ts
  close_fits true a b ts q = no_pairs no_whitespace
  close_fits false a b ts q = absurd q

  abbrev Step : ℕ → State → Bool → Kind → Type 0
  Step n st empty k = (a b : ℕ) (ts : List Tok) → length ts ≤ n → Regular (tok k a b ∷ ts)
      → Quiet P (inline_table_step (action_of st k) k head opened nest (turns (inline_table_turn head opened nest) n) st empty a b ts).items
      → AfterState P N st empty (tok k a b ∷ ts) (inline_table_step (action_of st k) k head opened nest (turns (inline_table_turn head opened nest) n) st empty a b ts).rest

  key_step : (n : ℕ) → TableFits n → (empty : Bool) (k : Kind) → Step n State.NeedsKey empty k
  key_step n ih empty Dot a b ts h g q = absurd (q.0.0 refl)
  key_step n ih empty Equals a b ts h g q = absurd (q.0.0 refl)
  key_step n ih empty Comma a b ts h g q = absurd q
  key_step n ih empty LeftSquareBracket a b ts h g q = absurd q
  key_step n ih empty RightSquareBracket a b ts h g q = absurd q
  key_step n ih empty LeftCurlyBracket a b ts h g q = absurd q
  key_step n ih empty RightCurlyBracket a b ts h g q = close_fits empty a b ts q
  key_step n ih empty Whitespace a b ts h g q = wider P N (loop n State.NeedsKey empty ts).rest State.NeedsKey empty g (ih State.NeedsKey empty ts h (regular_tail tt g) q.1)
  key_step n ih empty Comment a b ts h g q = absurd q
  key_step n ih empty Newline a b ts h g q = absurd q
  key_step n ih empty LiteralString a b ts h g q = key_fits n ih empty (string_part literal q.0.1) a b ts h g q.1
  key_step n ih empty BasicString a b ts h g q = key_fits n ih empty (string_part basic q.0.1) a b ts h g q.1
  key_step n ih empty MlLiteralString a b ts h g q = key_fits n ih empty (string_part multi_line_literal q.0.1) a b ts h g q.1
  key_step n ih empty MlBasicString a b ts h g q = key_fits n ih empty (string_part multi_line_basic q.0.1) a b ts h g q.1
  key_step n ih empty Atom a b ts h g q = key_fits n ih empty (atom_part q.0.1) a b ts h g q.1
  key_step n ih empty Eof a b ts h g q = absurd q

  equals_step : (n : ℕ) → TableFits n → (k : Kind) → Step n State.NeedsEquals false k
  equals_step n ih Dot a b ts h g q = absurd q
  equals_step n ih Equals a b ts h g q = equals_follows no_whitespace (ih State.NeedsValue false ts h (regular_tail tt g) q.1)
  equals_step n ih Comma a b ts h g q = absurd q
  equals_step n ih LeftSquareBracket a b ts h g q = absurd q
  equals_step n ih RightSquareBracket a b ts h g q = absurd q
  equals_step n ih LeftCurlyBracket a b ts h g q = absurd q
  equals_step n ih RightCurlyBracket a b ts h g q = absurd q
  equals_step n ih Whitespace a b ts h g q = wider P N (loop n State.NeedsEquals false ts).rest State.NeedsEquals false g (ih State.NeedsEquals false ts h (regular_tail tt g) q.1)
  equals_step n ih Comment a b ts h g q = absurd q
  equals_step n ih Newline a b ts h g q = absurd q
  equals_step n ih LiteralString a b ts h g q = absurd q
  equals_step n ih BasicString a b ts h g q = absurd q
  equals_step n ih MlLiteralString a b ts h g q = absurd q
  equals_step n ih MlBasicString a b ts h g q = absurd q
  equals_step n ih Atom a b ts h g q = absurd q
  equals_step n ih Eof a b ts h g q = absurd q

  value_step_lem : (n : ℕ) → TableFits n → (k : Kind) → Step n State.NeedsValue false k
  value_step_lem n ih Dot a b ts h g q = scalar_value n ih (starts_unquoted it_is_dot) a b ts h g q
  value_step_lem n ih Equals a b ts h g q = absurd q
  value_step_lem n ih Comma a b ts h g q = absurd q
  value_step_lem n ih LeftSquareBracket a b ts h g q = nest_fits n ih Bracket.Square a b ts (λ rest. an_array) h (regular_tail tt g) q
  value_step_lem n ih RightSquareBracket a b ts h g q = absurd q
  value_step_lem n ih LeftCurlyBracket a b ts h g q = nest_fits n ih Bracket.Curly a b ts (λ rest. an_inline_table) h (regular_tail tt g) q
  value_step_lem n ih RightCurlyBracket a b ts h g q = absurd q
  value_step_lem n ih Whitespace a b ts h g q = wider P N (loop n State.NeedsValue false ts).rest State.NeedsValue false g (ih State.NeedsValue false ts h (regular_tail tt g) q.1)
  value_step_lem n ih Comment a b ts h g q = absurd q
  value_step_lem n ih Newline a b ts h g q = absurd q
  value_step_lem n ih LiteralString a b ts h g q = scalar_value n ih (starts_quoted literal) a b ts h g q
  value_step_lem n ih BasicString a b ts h g q = scalar_value n ih (starts_quoted basic) a b ts h g q
  value_step_lem n ih MlLiteralString a b ts h g q = scalar_value n ih (starts_quoted multi_line_literal) a b ts h g q
  value_step_lem n ih MlBasicString a b ts h g q = scalar_value n ih (starts_quoted multi_line_basic) a b ts h g q
  value_step_lem n ih Atom a b ts h g q = scalar_value n ih (starts_unquoted it_is_atom) a b ts h g q
  value_step_lem n ih Eof a b ts h g q = absurd q

  after_comma : {a b : ℕ} {ts rest : List Tok} → AfterComma P N ts rest → AfterPair P N (tok Comma a b ∷ ts) rest
  after_comma (pairs_follow w ps) = goes_on no_whitespace w ps

  comma_step : (n : ℕ) → TableFits n → (k : Kind) → Step n State.NeedsComma false k
  comma_step n ih Dot a b ts h g q = absurd q
  comma_step n ih Equals a b ts h g q = absurd q
  comma_step n ih Comma a b ts h g q = after_comma (ih State.NeedsKey false ts h (regular_tail tt g) q.1)
  comma_step n ih LeftSquareBracket a b ts h g q = absurd q
  comma_step n ih RightSquareBracket a b ts h g q = absurd q
  comma_step n ih LeftCurlyBracket a b ts h g q = absurd q
  comma_step n ih RightCurlyBracket a b ts h g q = closes_table no_whitespace
  comma_step n ih Whitespace a b ts h g q = wider P N (loop n State.NeedsComma false ts).rest State.NeedsComma false g (ih State.NeedsComma false ts h (regular_tail tt g) q.1)
  comma_step n ih Comment a b ts h g q = absurd q
  comma_step n ih Newline a b ts h g q = absurd q
  comma_step n ih LiteralString a b ts h g q = absurd q
  comma_step n ih BasicString a b ts h g q = absurd q
  comma_step n ih MlLiteralString a b ts h g q = absurd q
  comma_step n ih MlBasicString a b ts h g q = absurd q
  comma_step n ih Atom a b ts h g q = absurd q
  comma_step n ih Eof a b ts h g q = absurd q

  table_fits : (n : ℕ) → TableFits n
  unfolding turns
  table_fits zero st empty [] h g q = absurd q
  table_fits zero st empty (t ∷ ts) h g q = absurd (not-suc-le-zero h)
  table_fits (suc n) st empty [] h g q = absurd q
  table_fits (suc n) State.NeedsKey empty (tok k a b ∷ ts) h g q = key_step n (table_fits n) empty k a b ts (le_of_suc-le-suc h) g q
  table_fits (suc n) State.NeedsEquals true (tok k a b ∷ ts) h g q = tt
  table_fits (suc n) State.NeedsEquals false (tok k a b ∷ ts) h g q = equals_step n (table_fits n) k a b ts (le_of_suc-le-suc h) g q
  table_fits (suc n) State.NeedsValue true (tok k a b ∷ ts) h g q = tt
  table_fits (suc n) State.NeedsValue false (tok k a b ∷ ts) h g q = value_step_lem n (table_fits n) k a b ts (le_of_suc-le-suc h) g q
  table_fits (suc n) State.NeedsComma true (tok k a b ∷ ts) h g q = tt
  table_fits (suc n) State.NeedsComma false (tok k a b ∷ ts) h g q = comma_step n (table_fits n) k a b ts (le_of_suc-le-suc h) g q

  pub pairs_fit : (ts : List Tok) → Regular ts → Quiet P (loop (length ts) State.NeedsKey true ts).items → TableInside P N ts (loop (length ts) State.NeedsKey true ts).rest
  pairs_fit ts g q = table_fits (length ts) State.NeedsKey true ts (le_refl _) g q

-- an opening bracket, with so many levels allowed
pub open_fits : (P : Parts) (levels : ℕ) → NestFits P (Nested P levels) (on_open levels)
unfolding on_open Nested
open_fits P zero r a b ts g q = absurd q
open_fits P (suc n) Bracket.Square a b ts g q = values_fit P (Nested P n) (span a b) (on_open n) (suffix_nested P n) (open_fits P n) ts g q.1
open_fits P (suc n) Bracket.Curly a b ts g q = pairs_fit P (Nested P n) (span a b) (length ts) (on_open n) (suffix_nested P n) (open_fits P n) ts g q.1
