-- From the grammar to the rules, inline tables: their loop reads what the grammar has behind a `{`. Then both brackets, by levels.
-- Nothing here needs to be believed.
use mathlib.Core.Path.{refl}
use mathlib.Core.Bool.{Bool, true, false}
use mathlib.Core.List.{List, ◌∷◌}
use Prim.Native.Nat.{ℕ, zero, suc, ◌≤◌}
use native.Mathlib.Nat.{le_refl, le_trans, le_of_suc-le-suc, not-suc-le-zero}
use lib.ListN.{length}
use Rattle.token.specs.declared.kind.Kind.{Kind}
use Rattle.token.specs.declared.kind.Kind.TheVariants.{Dot, Equals, Comma, LeftSquareBracket, LeftCurlyBracket, RightCurlyBracket, Whitespace, LiteralString, BasicString, MlLiteralString, MlBasicString, Atom}
use Rattle.token.specs.Tokens.{Tok, tok}
use Rattle.rules.specs.declared.skipping.Bracket.{Bracket}
use Rattle.rules.specs.declared.inline_table.State.{State}
use Rattle.rules.specs.Out.{Place, span, Out, ◌▹◌, ◌then◌}
use Rattle.rules.specs.Turns.{turns}
use Rattle.rules.specs.Keys.{opt_dot_keys, simple_key}
use Rattle.rules.specs.Array.{Nest}
use Rattle.rules.specs.InlineTable.{action_of, progress, encoding_at, inline_table_step, inline_table_turn}
use Rattle.rules.specs.Nest.{on_open}
use Rattle.fitting.specs.Grammar.{OptWhitespace, no_whitespace, a_whitespace, literal, basic, multi_line_literal, multi_line_basic, Parts, KeyPart, atom_part, string_part, Dots, a_key, it_is_dot, it_is_atom, a_string, unquoted_scalar, Inside, Value, a_scalar, an_array, an_inline_table, Pair, a_pair, Pairs, last_pair, more_pairs, TableInside, no_pairs, some_pairs, Nested}
use Rattle.fitting.specs.Premises.{OpenBracket, open_inline_table}
use Rattle.fitting.proofs.Reading.{reads_equals, reads_comma, reads_array_open, reads_inline_table_open, reads_inline_table_close, reads_whitespace, reads_key, reads_string, Walk, walk_done, walk_one, walk_then}
use Rattle.fitting.proofs.Suffixes.{suffix_trans, suffix_length, suffix_unquoted, suffix_whitespace, suffix_dots, NestSuffix, suffix_nested}
use Rattle.fitting.proofs.FitsQuietKeys.{equals_after_key, dots_walk}
use Rattle.fitting.proofs.FitsQuietScalars.{ScalarStops, whitespace_stops, unquoted_walk}
use Rattle.fitting.proofs.FitsQuietArrays.{NestWalk, array_walk}
use Rattle.rules.specs.Receiver as receiver

module _ (P : Parts) (N : Inside) (head : Place) (opened : ℕ) (nest : Nest) (nested : NestSuffix N) (walks : NestWalk P N nest) (σ : List OpenBracket) where
  -- the walk from here, whatever turns are left if they are enough
  abbrev TableWalk : State → Bool → List Tok → List Tok → Type 0
  TableWalk st empty ts rest = (n : ℕ) → length ts ≤ n → Walk P (turns (inline_table_turn head opened nest) n (progress st empty) ts) ts rest (open_inline_table ∷ σ) σ

  turn : (st : State) (empty : Bool) (k : Kind) {a b : ℕ} {ts rest : List Tok} → ((n : ℕ) → length ts ≤ n → Walk P (inline_table_step (action_of st k) k head opened nest (turns (inline_table_turn head opened nest) n) st empty a b ts) (tok k a b ∷ ts) rest (open_inline_table ∷ σ) σ) → TableWalk st empty (tok k a b ∷ ts) rest
  unfolding turns
  turn st empty k f zero h = absurd (not-suc-le-zero h)
  turn st empty k f (suc n) h = f n (le_of_suc-le-suc h)

  -- what the loop goes on to do
  abbrev go : State → ℕ → List Tok → Out
  go st n = turns (inline_table_turn head opened nest) n (progress st false)

  space_turn : (st : State) (empty : Bool) {a b : ℕ} {ts rest : List Tok} → TableWalk st empty ts rest → TableWalk st empty (tok Whitespace a b ∷ ts) rest
  space_turn State.NeedsKey empty w = turn State.NeedsKey empty Whitespace (λ n h. walk_one reads_whitespace (w n h))
  space_turn State.NeedsEquals empty w = turn State.NeedsEquals empty Whitespace (λ n h. walk_one reads_whitespace (w n h))
  space_turn State.NeedsValue empty w = turn State.NeedsValue empty Whitespace (λ n h. walk_one reads_whitespace (w n h))
  space_turn State.NeedsComma empty w = turn State.NeedsComma empty Whitespace (λ n h. walk_one reads_whitespace (w n h))

  space_walk : (st : State) (empty : Bool) {ts us rest : List Tok} → OptWhitespace ts us → TableWalk st empty us rest → TableWalk st empty ts rest
  space_walk st empty no_whitespace w = w
  space_walk st empty a_whitespace w = space_turn st empty w

  dots_then : {k : Kind} {a b c d : ℕ} {ts mid vs rest : List Tok} (p : KeyPart P k) → Dots P ts mid → OptWhitespace mid (tok Equals a b ∷ vs) → TableWalk State.NeedsEquals false (tok Equals a b ∷ vs) rest → (n : ℕ) → length ts ≤ n
      → Walk P (receiver.simple_key (encoding_at k) c d ▹ (opt_dot_keys ts then go State.NeedsEquals n)) (tok k c d ∷ ts) rest (open_inline_table ∷ σ) σ
  dots_then p d v w n h = walk_one (reads_key p) (walk_then (go State.NeedsEquals n) (dots_walk d v equals_after_key) (w n (le_trans (suffix_length (suffix_trans (suffix_dots d) (suffix_whitespace v))) h)))

  key_walks : (empty : Bool) {k : Kind} {a b c d : ℕ} {ts mid vs rest : List Tok} → KeyPart P k → Dots P ts mid → OptWhitespace mid (tok Equals a b ∷ vs) → TableWalk State.NeedsEquals false (tok Equals a b ∷ vs) rest → TableWalk State.NeedsKey empty (tok k c d ∷ ts) rest
  key_walks empty (atom_part l) d v w = turn State.NeedsKey empty Atom (dots_then (atom_part l) d v w)
  key_walks empty (string_part literal l) d v w = turn State.NeedsKey empty LiteralString (dots_then (string_part literal l) d v w)
  key_walks empty (string_part basic l) d v w = turn State.NeedsKey empty BasicString (dots_then (string_part basic l) d v w)
  key_walks empty (string_part multi_line_literal l) d v w = turn State.NeedsKey empty MlLiteralString (dots_then (string_part multi_line_literal l) d v w)
  key_walks empty (string_part multi_line_basic l) d v w = turn State.NeedsKey empty MlBasicString (dots_then (string_part multi_line_basic l) d v w)

  value_walk : {ts us rest : List Tok} → Value N ts us → ScalarStops us → TableWalk State.NeedsComma false us rest → TableWalk State.NeedsValue false ts rest
  value_walk (a_scalar (a_string literal)) s w = turn State.NeedsValue false LiteralString (λ n h. walk_one (reads_string literal) (w n h))
  value_walk (a_scalar (a_string basic)) s w = turn State.NeedsValue false BasicString (λ n h. walk_one (reads_string basic) (w n h))
  value_walk (a_scalar (a_string multi_line_literal)) s w = turn State.NeedsValue false MlLiteralString (λ n h. walk_one (reads_string multi_line_literal) (w n h))
  value_walk (a_scalar (a_string multi_line_basic)) s w = turn State.NeedsValue false MlBasicString (λ n h. walk_one (reads_string multi_line_basic) (w n h))
  value_walk (a_scalar (unquoted_scalar it_is_dot r)) s w = turn State.NeedsValue false Dot (λ n h. walk_then (go State.NeedsComma n) (unquoted_walk it_is_dot r s) (w n (le_trans (suffix_length (suffix_unquoted r)) h)))
  value_walk (a_scalar (unquoted_scalar it_is_atom r)) s w = turn State.NeedsValue false Atom (λ n h. walk_then (go State.NeedsComma n) (unquoted_walk it_is_atom r s) (w n (le_trans (suffix_length (suffix_unquoted r)) h)))
  value_walk (an_array {a = a} {b = b} m) s w = turn State.NeedsValue false LeftSquareBracket (λ n h. walk_then (go State.NeedsComma n) (walks _ Bracket.Square a b _ _ m) (w n (le_trans (suffix_length (nested _ _ _ m)) h)))
  value_walk (an_inline_table {a = a} {b = b} m) s w = turn State.NeedsValue false LeftCurlyBracket (λ n h. walk_then (go State.NeedsComma n) (walks _ Bracket.Curly a b _ _ m) (w n (le_trans (suffix_length (nested _ _ _ m)) h)))

  pair_walk : (empty : Bool) {ts us rest : List Tok} → Pair P N ts us → ScalarStops us → TableWalk State.NeedsComma false us rest → TableWalk State.NeedsKey empty ts rest
  pair_walk empty (a_pair (a_key p d) v x y) s w = key_walks empty p d v (turn State.NeedsEquals false Equals (λ n h. walk_one reads_equals (space_walk State.NeedsValue false x (value_walk y s w) n h)))

  pairs_walk : (empty : Bool) {ts rest : List Tok} → Pairs P N ts rest → TableWalk State.NeedsKey empty ts rest
  pairs_walk empty (last_pair p v) = pair_walk empty p (whitespace_stops v refl) (space_walk State.NeedsComma false v (turn State.NeedsComma false RightCurlyBracket (λ n h. walk_one reads_inline_table_close (walk_done _))))
  pairs_walk empty (more_pairs p v x ps) = pair_walk empty p (whitespace_stops v refl) (space_walk State.NeedsComma false v (turn State.NeedsComma false Comma (λ n h. walk_one reads_comma (space_walk State.NeedsKey false x (pairs_walk false ps) n h))))

  pub table_walk : {ts rest : List Tok} → TableInside P N ts rest → TableWalk State.NeedsKey true ts rest
  table_walk (no_pairs v) = space_walk State.NeedsKey true v (turn State.NeedsKey true RightCurlyBracket (λ n h. walk_one reads_inline_table_close (walk_done _)))
  table_walk (some_pairs v ps) = space_walk State.NeedsKey true v (pairs_walk true ps)

-- an opening bracket, with so many levels allowed
pub open_walk : (P : Parts) (levels : ℕ) → NestWalk P (Nested P levels) (on_open levels)
unfolding on_open Nested
open_walk P zero σ r a b ts rest d = absurd d
open_walk P (suc n) σ Bracket.Square a b ts rest d = walk_one reads_array_open (array_walk P (Nested P n) (span a b) (on_open n) (suffix_nested P n) (open_walk P n) σ d (length ts) (le_refl _))
open_walk P (suc n) σ Bracket.Curly a b ts rest d = walk_one reads_inline_table_open (table_walk P (Nested P n) (span a b) (length ts) (on_open n) (suffix_nested P n) (open_walk P n) σ d (length ts) (le_refl _))
