-- From the grammar to the rules, arrays: the loop of an array reads what the grammar has behind a `[`. Nothing here needs to be believed.
use mathlib.Core.Path.{refl}
use mathlib.Core.List.{List, ◌∷◌}
use Prim.Native.Nat.{ℕ, zero, suc, ◌≤◌}
use native.Mathlib.Nat.{le_refl, le_trans, le_step, le_of_suc-le-suc, not-suc-le-zero}
use lib.ListN.{length}
use Rattle.token.specs.declared.kind.Kind.{Kind}
use Rattle.token.specs.declared.kind.Kind.TheVariants.{Dot, Comma, LeftSquareBracket, RightSquareBracket, LeftCurlyBracket, Whitespace, Comment, Newline, LiteralString, BasicString, MlLiteralString, MlBasicString, Atom}
use Rattle.token.specs.Tokens.{Tok, tok}
use Rattle.rules.specs.declared.skipping.Bracket.{Bracket}
use Rattle.rules.specs.declared.array.ArrayState.{ArrayState}
use Rattle.rules.specs.Out.{Place, Out}
use Rattle.rules.specs.Turns.{turns}
use Rattle.rules.specs.Array.{in_array, Nest, array_step, array_turn}
use Rattle.fitting.specs.Grammar.{Parts, literal, basic, multi_line_literal, multi_line_basic, it_is_dot, it_is_atom, a_string, unquoted_scalar, Inside, Value, a_scalar, an_array, an_inline_table, Gap, gap_ends, whitespace_in_gap, newline_in_gap, comment_in_gap, ArrayValues, last_value, trailing_comma, more_values, ArrayInside, no_values, some_values}
use Rattle.fitting.specs.Premises.{OpenBracket, open_array}
use Rattle.fitting.proofs.Reading.{reads_comma, reads_array_close, reads_whitespace, reads_newline, reads_comment, reads_string, Walk, walk_done, walk_one, walk_then}
use Rattle.fitting.proofs.Suffixes.{suffix_length, suffix_unquoted, NestSuffix}
use Rattle.fitting.proofs.FitsQuietScalars.{ScalarStops, gap_stops, unquoted_walk}

-- the kind of a bracket that opens
abbrev pub opening_kind : Bracket → Kind
opening_kind Bracket.Square = LeftSquareBracket
opening_kind Bracket.Curly = LeftCurlyBracket

-- a walk over what brackets hold reads it, with its bracket
abbrev pub NestWalk : Parts → Inside → Nest → Type 0
NestWalk P N nest = (σ : List OpenBracket) (r : Bracket) (a b : ℕ) (ts rest : List Tok) → N r ts rest → Walk P (nest r a b ts) (tok (opening_kind r) a b ∷ ts) rest σ σ

module _ (P : Parts) (N : Inside) (head : Place) (nest : Nest) (nested : NestSuffix N) (walks : NestWalk P N nest) (σ : List OpenBracket) where
  -- the walk from here in a state, whatever turns are left if they are enough
  abbrev ArrayWalk : ArrayState → List Tok → List Tok → Type 0
  ArrayWalk st ts rest = (n : ℕ) → length ts ≤ n → Walk P (turns (array_turn head nest) n st ts) ts rest (open_array ∷ σ) σ

  turn : (st : ArrayState) (k : Kind) {a b : ℕ} {ts rest : List Tok} → ((n : ℕ) → length ts ≤ n → Walk P (array_step (in_array k) k head nest (turns (array_turn head nest) n) st a b ts) (tok k a b ∷ ts) rest (open_array ∷ σ) σ) → ArrayWalk st (tok k a b ∷ ts) rest
  unfolding turns
  turn st k f zero h = absurd (not-suc-le-zero h)
  turn st k f (suc n) h = f n (le_of_suc-le-suc h)

  gap_walk : (st : ArrayState) {ts us rest : List Tok} → Gap ts us → ArrayWalk st us rest → ArrayWalk st ts rest
  gap_walk st gap_ends w = w
  gap_walk st (whitespace_in_gap g) w = turn st Whitespace (λ n h. walk_one reads_whitespace (gap_walk st g w n h))
  gap_walk st (newline_in_gap g) w = turn st Newline (λ n h. walk_one reads_newline (gap_walk st g w n h))
  gap_walk st (comment_in_gap g) w = turn st Comment (λ n h. walk_one reads_comment (walk_one reads_newline (gap_walk st g w n (le_trans (le_step (le_refl _)) h))))

  close_walk : (st : ArrayState) {a b : ℕ} {ts : List Tok} → ArrayWalk st (tok RightSquareBracket a b ∷ ts) ts
  close_walk st = turn st RightSquareBracket (λ n h. walk_one reads_array_close (walk_done _))

  abbrev needs_value : ArrayState
  needs_value = ArrayState.NeedsValue

  abbrev needs_comma : ArrayState
  needs_comma = ArrayState.NeedsComma

  abbrev go : ℕ → List Tok → Out
  go n = turns (array_turn head nest) n needs_comma

  value_walk : {ts us rest : List Tok} → Value N ts us → ScalarStops us → ArrayWalk needs_comma us rest → ArrayWalk needs_value ts rest
  value_walk (a_scalar (a_string literal)) s w = turn needs_value LiteralString (λ n h. walk_one (reads_string literal) (w n h))
  value_walk (a_scalar (a_string basic)) s w = turn needs_value BasicString (λ n h. walk_one (reads_string basic) (w n h))
  value_walk (a_scalar (a_string multi_line_literal)) s w = turn needs_value MlLiteralString (λ n h. walk_one (reads_string multi_line_literal) (w n h))
  value_walk (a_scalar (a_string multi_line_basic)) s w = turn needs_value MlBasicString (λ n h. walk_one (reads_string multi_line_basic) (w n h))
  value_walk (a_scalar (unquoted_scalar it_is_dot r)) s w = turn needs_value Dot (λ n h. walk_then (go n) (unquoted_walk it_is_dot r s) (w n (le_trans (suffix_length (suffix_unquoted r)) h)))
  value_walk (a_scalar (unquoted_scalar it_is_atom r)) s w = turn needs_value Atom (λ n h. walk_then (go n) (unquoted_walk it_is_atom r s) (w n (le_trans (suffix_length (suffix_unquoted r)) h)))
  value_walk (an_array {a = a} {b = b} m) s w = turn needs_value LeftSquareBracket (λ n h. walk_then (go n) (walks _ Bracket.Square a b _ _ m) (w n (le_trans (suffix_length (nested _ _ _ m)) h)))
  value_walk (an_inline_table {a = a} {b = b} m) s w = turn needs_value LeftCurlyBracket (λ n h. walk_then (go n) (walks _ Bracket.Curly a b _ _ m) (w n (le_trans (suffix_length (nested _ _ _ m)) h)))

  comma_walk : {a b : ℕ} {ts rest : List Tok} → ArrayWalk needs_value ts rest → ArrayWalk needs_comma (tok Comma a b ∷ ts) rest
  comma_walk w = turn needs_comma Comma (λ n h. walk_one reads_comma (w n h))

  values_walk : {ts rest : List Tok} → ArrayValues N ts rest → ArrayWalk needs_value ts rest
  values_walk (last_value v g) = value_walk v (gap_stops g refl) (gap_walk needs_comma g (close_walk needs_comma))
  values_walk (trailing_comma v g h) = value_walk v (gap_stops g refl) (gap_walk needs_comma g (comma_walk (gap_walk needs_value h (close_walk needs_value))))
  values_walk (more_values v g h vs) = value_walk v (gap_stops g refl) (gap_walk needs_comma g (comma_walk (gap_walk needs_value h (values_walk vs))))

  pub array_walk : {ts rest : List Tok} → ArrayInside N ts rest → ArrayWalk needs_value ts rest
  array_walk (no_values g) = gap_walk needs_value g (close_walk needs_value)
  array_walk (some_values g vs) = gap_walk needs_value g (values_walk vs)
