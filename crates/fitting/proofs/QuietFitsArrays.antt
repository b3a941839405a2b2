-- From the rules to the grammar, scalars and arrays: the rule of scalars always reads a scalar, and a quiet run of an array's loop has read
-- what the grammar has behind a `[`. Nothing here needs to be believed.
use mathlib.Core.Path.{subst}
use mathlib.Core.List.{List, [], ◌∷◌}
use Prim.Native.Nat.{ℕ, zero, suc, ◌≤◌}
use native.Mathlib.Nat.{le_refl, le_trans, le_step, le_of_suc-le-suc, not-suc-le-zero}
use lib.ListN.{length}
use Rattle.token.specs.declared.kind.Kind.{Kind}
use Rattle.token.specs.declared.kind.Kind.TheVariants.{Comma, RightSquareBracket, Whitespace, Comment}
use Rattle.token.specs.Tokens.{Tok, tok}
use Rattle.rules.specs.declared.event.Encoding.{Encoding}
use Rattle.rules.specs.declared.skipping.Bracket.{Bracket}
use Rattle.rules.specs.declared.skipping.InLine.{InLine}
use Rattle.rules.specs.declared.scalar.Starting.{Starting}
use Rattle.rules.specs.declared.scalar.InScalar.{InScalar}
use Rattle.rules.specs.declared.array.InArray.{InArray}
use Rattle.rules.specs.declared.array.ArrayState.{ArrayState}
use Rattle.rules.specs.Out.{Place, Out, done, ◌▹◌, ◌then◌}
use Rattle.rules.specs.Turns.{turns}
use Rattle.rules.specs.Skipping.{behind_comment, ignore_to_newline, on_comment}
use Rattle.rules.specs.Scalar.{unquoted_step, space_step, unquoted, behind_space, scalar_by, on_scalar}
use Rattle.rules.specs.Array.{Nest, array_step, array_turn}
use Rattle.fitting.specs.Quiet.{Quiet}
use Rattle.fitting.specs.Grammar.{Parts, it_is_dot, it_is_atom, UnquotedRest, scalar_ends, dot_or_atom, whitespace_atom, Scalar, a_string, unquoted_scalar, Inside, Value, a_scalar, an_array, an_inline_table, Gap, gap_ends, whitespace_in_gap, newline_in_gap, comment_in_gap, last_value, trailing_comma, more_values, ArrayInside, no_values, some_values}
use Rattle.fitting.specs.Premises.{Regular}
use Rattle.fitting.proofs.Reading.{quiet_then}
use Rattle.fitting.proofs.Suffixes.{suffix_length, regular_tail, suffix_regular, not_empty, eof_last, suffix_scalar, scalar_length, NestSuffix}
use Rattle.fitting.proofs.Views.{InScalarView, scalar_dot, scalar_atom, scalar_whitespace, scalar_other, in_scalar_view, InLineView, line_whitespace, line_comment, line_newline, line_eof, line_other, in_line_view, StartView, starts_quoted, starts_unquoted, InArrayView, array_whitespace, array_comment, array_newline, array_eof, array_commas, array_equals, array_open_curly, array_close_curly, array_open_square, array_close_square, array_scalar, in_array_view}
use Rattle.rules.specs.Receiver as receiver

-- an unquoted scalar, from its next token on; and where that is a whitespace, from the token behind it on
record UnquotedFits (ts : List Tok) : Type 0 where
  next : (a b : ℕ) → UnquotedRest ts (unquoted ts a b).rest
  behind : (c d a b : ℕ) → UnquotedRest (tok Whitespace c d ∷ ts) (behind_space ts (tok Whitespace c d ∷ ts) a b).rest

next_step : {k : Kind} {x : InScalar} → InScalarView k x → (c d a b : ℕ) (ts : List Tok) → UnquotedFits ts → UnquotedRest (tok k c d ∷ ts) (unquoted_step x (unquoted ts a d) (behind_space ts (tok k c d ∷ ts) a b) (receiver.scalar Encoding.None a b ▹ done (tok k c d ∷ ts))).rest
next_step scalar_dot c d a b ts ih = dot_or_atom it_is_dot (ih.next a d)
next_step scalar_atom c d a b ts ih = dot_or_atom it_is_atom (ih.next a d)
next_step scalar_whitespace c d a b ts ih = ih.behind c d a b
next_step scalar_other c d a b ts ih = scalar_ends

behind_step : {k : Kind} {x : InScalar} → InScalarView k x → (e f c d a b : ℕ) (ts : List Tok) → UnquotedFits ts → UnquotedRest (tok Whitespace c d ∷ tok k e f ∷ ts) (space_step x (unquoted ts a f) (receiver.scalar Encoding.None a b ▹ done (tok Whitespace c d ∷ tok k e f ∷ ts))).rest
behind_step scalar_dot e f c d a b ts ih = scalar_ends
behind_step scalar_atom e f c d a b ts ih = whitespace_atom (ih.next a f)
behind_step scalar_whitespace e f c d a b ts ih = scalar_ends
behind_step scalar_other e f c d a b ts ih = scalar_ends

unquoted_fits : (ts : List Tok) → UnquotedFits ts
unquoted_fits [] = record { next = λ a b. scalar_ends; behind = λ c d a b. scalar_ends }
unquoted_fits (tok k c d ∷ ts) =
    let ih : UnquotedFits ts = unquoted_fits ts in
    record { next = λ a b. next_step (in_scalar_view k) c d a b ts ih; behind = λ e f a b. behind_step (in_scalar_view k) c d e f a b ts ih }

-- the rule of unquoted scalars leaves what follows one
pub unquoted_rest : (ts : List Tok) (a b : ℕ) → UnquotedRest ts (unquoted ts a b).rest
unquoted_rest ts a b = (unquoted_fits ts).next a b

pub scalar_fits : {k : Kind} {x : Starting} → StartView k x → (a b : ℕ) (ts : List Tok) → Scalar (tok k a b ∷ ts) (scalar_by x a b ts).rest
scalar_fits (starts_quoted s) a b ts = a_string s
scalar_fits (starts_unquoted d) a b ts = unquoted_scalar d (unquoted_rest ts a b)

-- a quiet walk over what brackets hold has read it
abbrev pub NestFits : Parts → Inside → Nest → Type 0
NestFits P N nest = (r : Bracket) (a b : ℕ) (ts : List Tok) → Regular ts → Quiet P (nest r a b ts).items → N r ts (nest r a b ts).rest

-- what follows a value in an array
data AfterValue (N : Inside) : List Tok → List Tok → Type 0 where
  closes_array : {ts rest : List Tok} {a b : ℕ} → Gap ts (tok RightSquareBracket a b ∷ rest) → AfterValue N ts rest
  goes_on : {ts us rest : List Tok} {a b : ℕ} → Gap ts (tok Comma a b ∷ us) → ArrayInside N us rest → AfterValue N ts rest

-- what follows where an array is in a state
abbrev AfterState : Inside → ArrayState → List Tok → List Tok → Type 0
AfterState N ArrayState.NeedsValue ts rest = ArrayInside N ts rest
AfterState N ArrayState.NeedsComma ts rest = AfterValue N ts rest

attach : {N : Inside} {ts us rest : List Tok} → Value N ts us → AfterValue N us rest → ArrayInside N ts rest
attach v (closes_array g) = some_values gap_ends (last_value v g)
attach v (goes_on g (no_values h)) = some_values gap_ends (trailing_comma v g h)
attach v (goes_on g (some_values h vs)) = some_values gap_ends (more_values v g h vs)

-- a gap before it
wider : (N : Inside) {ts ps : List Tok} (rest : List Tok) (st : ArrayState) → ((us : List Tok) → Gap ts us → Gap ps us) → AfterState N st ts rest → AfterState N st ps rest
wider N rest ArrayState.NeedsValue f (no_values g) = no_values (f _ g)
wider N rest ArrayState.NeedsValue f (some_values g vs) = some_values (f _ g) vs
wider N rest ArrayState.NeedsComma f (closes_array g) = closes_array (f _ g)
wider N rest ArrayState.NeedsComma f (goes_on g i) = goes_on (f _ g) i

module _ (P : Parts) (N : Inside) (head : Place) (nest : Nest) (nested : NestSuffix N) (fits : NestFits P N nest) where
  abbrev loop : ℕ → ArrayState → List Tok → Out
  loop n = turns (array_turn head nest) n

  abbrev ArrayFits : ℕ → Type 0
  ArrayFits n = (st : ArrayState) (ts : List Tok) → length ts ≤ n → Regular ts → Quiet P (loop n st ts).items → AfterState N st ts (loop n st ts).rest

  -- the list is exhausted: reported
  loud_end : (n : ℕ) (st : ArrayState) → Quiet P (loop n st []).items → ⊥
  unfolding turns
  loud_end zero st q = q
  loud_end (suc n) st q = q

  comment_step : (n : ℕ) → ArrayFits n → (st : ArrayState) (a b c d : ℕ) {k : Kind} {x : InLine} → InLineView k x → (ts : List Tok) → length (tok k c d ∷ ts) ≤ n → Regular (tok k c d ∷ ts)
      → Quiet P ((receiver.comment a b ▹ behind_comment x a c d ts (ignore_to_newline ts)) then loop n st).items → AfterState N st (tok Comment a b ∷ tok k c d ∷ ts) ((receiver.comment a b ▹ behind_comment x a c d ts (ignore_to_newline ts)) then loop n st).rest
  comment_step n ih st a b c d line_newline ts h g q = wider N (loop n st ts).rest st (λ us. comment_in_gap) (ih st ts (le_trans (le_step (le_refl _)) h) (regular_tail tt g) q.1.1)
  comment_step n ih st a b c d line_eof ts h g q = absurd (loud_end n st (subst (λ us. Quiet P (loop n st us).items) (eof_last g.ends) q.1))
  comment_step n ih st a b c d line_other ts h g q = absurd q.1
  comment_step n ih st a b c d line_comment ts h g q = absurd q.1
  comment_step n ih st a b c d line_whitespace ts h g q = absurd q.1

  comment_fits : (n : ℕ) → ArrayFits n → (st : ArrayState) (a b : ℕ) (ts : List Tok) → length ts ≤ n → Regular ts → Quiet P (on_comment a b ts then loop n st).items → AfterState N st (tok Comment a b ∷ ts) (on_comment a b ts then loop n st).rest
  comment_fits n ih st a b [] h g q = absurd (not_empty g)
  comment_fits n ih st a b (tok k c d ∷ ts) h g q = comment_step n ih st a b c d (in_line_view k) ts h g q

  -- a value was read
  value_fits : (n : ℕ) → ArrayFits n → {ts : List Tok} (o : Out) → Value N ts o.rest → length o.rest ≤ n → Regular o.rest → Quiet P (o then loop n ArrayState.NeedsComma).items → ArrayInside N ts (o then loop n ArrayState.NeedsComma).rest
  value_fits n ih o v h g q = attach v (ih ArrayState.NeedsComma o.rest h g (quiet_then P o (loop n ArrayState.NeedsComma) q).1)

  nest_fits : (n : ℕ) → ArrayFits n → (r : Bracket) (a b : ℕ) {ps : List Tok} (ts : List Tok) → ((rest : List Tok) → N r ts rest → Value N ps rest) → length ts ≤ n → Regular ts → Quiet P (nest r a b ts then loop n ArrayState.NeedsComma).items → ArrayInside N ps (nest r a b ts then loop n ArrayState.NeedsComma).rest
  nest_fits n ih r a b ts f h g q =
      let m = fits r a b ts g (quiet_then P (nest r a b ts) (loop n ArrayState.NeedsComma) q).0 in
      value_fits n ih (nest r a b ts) (f _ m) (le_trans (suffix_length (nested _ _ _ m)) h) (suffix_regular (nested _ _ _ m) g) q

  step : (n : ℕ) → ArrayFits n → {k : Kind} {x : InArray} → InArrayView k x → (st : ArrayState) (a b : ℕ) (ts : List Tok) → length ts ≤ n → Regular (tok k a b ∷ ts)
      → Quiet P (array_step x k head nest (loop n) st a b ts).items → AfterState N st (tok k a b ∷ ts) (array_step x k head nest (loop n) st a b ts).rest
  step n ih array_whitespace st a b ts h g q = wider N (loop n st ts).rest st (λ us. whitespace_in_gap) (ih st ts h (regular_tail tt g) q.1)
  step n ih array_newline st a b ts h g q = wider N (loop n st ts).rest st (λ us. newline_in_gap) (ih st ts h (regular_tail tt g) q.1)
  step n ih array_comment st a b ts h g q = comment_fits n ih st a b ts h (regular_tail tt g) q
  step n ih array_eof st a b ts h g q = absurd q
  step n ih array_commas ArrayState.NeedsValue a b ts h g q = absurd q
  step n ih array_commas ArrayState.NeedsComma a b ts h g q = goes_on gap_ends (ih ArrayState.NeedsValue ts h (regular_tail tt g) q.1)
  step n ih array_equals st a b ts h g q = absurd q
  step n ih array_open_curly ArrayState.NeedsValue a b ts h g q = nest_fits n ih Bracket.Curly a b ts (λ rest. an_inline_table) h (regular_tail tt g) q
  step n ih array_open_curly ArrayState.NeedsComma a b ts h g q = absurd q
  step n ih array_close_curly ArrayState.NeedsValue a b ts h g q = absurd q
  step n ih array_close_curly ArrayState.NeedsComma a b ts h g q = absurd q
  step n ih array_open_square ArrayState.NeedsValue a b ts h g q = nest_fits n ih Bracket.Square a b ts (λ rest. an_array) h (regular_tail tt g) q
  step n ih array_open_square ArrayState.NeedsComma a b ts h g q = absurd q
  step n ih array_close_square ArrayState.NeedsValue a b ts h g q = no_values gap_ends
  step n ih array_close_square ArrayState.NeedsComma a b ts h g q = closes_array gap_ends
  step n ih {k} (array_scalar v) ArrayState.NeedsValue a b ts h g q =
      let s = scalar_fits v a b ts in
      value_fits n ih (on_scalar k a b ts) (a_scalar s) (le_trans (scalar_length s) h) (suffix_regular (suffix_scalar s) g) q
  step n ih (array_scalar v) ArrayState.NeedsComma a b ts h g q = absurd q

  array_fits : (n : ℕ) → ArrayFits n
  unfolding turns
  array_fits zero st [] h g q = absurd q
  array_fits zero st (t ∷ ts) h g q = absurd (not-suc-le-zero h)
  array_fits (suc n) st [] h g q = absurd q
  array_fits (suc n) st (tok k a b ∷ ts) h g q = step n (array_fits n) (in_array_view k) st a b ts (le_of_suc-le-suc h) g q

  pub values_fit : (ts : List Tok) → Regular ts → Quiet P (loop (length ts) ArrayState.NeedsValue ts).items → ArrayInside N ts (loop (length ts) ArrayState.NeedsValue ts).rest
  values_fit ts g q = array_fits (length ts) ArrayState.NeedsValue ts (le_refl _) g q
