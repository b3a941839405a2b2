-- Three loops of the rules, a value that is skipped, an array and an inline table: a turn goes on only with fewer tokens, so that as many
-- turns as there are tokens are enough, and more change nothing. Nothing here needs to be believed.
use mathlib.Core.Path.{◌≡◌, refl, ap}
use mathlib.Core.Bool.{Bool, false}
use mathlib.Core.List.{List, ◌∷◌}
use Prim.Native.Nat.{ℕ, zero, suc, ◌≤◌}
use native.Mathlib.Nat.{le_refl}
use lib.ListN.{length}
use Rattle.token.specs.declared.kind.Kind.{Kind}
use Rattle.token.specs.declared.kind.Kind.TheVariants.{Equals, Comma, Whitespace, Comment, Newline, Eof}
use Rattle.token.specs.Tokens.{Tok, tok}
use Rattle.rules.specs.declared.event.Encoding.{Encoding}
use Rattle.rules.specs.declared.skipping.Bracket.{Bracket}
use Rattle.rules.specs.declared.skipping.InClose.{InClose}
use Rattle.rules.specs.declared.skipping.Opened.{Opened}
use Rattle.rules.specs.declared.array.InArray.{InArray}
use Rattle.rules.specs.declared.array.ArrayState.{ArrayState}
use Rattle.rules.specs.declared.inline_table.State.{State}
use Rattle.rules.specs.declared.inline_table.Progress.{Progress}
use Rattle.rules.specs.declared.inline_table.Action.{Action}
use Rattle.rules.specs.Out.{Place, span, before, report, Out, ◌▹◌, ◌▸◌, ◌then◌}
use Rattle.rules.specs.Turns.{turns}
use Rattle.rules.specs.Skipping.{in_close, on_comment, fewer, close_square, close_curly, opened, value_close_step, value_close_turn, ignore_to_value_close}
use Rattle.rules.specs.Keys.{opt_dot_keys, simple_key}
use Rattle.rules.specs.Scalar.{on_scalar}
use Rattle.rules.specs.WithoutOpen.{without_open}
use Rattle.rules.specs.Array.{in_array, Nest, missing_comma, array_step, array_turn}
use Rattle.rules.specs.InlineTable.{action_of, wanted, progress, encoding_at, refused, inline_table_step, inline_table_turn}
use Rattle.rules.specs.Nest.{on_open}
use Rattle.bounds.proofs.TurnsLaws.{Loop, Local, turns_enough}
use Rattle.bounds.specs.NestCosts.{Dotted, dotted}
use Rattle.bounds.proofs.NotBack.{Short, same_then, comment_short, value_close_short, scalar_short, open_short, dots_short, dot_short}
use Rattle.rules.specs.Messages as message
use Rattle.rules.specs.Expected as expected
use Rattle.rules.specs.Receiver as receiver
use Rattle.rules.specs.declared.inline_table.Action.TheVariants as A

-- two loops that agree where at most n tokens are left
abbrev Agree : {S : Type 0} → Loop S → Loop S → ℕ → Type 0
Agree {S} f g n = (s : S) (us : List Tok) → length us ≤ n → f s us ≡ g s us

-- a value that is skipped
square_same : (bracket : Bracket) (n : ℕ) (f g : ℕ → Out) (a b : ℕ) (ts : List Tok) → ((m : ℕ) → f m ≡ g m) → close_square bracket n f a b ts ≡ close_square bracket n g a b ts
square_same Bracket.Square zero f g a b ts e = refl
square_same Bracket.Square (suc n) f g a b ts e = ap (λ x. receiver.error a b ▹ x) (e n)
square_same Bracket.Curly n f g a b ts e = ap (λ x. receiver.error a b ▹ x) (e (fewer n))

curly_same : (bracket : Bracket) (n : ℕ) (f g : ℕ → Out) (a b : ℕ) (ts : List Tok) → ((m : ℕ) → f m ≡ g m) → close_curly bracket n f a b ts ≡ close_curly bracket n g a b ts
curly_same Bracket.Curly zero f g a b ts e = refl
curly_same Bracket.Curly (suc n) f g a b ts e = ap (λ x. receiver.error a b ▹ x) (e n)
curly_same Bracket.Square n f g a b ts e = ap (λ x. receiver.error a b ▹ x) (e (fewer n))

close_same : (x : InClose) (bracket : Bracket) (f g : Loop Opened) (o : Opened) (a b : ℕ) (ts : List Tok) → Agree f g (length ts) → value_close_step x bracket f o a b ts ≡ value_close_step x bracket g o a b ts
close_same InClose.Other bracket f g o a b ts e = ap (λ x. receiver.error a b ▹ x) (e o ts (le_refl _))
close_same InClose.Comment bracket f g o a b ts e = same_then (on_comment a b ts) (f o) (g o) (length ts) (comment_short a b ts) (e o)
close_same InClose.Whitespace bracket f g o a b ts e = ap (λ x. receiver.whitespace a b ▹ x) (e o ts (le_refl _))
close_same InClose.Newline bracket f g o a b ts e = ap (λ x. receiver.newline a b ▹ x) (e o ts (le_refl _))
close_same InClose.OpenSquare bracket f g o a b ts e = ap (λ x. receiver.error a b ▹ x) (e (opened (suc o.arrays) o.tables) ts (le_refl _))
close_same InClose.CloseSquare bracket f g o a b ts e = square_same bracket o.arrays (λ n. f (opened n o.tables) ts) (λ n. g (opened n o.tables) ts) a b ts (λ m. e (opened m o.tables) ts (le_refl _))
close_same InClose.OpenCurly bracket f g o a b ts e = ap (λ x. receiver.error a b ▹ x) (e (opened o.arrays (suc o.tables)) ts (le_refl _))
close_same InClose.CloseCurly bracket f g o a b ts e = curly_same bracket o.tables (λ n. f (opened o.arrays n) ts) (λ n. g (opened o.arrays n) ts) a b ts (λ m. e (opened o.arrays m) ts (le_refl _))
close_same InClose.Eof bracket f g o a b ts e = refl

pub close_local : (bracket : Bracket) → Local (value_close_turn bracket)
close_local bracket f g o (tok k a b) ts e = close_same (in_close k) bracket f g o a b ts e

module _ (head : Place) (nest : Nest) (short : (bracket : Bracket) (a b : ℕ) (ts : List Tok) → Short (nest bracket a b ts) (length ts)) where
  abbrev needs_value : ArrayState
  needs_value = ArrayState.NeedsValue

  abbrev needs_comma : ArrayState
  needs_comma = ArrayState.NeedsComma

  -- arrays
  array_same : (x : InArray) (k : Kind) (f g : Loop ArrayState) (st : ArrayState) (a b : ℕ) (ts : List Tok) → Agree f g (length ts) → array_step x k head nest f st a b ts ≡ array_step x k head nest g st a b ts
  array_same InArray.Comment k f g st a b ts e = same_then (on_comment a b ts) (f st) (g st) (length ts) (comment_short a b ts) (e st)
  array_same InArray.Whitespace k f g st a b ts e = ap (λ x. receiver.whitespace a b ▹ x) (e st ts (le_refl _))
  array_same InArray.Newline k f g st a b ts e = ap (λ x. receiver.newline a b ▹ x) (e st ts (le_refl _))
  array_same InArray.Eof k f g st a b ts e = refl
  array_same InArray.Comma k f g ArrayState.NeedsValue a b ts e = ap (λ x. report message.extra_comma_in_array expected.a_value head (span a b) ▹ receiver.error a b ▹ x) (e needs_value ts (le_refl _))
  array_same InArray.Comma k f g ArrayState.NeedsComma a b ts e = ap (λ x. receiver.value_sep a b ▹ x) (e needs_value ts (le_refl _))
  array_same InArray.Equals k f g st a b ts e = ap (λ x. report message.unexpected_equals_in_array expected.value_or_close_square head (span a b) ▹ receiver.error a b ▹ x) (e st ts (le_refl _))
  array_same InArray.OpenCurly k f g st a b ts e = ap (λ x. missing_comma head st a b ▸ x) (same_then (nest Bracket.Curly a b ts) (f needs_comma) (g needs_comma) (length ts) (short Bracket.Curly a b ts) (e needs_comma))
  array_same InArray.CloseCurly k f g st a b ts e = ap (λ x. missing_comma head st a b ▸ without_open Bracket.Curly a b ▸ x) (e needs_comma ts (le_refl _))
  array_same InArray.OpenSquare k f g st a b ts e = ap (λ x. missing_comma head st a b ▸ x) (same_then (nest Bracket.Square a b ts) (f needs_comma) (g needs_comma) (length ts) (short Bracket.Square a b ts) (e needs_comma))
  array_same InArray.CloseSquare k f g st a b ts e = refl
  array_same InArray.Scalar k f g st a b ts e = ap (λ x. missing_comma head st a b ▸ x) (same_then (on_scalar k a b ts) (f needs_comma) (g needs_comma) (length ts) (scalar_short k a b ts) (e needs_comma))

  pub array_local : Local (array_turn head nest)
  array_local f g st (tok k a b) ts e = array_same (in_array k) k f g st a b ts e

  -- inline tables
  abbrev table : State → Progress
  table st = progress st false

  table_same : (opened : ℕ) (x : Action) (k : Kind) (f g : Loop Progress) (st : State) (empty : Bool) (a b : ℕ) (ts : List Tok) → Dotted x k → Agree f g (length ts) → inline_table_step x k head opened nest f st empty a b ts ≡ inline_table_step x k head opened nest g st empty a b ts
  table_same opened A.Comment k f g st empty a b ts d e = ap (λ x. report message.comment_in_inline_table expected.nothing head (span a b) ▹ x) (same_then (on_comment a b ts) (f (progress st empty)) (g (progress st empty)) (length ts) (comment_short a b ts) (e (progress st empty)))
  table_same opened A.Whitespace k f g st empty a b ts d e = ap (λ x. receiver.whitespace a b ▹ x) (e (progress st empty) ts (le_refl _))
  table_same opened A.Newline k f g st empty a b ts d e = ap (λ x. report message.newline_in_inline_table expected.nothing head (span a b) ▹ receiver.newline a b ▹ x) (e (progress st empty) ts (le_refl _))
  table_same opened A.Eof k f g st empty a b ts d e = refl
  table_same opened A.ExtraComma k f g st empty a b ts d e = ap (λ x. refused message.extra_comma_in_inline_table st head a b ▸ x) (e (progress st empty) ts (le_refl _))
  table_same opened A.ValueSep k f g st empty a b ts d e = ap (λ x. receiver.value_sep a b ▹ x) (e (progress State.NeedsKey empty) ts (le_refl _))
  table_same opened A.EmptyKey k f g st empty a b ts d e = ap (λ x. receiver.simple_key Encoding.None a a ▹ receiver.key_val_sep a b ▹ x) (e (table State.NeedsValue) ts (le_refl _))
  table_same opened A.KeyValSep k f g st empty a b ts d e = ap (λ x. receiver.key_val_sep a b ▹ x) (e (table State.NeedsValue) ts (le_refl _))
  table_same opened A.ExtraAssignment k f g st empty a b ts d e = ap (λ x. refused message.extra_assignment st head a b ▸ x) (e (progress st empty) ts (le_refl _))
  table_same opened A.KeylessTable k f g st empty a b ts d e = ap (λ x. refused message.missing_key_in_inline_table st head a b ▸ x) (same_then (ignore_to_value_close Bracket.Curly ts) (f (progress st empty)) (g (progress st empty)) (length ts) (value_close_short Bracket.Curly ts) (e (progress st empty)))
  table_same opened A.UnassignedTable k f g st empty a b ts d e = ap (λ x. report message.missing_assignment (wanted st) head (before a b) ▹ x) (same_then (nest Bracket.Curly a b ts) (f (table State.NeedsComma)) (g (table State.NeedsComma)) (length ts) (short Bracket.Curly a b ts) (e (table State.NeedsComma)))
  table_same opened A.Table k f g st empty a b ts d e = same_then (nest Bracket.Curly a b ts) (f (table State.NeedsComma)) (g (table State.NeedsComma)) (length ts) (short Bracket.Curly a b ts) (e (table State.NeedsComma))
  table_same opened A.Close k f g st empty a b ts d e = refl
  table_same opened A.KeylessArray k f g st empty a b ts d e = ap (λ x. refused message.missing_key_in_inline_table st head a b ▸ x) (same_then (ignore_to_value_close Bracket.Square ts) (f (progress st empty)) (g (progress st empty)) (length ts) (value_close_short Bracket.Square ts) (e (progress st empty)))
  table_same opened A.UnassignedArray k f g st empty a b ts d e = ap (λ x. report message.missing_assignment (wanted st) head (before a b) ▹ x) (same_then (nest Bracket.Square a b ts) (f (table State.NeedsComma)) (g (table State.NeedsComma)) (length ts) (short Bracket.Square a b ts) (e (table State.NeedsComma)))
  table_same opened A.Array k f g st empty a b ts d e = same_then (nest Bracket.Square a b ts) (f (table State.NeedsComma)) (g (table State.NeedsComma)) (length ts) (short Bracket.Square a b ts) (e (table State.NeedsComma))
  table_same opened A.InvalidElement k f g st empty a b ts d e = ap (λ x. refused message.invalid_inline_table_element st head a b ▸ x) (e (progress st empty) ts (le_refl _))
  table_same opened A.ArrayWithoutOpen k f g st empty a b ts d e = ap (λ x. without_open Bracket.Square a b ▸ x) (e (table State.NeedsComma) ts (le_refl _))
  table_same opened A.DotKey k f g st empty a b ts d e = ap (λ x. receiver.simple_key Encoding.None a a ▹ x) (same_then (opt_dot_keys (tok k a b ∷ ts)) (f (table State.NeedsEquals)) (g (table State.NeedsEquals)) (length ts) (dot_short k a b ts d) (e (table State.NeedsEquals)))
  table_same opened A.Key k f g st empty a b ts d e = ap (λ x. receiver.simple_key (encoding_at k) a b ▹ x) (same_then (opt_dot_keys ts) (f (table State.NeedsEquals)) (g (table State.NeedsEquals)) (length ts) (dots_short ts) (e (table State.NeedsEquals)))
  table_same opened A.UnassignedScalar k f g st empty a b ts d e = ap (λ x. report message.missing_assignment (wanted st) head (before a b) ▹ x) (same_then (on_scalar k a b ts) (f (table State.NeedsComma)) (g (table State.NeedsComma)) (length ts) (scalar_short k a b ts) (e (table State.NeedsComma)))
  table_same opened A.Scalar k f g st empty a b ts d e = same_then (on_scalar k a b ts) (f (table State.NeedsComma)) (g (table State.NeedsComma)) (length ts) (scalar_short k a b ts) (e (table State.NeedsComma))
  table_same opened A.DotKeyWithoutComma k f g st empty a b ts d e = ap (λ x. report message.missing_comma_in_inline_table (wanted st) head (before a b) ▹ receiver.simple_key Encoding.None a a ▹ x) (same_then (opt_dot_keys (tok k a b ∷ ts)) (f (table State.NeedsEquals)) (g (table State.NeedsEquals)) (length ts) (dot_short k a b ts d) (e (table State.NeedsEquals)))
  table_same opened A.KeyWithoutComma k f g st empty a b ts d e = ap (λ x. report message.missing_comma_in_inline_table (wanted st) head (before a b) ▹ receiver.simple_key (encoding_at k) a b ▹ x) (same_then (opt_dot_keys ts) (f (table State.NeedsEquals)) (g (table State.NeedsEquals)) (length ts) (dots_short ts) (e (table State.NeedsEquals)))

  pub table_local : (opened : ℕ) → Local (inline_table_turn head opened nest)
  table_local opened f g p (tok k a b) ts e = table_same opened (action_of p.state k) k f g p.state p.empty a b ts (dotted p.state k) e

-- more turns than tokens change nothing
pub value_close_enough : (bracket : Bracket) (n m : ℕ) (o : Opened) (ts : List Tok) → length ts ≤ n → length ts ≤ m → turns (value_close_turn bracket) n o ts ≡ turns (value_close_turn bracket) m o ts
value_close_enough bracket = turns_enough (value_close_turn bracket) (λ f g o. refl) (close_local bracket)

pub array_enough : (head : Place) (levels n m : ℕ) (st : ArrayState) (ts : List Tok) → length ts ≤ n → length ts ≤ m → turns (array_turn head (on_open levels)) n st ts ≡ turns (array_turn head (on_open levels)) m st ts
array_enough head levels = turns_enough (array_turn head (on_open levels)) (λ f g st. refl) (array_local head (on_open levels) (open_short levels))

pub inline_table_enough : (head : Place) (opened levels n m : ℕ) (p : Progress) (ts : List Tok) → length ts ≤ n → length ts ≤ m → turns (inline_table_turn head opened (on_open levels)) n p ts ≡ turns (inline_table_turn head opened (on_open levels)) m p ts
inline_table_enough head opened levels = turns_enough (inline_table_turn head opened (on_open levels)) (λ f g p. refl) (table_local head (on_open levels) (open_short levels) opened)
