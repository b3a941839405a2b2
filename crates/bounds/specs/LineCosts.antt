-- The costs of skipping and of line ends. Proved; nothing here needs to be believed.
use Rattle.std.specs.Prelude.{List, [], ◌∷◌, ℕ, zero, suc, ◌≤◌, length}
use Rattle.std.proofs.Common.{arith}
use Rattle.token.specs.declared.kind.Kind.{Kind}
use Rattle.token.specs.Tokens.{Tok, tok}
use Rattle.rules.specs.declared.skipping.InLine.{InLine}
use Rattle.rules.specs.declared.skipping.InClose.{InClose}
use Rattle.rules.specs.declared.skipping.Bracket.{Bracket}
use Rattle.rules.specs.declared.skipping.Opened.{Opened}
use Rattle.rules.specs.Out.{Out, ◌then◌}
use Rattle.rules.specs.Costs.{event_count, Costs, done_costs, then_costs, looping_costs}
use Rattle.rules.specs.Skipping.{in_line, in_close, ignored, behind_comment, ignore_to_newline, after_comment, on_comment, close_square, close_curly, fewer, opened, value_close_step, value_close_turn, ignore_to_value_close, ending_step, ending, ws_comment_newline, leftover_step, leftover, eof_step, eof}

module _ (k : Kind) (a b : ℕ) (ts : List Tok) where
  ignored_costs : (l : InLine) (on behind : Out) → Costs ts 0 0 on → Costs ts 0 0 behind → Costs (tok k a b ∷ ts) 0 0 (ignored l a b ts on behind)
  ignored_costs InLine.Other on behind p q = omega arith
  ignored_costs InLine.Comment on behind p q = omega arith
  ignored_costs InLine.Whitespace on behind p q = omega arith
  ignored_costs InLine.Newline on behind p q = omega arith
  ignored_costs InLine.Eof on behind p q = omega arith

  behind_comment_costs : (l : InLine) (c : ℕ) (on : Out) → Costs ts 0 0 on → Costs (tok k a b ∷ ts) 0 0 (behind_comment l c a b ts on)
  behind_comment_costs InLine.Other c on p = omega arith
  behind_comment_costs InLine.Comment c on p = omega arith
  behind_comment_costs InLine.Whitespace c on p = omega arith
  behind_comment_costs InLine.Newline c on p = omega arith
  behind_comment_costs InLine.Eof c on p = omega arith

mutual
  pub ignore_to_newline_costs : (ts : List Tok) → Costs ts 0 0 (ignore_to_newline ts)
  ignore_to_newline_costs [] = done_costs [] 0 0
  ignore_to_newline_costs (tok k a b ∷ ts) = ignored_costs k a b ts (in_line k) (ignore_to_newline ts) (after_comment ts a) (ignore_to_newline_costs ts) (after_comment_costs ts a)

  after_comment_costs : (ts : List Tok) (c : ℕ) → Costs ts 0 0 (after_comment ts c)
  after_comment_costs [] c = done_costs [] 0 0
  after_comment_costs (tok k a b ∷ ts) c = behind_comment_costs k a b ts (in_line k) c (ignore_to_newline ts) (ignore_to_newline_costs ts)

-- the comment's own token is not among ts
pub on_comment_costs : (a b : ℕ) (ts : List Tok) → Costs ts 1 0 (on_comment a b ts)
on_comment_costs a b ts = let p : Costs ts 0 0 (after_comment ts a) = after_comment_costs ts a in omega arith

-- a value that is skipped
module _ (k : Kind) (a b : ℕ) (ts : List Tok) where
  close_square_costs : (closing : Bracket) (n : ℕ) (on : ℕ → Out) → ((m : ℕ) → Costs ts 0 0 (on m)) → Costs (tok k a b ∷ ts) 0 0 (close_square closing n on a b ts)
  close_square_costs Bracket.Square zero on q = omega arith
  close_square_costs Bracket.Square (suc n) on q = let p : Costs ts 0 0 (on n) = q n in omega arith
  close_square_costs Bracket.Curly n on q = let p : Costs ts 0 0 (on (fewer n)) = q (fewer n) in omega arith

  close_curly_costs : (closing : Bracket) (n : ℕ) (on : ℕ → Out) → ((m : ℕ) → Costs ts 0 0 (on m)) → Costs (tok k a b ∷ ts) 0 0 (close_curly closing n on a b ts)
  close_curly_costs Bracket.Curly zero on q = omega arith
  close_curly_costs Bracket.Curly (suc n) on q = let p : Costs ts 0 0 (on n) = q n in omega arith
  close_curly_costs Bracket.Square n on q = let p : Costs ts 0 0 (on (fewer n)) = q (fewer n) in omega arith

  value_close_costs : (c : InClose) (closing : Bracket) (loop : Opened → List Tok → Out) (o : Opened) → ((p : Opened) (us : List Tok) → Costs us 0 0 (loop p us)) → Costs (tok k a b ∷ ts) 0 0 (value_close_step c closing loop o a b ts)
  value_close_costs InClose.Other closing loop o q = let p : Costs ts 0 0 (loop o ts) = q o ts in omega arith
  value_close_costs InClose.Comment closing loop o q = let p : Costs ts 1 0 (on_comment a b ts then loop o) = then_costs (loop o) 0 0 (on_comment_costs a b ts) (q o) in omega arith
  value_close_costs InClose.Whitespace closing loop o q = let p : Costs ts 0 0 (loop o ts) = q o ts in omega arith
  value_close_costs InClose.Newline closing loop o q = let p : Costs ts 0 0 (loop o ts) = q o ts in omega arith
  value_close_costs InClose.OpenSquare closing loop o q = let p : Costs ts 0 0 (loop (opened (suc o.arrays) o.tables) ts) = q (opened (suc o.arrays) o.tables) ts in omega arith
  value_close_costs InClose.CloseSquare closing loop o q = close_square_costs closing o.arrays (λ n. loop (opened n o.tables) ts) (λ n. q (opened n o.tables) ts)
  value_close_costs InClose.OpenCurly closing loop o q = let p : Costs ts 0 0 (loop (opened o.arrays (suc o.tables)) ts) = q (opened o.arrays (suc o.tables)) ts in omega arith
  value_close_costs InClose.CloseCurly closing loop o q = close_curly_costs closing o.tables (λ n. loop (opened o.arrays n) ts) (λ n. q (opened o.arrays n) ts)
  value_close_costs InClose.Eof closing loop o q = omega arith

value_close_turn_costs : (closing : Bracket) (loop : Opened → List Tok → Out) → ((o : Opened) (us : List Tok) → Costs us 0 0 (loop o us)) → (o : Opened) (ts : List Tok) → Costs ts 0 0 (value_close_turn closing loop o ts)
value_close_turn_costs closing loop q o [] = done_costs [] 0 0
value_close_turn_costs closing loop q o (tok k a b ∷ ts) = value_close_costs k a b ts (in_close k) closing loop o q

pub ignore_to_value_close_costs : (closing : Bracket) (ts : List Tok) → Costs ts 0 0 (ignore_to_value_close closing ts)
ignore_to_value_close_costs closing ts = looping_costs (value_close_turn closing) 0 0 (value_close_turn_costs closing) (opened 0 0) ts

-- the end of a line
module _ (k : Kind) (a b : ℕ) (ts : List Tok) where
  ending_step_costs : (l : InLine) (first : ℕ) (on : Out) → Costs ts 0 0 on → Costs (tok k a b ∷ ts) 0 0 (ending_step l first a b ts on)
  ending_step_costs InLine.Other first on p = let q : Costs ts 0 0 (ignore_to_newline ts) = ignore_to_newline_costs ts in omega arith
  ending_step_costs InLine.Comment first on p = let q : Costs ts 1 0 (on_comment a b ts) = on_comment_costs a b ts in omega arith
  ending_step_costs InLine.Whitespace first on p = omega arith
  ending_step_costs InLine.Newline first on p = omega arith
  ending_step_costs InLine.Eof first on p = omega arith

ending_costs : (ts : List Tok) (first : ℕ) → Costs ts 0 0 (ending ts first)
ending_costs [] first = done_costs [] 0 0
ending_costs (tok k a b ∷ ts) first = ending_step_costs k a b ts (in_line k) first (ending ts first) (ending_costs ts first)

pub ws_comment_newline_costs : (ts : List Tok) → Costs ts 0 0 (ws_comment_newline ts)
ws_comment_newline_costs [] = done_costs [] 0 0
ws_comment_newline_costs (tok k a b ∷ ts) = ending_costs (tok k a b ∷ ts) a

-- what is left at the end: an event a token at most
abbrev Ends : List Tok → Out → Type 0
Ends ts o = event_count o.items ≤ length ts

module _ (k : Kind) (a b : ℕ) (ts : List Tok) where
  leftover_step_ends : (l : InLine) (on : Out) → Ends ts on → Ends (tok k a b ∷ ts) (leftover_step l a b on)
  leftover_step_ends InLine.Other on p = omega arith
  leftover_step_ends InLine.Comment on p = omega arith
  leftover_step_ends InLine.Whitespace on p = omega arith
  leftover_step_ends InLine.Newline on p = omega arith
  leftover_step_ends InLine.Eof on p = omega arith

leftover_ends : (ts : List Tok) → Ends ts (leftover ts)
leftover_ends [] = omega arith
leftover_ends (tok k a b ∷ ts) = leftover_step_ends k a b ts (in_line k) (leftover ts) (leftover_ends ts)

module _ (k : Kind) (a b : ℕ) (ts : List Tok) where
  eof_step_ends : (l : InLine) → Ends ts (leftover ts) → Ends (tok k a b ∷ ts) (eof_step l a b ts)
  eof_step_ends InLine.Other p = omega arith
  eof_step_ends InLine.Comment p = omega arith
  eof_step_ends InLine.Whitespace p = omega arith
  eof_step_ends InLine.Newline p = omega arith
  eof_step_ends InLine.Eof p = omega arith

pub eof_ends : (ts : List Tok) → Ends ts (eof ts)
eof_ends [] = omega arith
eof_ends (tok k a b ∷ ts) = eof_step_ends k a b ts (in_line k) (leftover_ends ts)
