-- Skipping and the ends of lines, more closely: an event a token at most, and so many reports. Proved; nothing here needs to be believed.
use Rattle.std.specs.Prelude.{List, [], ◌∷◌, ℕ, ◌+◌, ◌*◌, ◌≤◌, length}
use Rattle.std.proofs.Common.{arith}
use Rattle.token.specs.declared.kind.Kind.{Kind}
use Rattle.token.specs.Tokens.{Tok, tok}
use Rattle.rules.specs.declared.skipping.InLine.{InLine}
use Rattle.rules.specs.Out.{Out}
use Rattle.rules.specs.Costs.{event_count, error_count}
use Rattle.rules.specs.Skipping.{in_line, ignored, behind_comment, ignore_to_newline, after_comment, on_comment, ending_step, ending, ws_comment_newline, leftover_step, leftover, eof_step, eof}

-- 1 if any token is left
abbrev pub some : List Tok → ℕ
some [] = 0
some (t ∷ ts) = 1

pub some_few : (ts : List Tok) → (some ts ≤ 1) × (some ts ≤ length ts)
some_few [] = (omega arith, omega arith)
some_few (t ∷ ts) = (omega arith, omega arith)

-- a line that is skipped: a report takes a comment and a token behind it; where tokens are left the line's end was taken
pub record Skips (ts : List Tok) (c : ℕ) (o : Out) : Type 0 where
  pub events : event_count o.items + length o.rest ≤ length ts + c
  pub errors : 2 * error_count o.items + length o.rest + some o.rest ≤ length ts + c

module _ (k : Kind) (a b : ℕ) (ts : List Tok) where
  ignored_skips : (l : InLine) (on behind : Out) → Skips ts 0 on → event_count behind.items + length behind.rest ≤ length ts → 2 * error_count behind.items + length behind.rest + some behind.rest ≤ length ts + 1 → Skips (tok k a b ∷ ts) 0 (ignored l a b ts on behind)
  ignored_skips InLine.Other on behind p q r = omega arith
  ignored_skips InLine.Comment on behind p q r = omega arith
  ignored_skips InLine.Whitespace on behind p q r = omega arith
  ignored_skips InLine.Newline on behind p q r = omega (arith, (some_few ts).0)
  ignored_skips InLine.Eof on behind p q r = omega (arith, (some_few ts).0)

  behind_events : (l : InLine) (c : ℕ) (on : Out) → Skips ts 0 on → event_count (behind_comment l c a b ts on).items + length (behind_comment l c a b ts on).rest ≤ length (tok k a b ∷ ts)
  behind_events InLine.Other c on p = omega (arith, p.events)
  behind_events InLine.Comment c on p = omega (arith, p.events)
  behind_events InLine.Whitespace c on p = omega (arith, p.events)
  behind_events InLine.Newline c on p = omega arith
  behind_events InLine.Eof c on p = omega arith

  behind_errors : (l : InLine) (c : ℕ) (on : Out) → Skips ts 0 on → 2 * error_count (behind_comment l c a b ts on).items + length (behind_comment l c a b ts on).rest + some (behind_comment l c a b ts on).rest ≤ length (tok k a b ∷ ts) + 1
  behind_errors InLine.Other c on p = omega (arith, p.errors)
  behind_errors InLine.Comment c on p = omega (arith, p.errors)
  behind_errors InLine.Whitespace c on p = omega (arith, p.errors)
  behind_errors InLine.Newline c on p = omega (arith, (some_few ts).0)
  behind_errors InLine.Eof c on p = omega (arith, (some_few ts).0)

mutual
  pub ignore_skips : (ts : List Tok) → Skips ts 0 (ignore_to_newline ts)
  ignore_skips [] = record { events = omega arith; errors = omega arith }
  ignore_skips (tok k a b ∷ ts) = ignored_skips k a b ts (in_line k) (ignore_to_newline ts) (after_comment ts a) (ignore_skips ts) (after_events ts a) (after_errors ts a)

  after_events : (ts : List Tok) (c : ℕ) → event_count (after_comment ts c).items + length (after_comment ts c).rest ≤ length ts
  after_events [] c = omega arith
  after_events (tok k a b ∷ ts) c = behind_events k a b ts (in_line k) c (ignore_to_newline ts) (ignore_skips ts)

  after_errors : (ts : List Tok) (c : ℕ) → 2 * error_count (after_comment ts c).items + length (after_comment ts c).rest + some (after_comment ts c).rest ≤ length ts + 1
  after_errors [] c = omega arith
  after_errors (tok k a b ∷ ts) c = behind_errors k a b ts (in_line k) c (ignore_to_newline ts) (ignore_skips ts)

-- the comment's own token is not among ts
pub on_comment_skips : (a b : ℕ) (ts : List Tok) → Skips ts 1 (on_comment a b ts)
on_comment_skips a b ts = record { events = omega (arith, after_events ts a); errors = after_errors ts a }

-- the rest of a line: a report a token at most, and where tokens are left one was taken for none
pub record Lines (ts : List Tok) (o : Out) : Type 0 where
  pub events : event_count o.items + length o.rest ≤ length ts
  pub errors : error_count o.items + length o.rest + some o.rest ≤ length ts

pub ignore_lines : (ts : List Tok) → Lines ts (ignore_to_newline ts)
ignore_lines ts = let p : Skips ts 0 (ignore_to_newline ts) = ignore_skips ts in record { events = omega (arith, p.events); errors = omega (arith, p.errors) }

module _ (k : Kind) (a b : ℕ) (ts : List Tok) where
  ending_step_lines : (l : InLine) (first : ℕ) (on : Out) → Lines ts on → Lines (tok k a b ∷ ts) (ending_step l first a b ts on)
  ending_step_lines InLine.Other first on p = let q : Lines ts (ignore_to_newline ts) = ignore_lines ts in omega arith
  ending_step_lines InLine.Comment first on p = let q : Skips ts 1 (on_comment a b ts) = on_comment_skips a b ts in omega arith
  ending_step_lines InLine.Whitespace first on p = omega arith
  ending_step_lines InLine.Newline first on p = omega (arith, (some_few ts).0)
  ending_step_lines InLine.Eof first on p = omega (arith, (some_few ts).0)

ending_lines : (ts : List Tok) (first : ℕ) → Lines ts (ending ts first)
ending_lines [] first = record { events = omega arith; errors = omega arith }
ending_lines (tok k a b ∷ ts) first = ending_step_lines k a b ts (in_line k) first (ending ts first) (ending_lines ts first)

pub ws_comment_newline_lines : (ts : List Tok) → Lines ts (ws_comment_newline ts)
ws_comment_newline_lines [] = record { events = omega arith; errors = omega arith }
ws_comment_newline_lines (tok k a b ∷ ts) = ending_lines (tok k a b ∷ ts) a

-- the end: one report if any token is left
leftover_step_none : (l : InLine) (a b : ℕ) (on : Out) → error_count on.items ≤ 0 → error_count (leftover_step l a b on).items ≤ 0
leftover_step_none InLine.Other a b on p = p
leftover_step_none InLine.Comment a b on p = p
leftover_step_none InLine.Whitespace a b on p = p
leftover_step_none InLine.Newline a b on p = p
leftover_step_none InLine.Eof a b on p = p

leftover_none : (ts : List Tok) → error_count (leftover ts).items ≤ 0
leftover_none [] = omega arith
leftover_none (tok k a b ∷ ts) = leftover_step_none (in_line k) a b (leftover ts) (leftover_none ts)

eof_step_errors : (k : Kind) (a b : ℕ) (ts : List Tok) (l : InLine) → error_count (eof_step l a b ts).items ≤ 1
eof_step_errors k a b ts InLine.Other = omega (arith, leftover_none ts)
eof_step_errors k a b ts InLine.Comment = omega (arith, leftover_none ts)
eof_step_errors k a b ts InLine.Whitespace = omega (arith, leftover_none ts)
eof_step_errors k a b ts InLine.Newline = omega (arith, leftover_none ts)
eof_step_errors k a b ts InLine.Eof = omega arith

pub eof_errors : (ts : List Tok) → error_count (eof ts).items ≤ some ts
eof_errors [] = omega arith
eof_errors (tok k a b ∷ ts) = eof_step_errors k a b ts (in_line k)
