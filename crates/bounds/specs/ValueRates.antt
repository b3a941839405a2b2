-- Values and expressions, more closely. Where no bracket is opened, or hardly a token follows one, a token pays for two events and one
-- report; else it pays for three and two, and the tokens before the bracket pay for what is besides. Proved; nothing here needs to be
-- believed.
use Rattle.std.specs.Prelude.{◌≡◌, Bool, true, false, List, [], ◌∷◌, ℕ, suc, ◌+◌, ◌*◌, ◌≤◌, length, eqb}
use Rattle.std.proofs.Math.Path.{refl}
use Rattle.std.proofs.Common.{arith}
use Rattle.token.specs.declared.kind.Kind.{Kind}
use Rattle.token.specs.declared.kind.Kind.TheVariants.{Equals}
use Rattle.token.specs.Kinds.{number_of}
use Rattle.token.specs.Tokens.{Tok, tok}
use Rattle.rules.specs.declared.skipping.Bracket.{Bracket}
use Rattle.rules.specs.declared.value.InValue.{InValue}
use Rattle.rules.specs.Out.{Out, done, ◌then◌}
use Rattle.rules.specs.Costs.{event_count, error_count, Costs, events_append, errors_append}
use Rattle.rules.specs.Skipping.{ignore_to_newline, ws_comment_newline}
use Rattle.rules.specs.Keys.{opt_whitespace, opt_dot_keys}
use Rattle.rules.specs.Nest.{on_open}
use Rattle.rules.specs.Value.{in_value, value_step, value}
use Rattle.rules.specs.Table.{next_by, next_token_if}
use Rattle.rules.specs.Document.{on_expression_key_val_sep, no_equals, expression}
use Rattle.bounds.specs.LineRates.{some, Lines, ignore_lines, ws_comment_newline_lines}
use Rattle.bounds.specs.KeyRates.{Twos, opt_whitespace_twos, opt_dot_keys_twos, on_scalar_single, on_scalar_left}
use Rattle.bounds.specs.ArrayCosts.{spare, spare_one}
use Rattle.bounds.specs.NestCosts.{on_open_spares}

-- the one bound or the other
pub data OneOf (A B : Type 0) : Type 0 where
  flat : A → OneOf A B
  nested : B → OneOf A B

abbrev pub ValueEvents : List Tok → Out → Type 0
ValueEvents ts o = OneOf (event_count o.items + 2 * length o.rest ≤ 2 * length ts + 1) (event_count o.items + 3 * length o.rest + 2 ≤ 3 * length ts)

abbrev pub ValueErrors : List Tok → Out → Type 0
ValueErrors ts o = OneOf (error_count o.items + length o.rest ≤ length ts + 1) (error_count o.items + 2 * length o.rest + 2 ≤ 2 * length ts)

bracket_events : (t : Tok) (ts : List Tok) (o : Out) → Costs ts (1 + spare_one ts) (spare ts) o → ValueEvents (t ∷ ts) o
bracket_events t [] o p = flat (omega (arith, p.events))
bracket_events t (u ∷ []) o p = flat (omega (arith, p.events))
bracket_events t (u ∷ v ∷ ts) o p = nested (omega (arith, p.events))

bracket_errors : (t : Tok) (ts : List Tok) (o : Out) → Costs ts (1 + spare_one ts) (spare ts) o → ValueErrors (t ∷ ts) o
bracket_errors t [] o p = flat (omega (arith, p.errors))
bracket_errors t (u ∷ ts) o p = nested (omega (arith, p.errors))

module _ (levels : ℕ) (k : Kind) (a b : ℕ) (ts : List Tok) where
  value_step_events : (c : InValue) (again : Out) → ValueEvents ts again → ValueEvents (tok k a b ∷ ts) (value_step c levels k a b ts (done (tok k a b ∷ ts)) again)
  value_step_events InValue.Nothing again p = flat (omega arith)
  value_step_events InValue.Equals again (flat h) = flat (omega (arith, h))
  value_step_events InValue.Equals again (nested h) = nested (omega (arith, h))
  value_step_events InValue.OpenCurly again p = bracket_events (tok k a b) ts (on_open levels Bracket.Curly a b ts) (on_open_spares levels Bracket.Curly a b ts)
  value_step_events InValue.CloseCurly again p = flat (omega arith)
  value_step_events InValue.OpenSquare again p = bracket_events (tok k a b) ts (on_open levels Bracket.Square a b ts) (on_open_spares levels Bracket.Square a b ts)
  value_step_events InValue.CloseSquare again p = flat (omega arith)
  value_step_events InValue.Scalar again p = flat (omega (arith, (on_scalar_single k a b ts).events, on_scalar_left k a b ts))

  value_step_errors : (c : InValue) (again : Out) → ValueErrors ts again → ValueErrors (tok k a b ∷ ts) (value_step c levels k a b ts (done (tok k a b ∷ ts)) again)
  value_step_errors InValue.Nothing again p = flat (omega arith)
  value_step_errors InValue.Equals again (flat h) = flat (omega (arith, h))
  value_step_errors InValue.Equals again (nested h) = nested (omega (arith, h))
  value_step_errors InValue.OpenCurly again p = bracket_errors (tok k a b) ts (on_open levels Bracket.Curly a b ts) (on_open_spares levels Bracket.Curly a b ts)
  value_step_errors InValue.CloseCurly again p = flat (omega arith)
  value_step_errors InValue.OpenSquare again p = bracket_errors (tok k a b) ts (on_open levels Bracket.Square a b ts) (on_open_spares levels Bracket.Square a b ts)
  value_step_errors InValue.CloseSquare again p = flat (omega arith)
  value_step_errors InValue.Scalar again p = flat (omega (arith, (on_scalar_single k a b ts).errors, on_scalar_left k a b ts))

pub value_events : (levels : ℕ) (ts : List Tok) → ValueEvents ts (value levels ts)
value_events levels [] = flat (omega arith)
value_events levels (tok k a b ∷ ts) = value_step_events levels k a b ts (in_value k) (value levels ts) (value_events levels ts)

pub value_errors : (levels : ℕ) (ts : List Tok) → ValueErrors ts (value levels ts)
value_errors levels [] = flat (omega arith)
value_errors levels (tok k a b ∷ ts) = value_step_errors levels k a b ts (in_value k) (value levels ts) (value_errors levels ts)

-- the value, and the end of its line; the `=` before it is not among ts
abbrev pub SepEvents : List Tok → Out → Type 0
SepEvents ts o = OneOf (event_count o.items + 2 * length o.rest + some o.rest ≤ 2 * length ts + 2) (event_count o.items + 3 * length o.rest + 1 ≤ 3 * length ts)

abbrev pub SepErrors : List Tok → Out → Type 0
SepErrors ts o = OneOf (error_count o.items + length o.rest ≤ length ts + 1) (error_count o.items + 2 * length o.rest + 2 ≤ 2 * length ts)

module _ (levels a b : ℕ) (ts : List Tok) where
  spaced : Out
  spaced = opt_whitespace ts

  valued : Out
  valued = value levels spaced.rest

  ended : Out
  ended = ws_comment_newline valued.rest

  sep_items : event_count (on_expression_key_val_sep levels a b ts).items ≡ suc (event_count spaced.items + event_count valued.items + event_count ended.items)
  unfolding spaced valued ended
  sep_items = omega (arith, events_append (opt_whitespace ts).items (value levels (opt_whitespace ts).rest).items, events_append (opt_whitespace ts then value levels).items (ws_comment_newline (value levels (opt_whitespace ts).rest).rest).items)

  sep_reports : error_count (on_expression_key_val_sep levels a b ts).items ≡ error_count spaced.items + error_count valued.items + error_count ended.items
  unfolding spaced valued ended
  sep_reports = omega (arith, errors_append (opt_whitespace ts).items (value levels (opt_whitespace ts).rest).items, errors_append (opt_whitespace ts then value levels).items (ws_comment_newline (value levels (opt_whitespace ts).rest).rest).items)

  sep_rest : length (on_expression_key_val_sep levels a b ts).rest ≡ length ended.rest
  unfolding spaced valued ended
  sep_rest = refl

  sep_some : some (on_expression_key_val_sep levels a b ts).rest ≡ some ended.rest
  unfolding spaced valued ended
  sep_some = refl

  spaced_twos : Twos ts 0 0 spaced
  unfolding spaced
  spaced_twos = opt_whitespace_twos ts

  ended_lines : Lines valued.rest ended
  unfolding ended
  ended_lines = ws_comment_newline_lines valued.rest

  sep_events_by : ValueEvents spaced.rest valued → SepEvents ts (on_expression_key_val_sep levels a b ts)
  sep_events_by (flat h) = flat (omega (arith, h, sep_items, sep_rest, sep_some, spaced_twos.events, ended_lines.events, ended_lines.errors))
  sep_events_by (nested h) = nested (omega (arith, h, sep_items, sep_rest, spaced_twos.events, ended_lines.events, ended_lines.errors))

  sep_errors_by : ValueErrors spaced.rest valued → SepErrors ts (on_expression_key_val_sep levels a b ts)
  sep_errors_by (flat h) = flat (omega (arith, h, sep_reports, sep_rest, spaced_twos.events, spaced_twos.errors, ended_lines.errors))
  sep_errors_by (nested h) = nested (omega (arith, h, sep_reports, sep_rest, spaced_twos.events, spaced_twos.errors, ended_lines.errors))

  pub sep_events : SepEvents ts (on_expression_key_val_sep levels a b ts)
  unfolding spaced valued
  sep_events = sep_events_by (value_events levels (opt_whitespace ts).rest)

  pub sep_errors : SepErrors ts (on_expression_key_val_sep levels a b ts)
  unfolding spaced valued
  sep_errors = sep_errors_by (value_errors levels (opt_whitespace ts).rest)

-- a pair from the dots of its key on: what the list us is read to, in at most n tokens
abbrev pub PairEvents : List Tok → Out → Type 0
PairEvents us o = OneOf (event_count o.items + 2 * length o.rest + some o.rest ≤ 2 * length us) (event_count o.items + 3 * length o.rest + 4 ≤ 3 * length us)

abbrev pub PairErrors : ℕ → Out → Type 0
PairErrors n o = OneOf (error_count o.items + length o.rest ≤ n + 1) (error_count o.items + 2 * length o.rest + 2 ≤ 2 * n)

no_equals_events : (m : ℕ) (ts : List Tok) → PairEvents ts (no_equals m ts)
no_equals_events m [] = flat (omega arith)
no_equals_events m (tok k a b ∷ ts) = let p : Lines (tok k a b ∷ ts) (ignore_to_newline (tok k a b ∷ ts)) = ignore_lines (tok k a b ∷ ts) in flat (omega (arith, p.events, p.errors))

no_equals_errors : (m : ℕ) (ts : List Tok) → PairErrors (length ts) (no_equals m ts)
no_equals_errors m [] = flat (omega arith)
no_equals_errors m (tok k a b ∷ ts) = let p : Lines (tok k a b ∷ ts) (ignore_to_newline (tok k a b ∷ ts)) = ignore_lines (tok k a b ∷ ts) in flat (omega (arith, p.errors))

got_events : (k : Kind) (a b : ℕ) (ts : List Tok) (o : Out) → SepEvents ts o → PairEvents (tok k a b ∷ ts) o
got_events k a b ts o (flat h) = flat (omega (arith, h))
got_events k a b ts o (nested h) = nested (omega (arith, h))

got_errors : (k : Kind) (a b : ℕ) (ts : List Tok) (o : Out) → SepErrors ts o → PairErrors (length (tok k a b ∷ ts)) o
got_errors k a b ts o (flat h) = flat (omega (arith, h))
got_errors k a b ts o (nested h) = nested (omega (arith, h))

module _ (m levels : ℕ) where
  step_events : (t : Bool) (k : Kind) (a b : ℕ) (ts : List Tok) → PairEvents (tok k a b ∷ ts) (next_by t (on_expression_key_val_sep levels) (no_equals m) k a b ts)
  step_events true k a b ts = got_events k a b ts (on_expression_key_val_sep levels a b ts) (sep_events levels a b ts)
  step_events false k a b ts = no_equals_events m (tok k a b ∷ ts)

  step_errors : (t : Bool) (k : Kind) (a b : ℕ) (ts : List Tok) → PairErrors (length (tok k a b ∷ ts)) (next_by t (on_expression_key_val_sep levels) (no_equals m) k a b ts)
  step_errors true k a b ts = got_errors k a b ts (on_expression_key_val_sep levels a b ts) (sep_errors levels a b ts)
  step_errors false k a b ts = no_equals_errors m (tok k a b ∷ ts)

  abbrev assigned : List Tok → Out
  assigned = next_token_if Equals (on_expression_key_val_sep levels) (no_equals m)

  assigned_events : (ts : List Tok) → PairEvents ts (assigned ts)
  assigned_events [] = flat (omega arith)
  assigned_events (tok k a b ∷ ts) = step_events (eqb (number_of k) (number_of Equals)) k a b ts

  assigned_errors : (ts : List Tok) → PairErrors (length ts) (assigned ts)
  assigned_errors [] = flat (omega arith)
  assigned_errors (tok k a b ∷ ts) = step_errors (eqb (number_of k) (number_of Equals)) k a b ts

  -- behind an answer of the key's rules
  behind_events : (us : List Tok) (o : Out) → Twos us 0 0 o → PairEvents o.rest (assigned o.rest) → PairEvents us (o then assigned)
  behind_events us o p (flat h) = flat (omega (arith, h, p.events, events_append o.items (assigned o.rest).items))
  behind_events us o p (nested h) = nested (omega (arith, h, p.events, events_append o.items (assigned o.rest).items))

  behind_errors : (n : ℕ) (o : Out) → error_count o.items ≤ 0 → length o.rest ≤ n → PairErrors (length o.rest) (assigned o.rest) → PairErrors n (o then assigned)
  behind_errors n o p q (flat h) = flat (omega (arith, h, p, q, errors_append o.items (assigned o.rest).items))
  behind_errors n o p q (nested h) = nested (omega (arith, h, p, q, errors_append o.items (assigned o.rest).items))

  spaced_key : (us : List Tok) → Twos us 0 0 (opt_dot_keys us then opt_whitespace)
  spaced_key us =
      let o = opt_dot_keys us in
      let p : Twos us 0 0 o = opt_dot_keys_twos us in
      let q : Twos o.rest 0 0 (opt_whitespace o.rest) = opt_whitespace_twos o.rest in
      record { events = omega (arith, p.events, q.events, events_append o.items (opt_whitespace o.rest).items); errors = omega (arith, p.errors, q.errors, errors_append o.items (opt_whitespace o.rest).items) }

  pub expression_events : (us : List Tok) → PairEvents us (expression m levels us)
  expression_events us = behind_events us (opt_dot_keys us then opt_whitespace) (spaced_key us) (assigned_events (opt_dot_keys us then opt_whitespace).rest)

  pub expression_errors : (n : ℕ) (us : List Tok) → length (opt_dot_keys us).rest ≤ n → PairErrors n (expression m levels us)
  expression_errors n us few =
      let q : Twos (opt_dot_keys us).rest 0 0 (opt_whitespace (opt_dot_keys us).rest) = opt_whitespace_twos (opt_dot_keys us).rest in
      behind_errors n (opt_dot_keys us then opt_whitespace) (spaced_key us).errors (omega (arith, q.events, few)) (assigned_errors (opt_dot_keys us then opt_whitespace).rest)
