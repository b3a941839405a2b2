-- What an entry gives is at most the most of its list's length. Proved; nothing here needs to be believed.
use Rattle.std.specs.Prelude.{List, [], ◌∷◌, ℕ, zero, suc, ◌+◌, ◌*◌, ◌≤◌, length}
use Rattle.std.proofs.Common.{arith}
use Rattle.token.specs.declared.kind.Kind.{Kind}
use Rattle.token.specs.Tokens.{Tok, tok}
use Rattle.rules.specs.declared.event.Encoding.{Encoding}
use Rattle.rules.specs.declared.skipping.InLine.{InLine}
use Rattle.rules.specs.declared.skipping.Bracket.{Bracket}
use Rattle.rules.specs.declared.keys.InKey.{InKey}
use Rattle.rules.specs.declared.value.InValue.{InValue}
use Rattle.rules.specs.Out.{Out, done, ◌▹◌, ◌then◌}
use Rattle.rules.specs.Receiver as receiver
use Rattle.rules.specs.Messages as message
use Rattle.rules.specs.Limits.{max_depth}
use Rattle.rules.specs.declared.options.Mode.{Mode}
use Rattle.rules.specs.Words.{events_of, errors_of}
use Rattle.rules.specs.Costs.{event_count, error_count, events_counted, errors_counted, events_append, errors_append}
use Rattle.rules.specs.Skipping.{in_line, on_comment, eof}
use Rattle.rules.specs.Keys.{in_key, key, on_missing_key, simple_part, simple_key_step, simple_key}
use Rattle.rules.specs.Value.{in_value, value_step, value}
use Rattle.rules.specs.Document.{document}
use Rattle.rules.specs.Entries.{Entry, document_entry, key_entry, simple_key_entry, value_entry, parse}
use Rattle.bounds.specs.Most.{most_events, most_errors}
use Rattle.bounds.specs.LineCosts.{eof_ends}
use Rattle.bounds.specs.LineRates.{some, some_few, Skips, on_comment_skips, eof_errors}
use Rattle.bounds.specs.KeyRates.{key_leaves, key_told, on_scalar_single, on_scalar_left}
use Rattle.bounds.specs.NestCosts.{on_open_spares}
use Rattle.bounds.specs.ValueRates.{OneOf, flat, nested, ValueErrors, value_events, value_errors}
use Rattle.bounds.proofs.DocumentRates.{document_rates}

-- an entry's rule before its end: what is left gives an event a token, and one report
pub record Leaving (e : Entry) (ts : List Tok) (o : Out) : Type 0 where
  pub events : event_count o.items + length o.rest ≤ most_events e (length ts)
  pub errors : error_count o.items + some o.rest ≤ most_errors e (length ts)

-- a key alone
record Alone (n : ℕ) (o : Out) : Type 0 where
  events : event_count o.items + length o.rest ≤ n
  errors : 2 * error_count o.items + 2 * some o.rest ≤ n + 2

module _ (m : ℕ) (k : Kind) (a b : ℕ) (ts : List Tok) where
  missing_alone : (l : InLine) → Alone (suc (length ts)) (on_missing_key m l a b ts)
  missing_alone InLine.Other = record { events = omega arith; errors = omega (arith, (some_few ts).0, (some_few ts).1) }
  missing_alone InLine.Comment =
      let p : Skips ts 1 (on_comment a b ts) = on_comment_skips a b ts in
      record { events = omega (arith, p.events); errors = omega (arith, p.errors, (some_few (on_comment a b ts).rest).1) }
  missing_alone InLine.Whitespace = record { events = omega arith; errors = omega (arith, (some_few ts).0, (some_few ts).1) }
  missing_alone InLine.Newline = record { events = omega arith; errors = omega (arith, (some_few ts).0, (some_few ts).1) }
  missing_alone InLine.Eof = record { events = omega arith; errors = omega (arith, (some_few ts).0, (some_few ts).1) }

  part_alone : (e : Encoding) → Alone (suc (length ts)) (simple_part m e a b (receiver.simple_key e a b ▹ done ts))
  part_alone Encoding.None = record { events = omega arith; errors = omega (arith, (some_few ts).0, (some_few ts).1) }
  part_alone Encoding.LiteralString = record { events = omega arith; errors = omega (arith, (some_few ts).0, (some_few ts).1) }
  part_alone Encoding.BasicString = record { events = omega arith; errors = omega (arith, (some_few ts).0, (some_few ts).1) }
  part_alone Encoding.MlLiteralString = record { events = omega arith; errors = omega (arith, (some_few ts).0, (some_few ts).1) }
  part_alone Encoding.MlBasicString = record { events = omega arith; errors = omega (arith, (some_few ts).0, (some_few ts).1) }

  step_alone : (c : InKey) (l : InLine) → Alone (suc (length ts)) (simple_key_step m c l a b ts)
  step_alone (InKey.Part e) l = part_alone e
  step_alone InKey.Whitespace l = missing_alone l
  step_alone InKey.Dot l = missing_alone l
  step_alone InKey.Other l = missing_alone l

simple_key_alone : (m : ℕ) (ts : List Tok) → Alone (length ts) (simple_key m ts)
simple_key_alone m [] = record { events = omega arith; errors = omega arith }
simple_key_alone m (tok k a b ∷ ts) = step_alone m k a b ts (in_key k) (in_line k)

-- a value
single_step : (levels : ℕ) (k : Kind) (a b : ℕ) (c : InValue) (again : Out) → event_count again.items + length again.rest ≤ 0 → event_count (value_step c levels k a b [] (done (tok k a b ∷ [])) again).items + length (value_step c levels k a b [] (done (tok k a b ∷ [])) again).rest ≤ 2
single_step levels k a b InValue.Nothing again p = omega arith
single_step levels k a b InValue.Equals again p = omega (arith, p)
single_step levels k a b InValue.OpenCurly again p = omega (arith, (on_open_spares levels Bracket.Curly a b []).events)
single_step levels k a b InValue.CloseCurly again p = omega arith
single_step levels k a b InValue.OpenSquare again p = omega (arith, (on_open_spares levels Bracket.Square a b []).events)
single_step levels k a b InValue.CloseSquare again p = omega arith
single_step levels k a b InValue.Scalar again p = omega (arith, (on_scalar_single k a b []).events, on_scalar_left k a b [])

several_events : (n x y : ℕ) → OneOf (x + 2 * y ≤ 2 * suc (suc n) + 1) (x + 3 * y + 2 ≤ 3 * suc (suc n)) → x + y ≤ most_events value_entry (suc (suc n))
several_events zero x y (flat h) = omega (arith, h)
several_events zero x y (nested h) = omega (arith, h)
several_events (suc n) x y (flat h) = omega (arith, h)
several_events (suc n) x y (nested h) = omega (arith, h)

value_leaves : (levels : ℕ) (ts : List Tok) → event_count (value levels ts).items + length (value levels ts).rest ≤ most_events value_entry (length ts)
value_leaves levels [] = omega arith
value_leaves levels (tok k a b ∷ []) = single_step levels k a b (in_value k) (value levels []) (omega arith)
value_leaves levels (t ∷ u ∷ ts) = several_events (length ts) _ _ (value_events levels (t ∷ u ∷ ts))

low_values : (n : ℕ) → (n + 1 ≤ most_errors value_entry n) × (2 * n ≤ most_errors value_entry n + 2)
low_values zero = (omega arith, omega arith)
low_values (suc zero) = (omega arith, omega arith)
low_values (suc (suc zero)) = (omega arith, omega arith)
low_values (suc (suc (suc n))) = (omega arith, omega arith)

value_reports : (ts : List Tok) (o : Out) → ValueErrors ts o → error_count o.items + some o.rest ≤ most_errors value_entry (length ts)
value_reports ts o (flat h) = omega (arith, h, (some_few o.rest).1, (low_values (length ts)).0)
value_reports ts o (nested h) = omega (arith, h, (some_few o.rest).1, (low_values (length ts)).1)

-- and the end
with_eof : (e : Entry) (ts : List Tok) (o : Out) → Leaving e ts o → (event_count (o then eof).items ≤ most_events e (length ts)) × (error_count (o then eof).items ≤ most_errors e (length ts))
with_eof e ts o p = (
  omega (arith, p.events, eof_ends o.rest, events_append o.items (eof o.rest).items),
  omega (arith, p.errors, eof_errors o.rest, errors_append o.items (eof o.rest).items),
)

pub entry_most : (e : Entry) (ts : List Tok) → (event_count (parse e ts).items ≤ most_events e (length ts)) × (error_count (parse e ts).items ≤ most_errors e (length ts))
entry_most document_entry ts = with_eof document_entry ts (document max_depth ts) (record { events = (document_rates max_depth ts).events; errors = (document_rates max_depth ts).errors })
entry_most key_entry ts = with_eof key_entry ts (key message.invalid_key ts) (record { events = key_leaves message.invalid_key ts; errors = (key_told message.invalid_key ts).left })
entry_most simple_key_entry ts =
    let p : Alone (length ts) (simple_key message.invalid_key ts) = simple_key_alone message.invalid_key ts in
    with_eof simple_key_entry ts (simple_key message.invalid_key ts) (record { events = p.events; errors = omega (arith, p.errors) })
entry_most value_entry ts = with_eof value_entry ts (value max_depth ts) (record { events = value_leaves max_depth ts; errors = value_reports ts (value max_depth ts) (value_errors max_depth ts) })

-- the lists of a run; `all` says only what a look back finds
pub most_events_lem : (e : Entry) (ts all : List Tok) → length (events_of all (parse e ts).items) ≤ most_events e (length ts)
most_events_lem e ts all = omega (arith, (entry_most e ts).0, events_counted all (parse e ts).items)

pub most_errors_lem : (mode : Mode) (e : Entry) (ts all : List Tok) → length (errors_of mode all (parse e ts).items) ≤ most_errors e (length ts)
most_errors_lem mode e ts all = omega (arith, (entry_most e ts).1, errors_counted mode all (parse e ts).items)
