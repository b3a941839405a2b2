-- Headers and the lines of a document, more closely: what a line gives, and the most that the rest can give, is within the most that
-- the list can. Proved; nothing here needs to be believed.
use Rattle.std.specs.Prelude.{refl, Bool, true, false, List, [], ◌∷◌, ℕ, zero, suc, ◌+◌, ◌*◌, ◌≤◌, length, eqb}
use Rattle.std.proofs.Common.{arith}
use Rattle.token.specs.declared.kind.Kind.{Kind}
use Rattle.token.specs.declared.kind.Kind.TheVariants.{Dot, LeftSquareBracket, RightSquareBracket}
use Rattle.token.specs.Kinds.{number_of}
use Rattle.token.specs.Tokens.{Tok, tok}
use Rattle.rules.specs.declared.event.Encoding.{Encoding}
use Rattle.rules.specs.declared.document.InDocument.{InDocument}
use Rattle.rules.specs.Out.{span, after, report, Out, done, ◌▹◌, ◌then◌}
use Rattle.rules.specs.Receiver as receiver
use Rattle.rules.specs.Messages as message
use Rattle.rules.specs.Expected as expected
use Rattle.rules.specs.Turns.{turns}
use Rattle.rules.specs.Costs.{event_count, error_count, not_back, events_append, errors_append}
use Rattle.rules.specs.Skipping.{on_comment, ignore_to_newline, ws_comment_newline}
use Rattle.rules.specs.Keys.{opt_whitespace, key, key_valid}
use Rattle.rules.specs.Table.{next_by, next_token_if, unclosed, closed, header, on_table}
use Rattle.rules.specs.Document.{in_document, on_expression_key_val_sep, expression, on_expression_key, on_expression_dot, on_missing_expression_key, on_missing_std_table, document_step, document_turn, document}
use Rattle.rules.specs.Entries.{document_entry}
use Rattle.bounds.specs.Most.{most_events, most_errors}
use Rattle.bounds.specs.LineRates.{some, some_few, Skips, on_comment_skips, Lines, ignore_lines, ws_comment_newline_lines}
use Rattle.bounds.specs.KeyRates.{Twos, opt_whitespace_twos, opt_dot_keys_twos, one, Told, key_twos, key_told}
use Rattle.bounds.specs.NestCosts.{dotted_costs}
use Rattle.bounds.specs.ValueRates.{OneOf, flat, nested, SepEvents, sep_events, sep_errors, PairEvents, PairErrors, expression_events, expression_errors}

-- a header, or a part of one: two events a token and e besides, a report a token and r besides
record Heads (ts : List Tok) (e r : ℕ) (o : Out) : Type 0 where
  events : event_count o.items + 2 * length o.rest + some o.rest ≤ 2 * length ts + e
  errors : error_count o.items + length o.rest ≤ length ts + r

lines_head : {ts : List Tok} {o : Out} → Lines ts o → Heads ts 0 0 o
lines_head p = record { events = omega (arith, p.events, p.errors); errors = omega (arith, p.errors) }

next_by_heads : (t : Bool) (got : ℕ → ℕ → List Tok → Out) (missing : List Tok → Out) (k : Kind) (a b : ℕ) (ts : List Tok) (e r : ℕ)
    → Heads ts (2 + e) (1 + r) (got a b ts) → Heads (tok k a b ∷ ts) e r (missing (tok k a b ∷ ts)) → Heads (tok k a b ∷ ts) e r (next_by t got missing k a b ts)
next_by_heads true got missing k a b ts e r p q = record { events = omega (arith, p.events); errors = omega (arith, p.errors) }
next_by_heads false got missing k a b ts e r p q = q

next_heads : (kind : Kind) (got : ℕ → ℕ → List Tok → Out) (missing : List Tok → Out) (e r : ℕ)
    → ((c d : ℕ) (us : List Tok) → Heads us (2 + e) (1 + r) (got c d us)) → ((us : List Tok) → Heads us e r (missing us)) → (ts : List Tok) → Heads ts e r (next_token_if kind got missing ts)
next_heads kind got missing e r p q [] = q []
next_heads kind got missing e r p q (tok k a b ∷ ts) = next_by_heads (eqb (number_of k) (number_of kind)) got missing k a b ts e r (p a b ts) (q (tok k a b ∷ ts))

one_at : (valid : Bool) → one valid ≤ 1
one_at true = omega arith
one_at false = omega arith

unclosed_heads : (array valid : Bool) (a b : ℕ) (ts : List Tok) → Heads ts 0 (one valid) (unclosed array valid a b ts)
unclosed_heads array false a b ts = lines_head (ignore_lines ts)
unclosed_heads true true a b ts = let p : Lines ts (ignore_to_newline ts) = ignore_lines ts in record { events = omega (arith, p.events, p.errors); errors = omega (arith, p.errors) }
unclosed_heads false true a b ts = let p : Lines ts (ignore_to_newline ts) = ignore_lines ts in record { events = omega (arith, p.events, p.errors); errors = omega (arith, p.errors) }

closed_heads : (array : Bool) (a c d : ℕ) (ts : List Tok) → Heads ts 1 1 (closed array a c d ts)
closed_heads false a c d ts = let p : Lines ts (ws_comment_newline ts) = ws_comment_newline_lines ts in record { events = omega (arith, p.events, p.errors); errors = omega (arith, p.errors) }
closed_heads true a c d ts =
    next_heads RightSquareBracket (λ e f us. receiver.array_table_close c f ▹ ws_comment_newline us) (λ us. report message.unclosed_array_table expected.close_square (span a d) (after c d) ▹ ignore_to_newline us) 1 1
    (λ e f us. let p : Lines us (ws_comment_newline us) = ws_comment_newline_lines us in record { events = omega (arith, p.events, p.errors); errors = omega (arith, p.errors) })
    (λ us. let p : Lines us (ignore_to_newline us) = ignore_lines us in record { events = omega (arith, p.events, p.errors); errors = omega (arith, p.errors) })
    ts

-- the key of a header, and what follows it: its report and that of a missing close do not come together
close_heads : (array valid : Bool) (a b : ℕ) (ts : List Tok) → Heads ts 0 (one valid) (next_token_if RightSquareBracket (closed array a) (unclosed array valid a b) ts)
close_heads array valid a b ts =
    next_heads RightSquareBracket (closed array a) (unclosed array valid a b) 0 (one valid)
    (λ c d us. let p : Heads us 1 1 (closed array a c d us) = closed_heads array a c d us in record { events = omega (arith, p.events); errors = omega (arith, p.errors) })
    (unclosed_heads array valid a b) ts

key_heads : (array : Bool) (a b : ℕ) (us : List Tok) → Heads us 1 1 (key message.invalid_table us then opt_whitespace then next_token_if RightSquareBracket (closed array a) (unclosed array (key_valid us) a b))
key_heads array a b us =
    let o = key message.invalid_table us in
    let w = opt_whitespace o.rest in
    let f = next_token_if RightSquareBracket (closed array a) (unclosed array (key_valid us) a b) in
    let p : Twos us 1 1 o = key_twos message.invalid_table us in
    let t : Told o (key_valid us) = key_told message.invalid_table us in
    let q : Twos o.rest 0 0 w = opt_whitespace_twos o.rest in
    let c : Heads w.rest 0 (one (key_valid us)) (f w.rest) = close_heads array (key_valid us) a b w.rest in
    record {
      events = omega (arith, p.events, q.events, c.events, events_append o.items w.items, events_append (o then opt_whitespace).items (f w.rest).items);
      errors = omega (arith, p.events, q.events, t.valid, q.errors, c.errors, errors_append o.items w.items, errors_append (o then opt_whitespace).items (f w.rest).items);
    }

header_heads : (array : Bool) (a b : ℕ) (ts : List Tok) → Heads ts 1 1 (header array a b ts)
header_heads array a b ts =
    let w = opt_whitespace ts in
    let f : List Tok → Out = λ us. key message.invalid_table us then opt_whitespace then next_token_if RightSquareBracket (closed array a) (unclosed array (key_valid us) a b) in
    let q : Twos ts 0 0 w = opt_whitespace_twos ts in
    let c : Heads w.rest 1 1 (f w.rest) = key_heads array a b w.rest in
    record {
      events = omega (arith, q.events, c.events, events_append w.items (f w.rest).items);
      errors = omega (arith, q.events, q.errors, c.errors, errors_append w.items (f w.rest).items);
    }

on_table_heads : (a b : ℕ) (ts : List Tok) → Heads ts 2 1 (on_table a b ts)
on_table_heads a b ts =
    next_heads LeftSquareBracket (λ c d us. receiver.array_table_open a d ▹ header true a b us) (λ us. receiver.std_table_open a b ▹ header false a b us) 2 1
    (λ c d us. let p : Heads us 1 1 (header true a b us) = header_heads true a b us in record { events = omega (arith, p.events); errors = omega (arith, p.errors) })
    (λ us. let p : Heads us 1 1 (header false a b us) = header_heads false a b us in record { events = omega (arith, p.events); errors = omega (arith, p.errors) })
    ts

-- a line of a document of n tokens
abbrev LineEvents : ℕ → Out → Type 0
LineEvents n o = OneOf (event_count o.items + 2 * length o.rest + some o.rest ≤ 2 * n + 1) (event_count o.items + 3 * length o.rest + 3 ≤ 3 * n)

abbrev LineErrors : ℕ → Out → Type 0
LineErrors n o = OneOf (error_count o.items + length o.rest ≤ n) (error_count o.items + 2 * length o.rest + 4 ≤ 2 * n)

-- the most that a document can give
pub low_two : (n : ℕ) → 2 * suc n + 1 ≤ most_events document_entry (suc n)
low_two zero = omega arith
low_two (suc zero) = omega arith
low_two (suc (suc zero)) = omega arith
low_two (suc (suc (suc n))) = omega arith

pub low_three : (n : ℕ) → 3 * n ≤ most_events document_entry n + 3
low_three zero = omega arith
low_three (suc zero) = omega arith
low_three (suc (suc zero)) = omega arith
low_three (suc (suc (suc zero))) = omega arith
low_three (suc (suc (suc (suc n)))) = omega arith

high_three : (n : ℕ) → most_events document_entry n ≤ 3 * n
high_three zero = omega arith
high_three (suc zero) = omega arith
high_three (suc (suc zero)) = omega arith
high_three (suc (suc (suc zero))) = omega arith
high_three (suc (suc (suc (suc n)))) = omega arith

pub low_one : (n : ℕ) → n ≤ most_errors document_entry n
low_one zero = omega arith
low_one (suc zero) = omega arith
low_one (suc (suc zero)) = omega arith
low_one (suc (suc (suc zero))) = omega arith
low_one (suc (suc (suc (suc n)))) = omega arith

pub low_errors : (n : ℕ) → 2 * n ≤ most_errors document_entry n + 4
low_errors zero = omega arith
low_errors (suc zero) = omega arith
low_errors (suc (suc zero)) = omega arith
low_errors (suc (suc (suc zero))) = omega arith
low_errors (suc (suc (suc (suc n)))) = omega arith

high_errors : (n : ℕ) → most_errors document_entry n ≤ 2 * n
high_errors zero = omega arith
high_errors (suc zero) = omega arith
high_errors (suc (suc zero)) = omega arith
high_errors (suc (suc (suc zero))) = omega arith
high_errors (suc (suc (suc (suc n)))) = omega arith

-- a flat line, and the most behind it
flat_events : (n x : ℕ) (us : List Tok) → x + 2 * length us + some us ≤ 2 * suc n + 1 → x + most_events document_entry (length us) ≤ most_events document_entry (suc n)
flat_events n x [] h = omega (arith, h, low_two n)
flat_events n x (t ∷ []) h = omega (arith, h, low_two n)
flat_events n x (t ∷ u ∷ []) h = omega (arith, h, low_two n)
flat_events n x (t ∷ u ∷ v ∷ []) h = omega (arith, h, low_two n)
flat_events n x (t ∷ u ∷ v ∷ w ∷ us) h = omega (arith, h, low_three (suc n))

flat_errors : (n x : ℕ) (us : List Tok) → x + length us ≤ n → x + most_errors document_entry (length us) ≤ most_errors document_entry n
flat_errors n x [] h = omega (arith, h, low_one n)
flat_errors n x (t ∷ []) h = omega (arith, h, low_one n)
flat_errors n x (t ∷ u ∷ []) h = omega (arith, h, low_one n)
flat_errors n x (t ∷ u ∷ v ∷ []) h = omega (arith, h, low_one n)
flat_errors n x (t ∷ u ∷ v ∷ w ∷ us) h = omega (arith, h, low_errors n)

line_events : (n : ℕ) (o : Out) → LineEvents (suc n) o → event_count o.items + most_events document_entry (length o.rest) ≤ most_events document_entry (suc n)
line_events n o (flat h) = flat_events n (event_count o.items) o.rest h
line_events n o (nested h) = omega (arith, h, high_three (length o.rest), low_three (suc n))

line_errors : (n : ℕ) (o : Out) → LineErrors n o → error_count o.items + most_errors document_entry (length o.rest) ≤ most_errors document_entry n
line_errors n o (flat h) = flat_errors n (error_count o.items) o.rest h
line_errors n o (nested h) = omega (arith, h, high_errors (length o.rest), low_errors n)

-- the document: what is left at the end gives an event a token, and one report
pub record Documents (ts : List Tok) (o : Out) : Type 0 where
  pub events : event_count o.items + length o.rest ≤ most_events document_entry (length ts)
  pub errors : error_count o.items + some o.rest ≤ most_errors document_entry (length ts)

module _ (loop : List Tok → Out) (l : (us : List Tok) → Documents us (loop us)) where
  then_loop : (t : Tok) (ts : List Tok) (o : Out) → LineEvents (length (t ∷ ts)) o → LineErrors (length (t ∷ ts)) o → Documents (t ∷ ts) (o then loop)
  then_loop t ts o h g =
      record {
        events = omega (arith, line_events (length ts) o h, (l o.rest).events, events_append o.items (loop o.rest).items);
        errors = omega (arith, line_errors (length (t ∷ ts)) o g, (l o.rest).errors, errors_append o.items (loop o.rest).items);
      }

  -- a skipped line behind a token that gives an event and a report
  skipped : (t : Tok) (ts : List Tok) (o : Out) → event_count o.items + length o.rest ≤ length ts + 1 → error_count o.items + length o.rest + some o.rest ≤ length ts + 1 → Documents (t ∷ ts) (o then loop)
  skipped t ts o h g = then_loop t ts o (flat (omega (arith, h, g))) (flat (omega (arith, g)))

  key_line_events : (k : Kind) (a b c d : ℕ) (e : Encoding) (ts : List Tok) (o : Out) → PairEvents ts o → LineEvents (length (tok k a b ∷ ts)) (receiver.simple_key e c d ▹ o)
  key_line_events k a b c d e ts o (flat h) = flat (omega (arith, h))
  key_line_events k a b c d e ts o (nested h) = nested (omega (arith, h))

  dot_line_events : (a c d : ℕ) (e : Encoding) (us : List Tok) (o : Out) → PairEvents us o → LineEvents (length us) (receiver.simple_key e c d ▹ o)
  dot_line_events a c d e us o (flat h) = flat (omega (arith, h))
  dot_line_events a c d e us o (nested h) = nested (omega (arith, h))

  pair_line_errors : (c d : ℕ) (e : Encoding) (n : ℕ) (o : Out) → PairErrors n o → LineErrors (suc n) (receiver.simple_key e c d ▹ o)
  pair_line_errors c d e n o (flat h) = flat (omega (arith, h))
  pair_line_errors c d e n o (nested h) = nested (omega (arith, h))

  equals_line_events : (c d : ℕ) (e : Encoding) (ts : List Tok) (o : Out) → SepEvents ts o → LineEvents (suc (length ts)) (receiver.simple_key e c d ▹ o)
  equals_line_events c d e ts o (flat h) = flat (omega (arith, h))
  equals_line_events c d e ts o (nested h) = nested (omega (arith, h))

  document_step_rates : (levels : ℕ) (k : Kind) (a b : ℕ) (ts : List Tok) (c : InDocument) → Documents (tok k a b ∷ ts) (document_step c levels loop a b ts)
  document_step_rates levels k a b ts InDocument.OpenSquare =
      let p : Heads ts 2 1 (on_table a b ts) = on_table_heads a b ts in
      then_loop (tok k a b) ts (on_table a b ts) (flat (omega (arith, p.events))) (flat (omega (arith, p.errors)))
  document_step_rates levels k a b ts InDocument.CloseSquare = let p : Lines ts (ignore_to_newline ts) = ignore_lines ts in skipped (tok k a b) ts (on_missing_std_table a b ts) (omega (arith, p.events)) (omega (arith, p.errors))
  document_step_rates levels k a b ts (InDocument.Key e) =
      then_loop (tok k a b) ts (on_expression_key levels e a b ts) (key_line_events k a b a b e ts (expression message.key_with_no_value levels ts) (expression_events message.key_with_no_value levels ts))
      (pair_line_errors a b e (length ts) (expression message.key_with_no_value levels ts) (expression_errors message.key_with_no_value levels (length ts) ts (omega (arith, (opt_dot_keys_twos ts).events))))
  document_step_rates levels k a b ts InDocument.Equals =
      then_loop (tok k a b) ts (receiver.simple_key Encoding.None a a ▹ on_expression_key_val_sep levels a b ts) (equals_line_events a a Encoding.None ts (on_expression_key_val_sep levels a b ts) (sep_events levels a b ts))
      (pair_line_errors a a Encoding.None (length ts) (on_expression_key_val_sep levels a b ts) (sep_errors levels a b ts))
  document_step_rates levels k a b ts InDocument.Dot =
      then_loop (tok k a b) ts (on_expression_dot levels a b ts) (dot_line_events a a a Encoding.None (tok Dot a b ∷ ts) (expression message.missing_value_for_key levels (tok Dot a b ∷ ts)) (expression_events message.missing_value_for_key levels (tok Dot a b ∷ ts)))
      (pair_line_errors a a Encoding.None (length ts) (expression message.missing_value_for_key levels (tok Dot a b ∷ ts)) (expression_errors message.missing_value_for_key levels (length ts) (tok Dot a b ∷ ts) (not_back 2 (omega arith) (dotted_costs Dot a b ts refl))))
  document_step_rates levels k a b ts InDocument.Stray = let p : Lines ts (ignore_to_newline ts) = ignore_lines ts in skipped (tok k a b) ts (on_missing_expression_key a b ts) (omega (arith, p.events)) (omega (arith, p.errors))
  document_step_rates levels k a b ts InDocument.Whitespace =
      record {
        events = omega (arith, (l ts).events, flat_events (length ts) 1 ts (omega (arith, (some_few ts).0)));
        errors = omega (arith, (l ts).errors, flat_errors (suc (length ts)) 0 ts (omega arith));
      }
  document_step_rates levels k a b ts InDocument.Newline =
      record {
        events = omega (arith, (l ts).events, flat_events (length ts) 1 ts (omega (arith, (some_few ts).0)));
        errors = omega (arith, (l ts).errors, flat_errors (suc (length ts)) 0 ts (omega arith));
      }
  document_step_rates levels k a b ts InDocument.Comment = let p : Skips ts 1 (on_comment a b ts) = on_comment_skips a b ts in skipped (tok k a b) ts (on_comment a b ts) (omega (arith, p.events)) (omega (arith, p.errors))
  document_step_rates levels k a b ts InDocument.Eof = record { events = omega (arith, low_two (length ts)); errors = omega (arith, (some_few ts).0, low_one (suc (length ts))) }

document_turn_rates : (levels : ℕ) (loop : Unit {0} → List Tok → Out) → ((u : Unit {0}) (us : List Tok) → Documents us (loop u us)) → (u : Unit {0}) (ts : List Tok) → Documents ts (document_turn levels loop u ts)
document_turn_rates levels loop l u [] = record { events = omega arith; errors = omega arith }
document_turn_rates levels loop l u (tok k a b ∷ ts) = document_step_rates (loop u) (l u) levels k a b ts (in_document k)

done_rates : (us : List Tok) → Documents us (done us)
done_rates [] = record { events = omega arith; errors = omega arith }
done_rates (t ∷ us) = record { events = omega (arith, low_two (length us)); errors = omega (arith, low_one (suc (length us))) }

turns_rates : (levels n : ℕ) (u : Unit {0}) (ts : List Tok) → Documents ts (turns (document_turn levels) n u ts)
unfolding turns
turns_rates levels zero u ts = document_turn_rates levels (λ v us. done us) (λ v us. done_rates us) u ts
turns_rates levels (suc n) u ts = document_turn_rates levels (turns (document_turn levels) n) (turns_rates levels n) u ts

pub document_rates : (levels : ℕ) (ts : List Tok) → Documents ts (document levels ts)
document_rates levels ts = turns_rates levels (length ts) tt ts
