-- From the end of a walk to the answer: the buffers and counts that the walk left are those of the definition, and the answer is read
-- off them. Proved; nothing here needs to be believed.
use mathlib.Core.Path.{◌≡◌, ap, sym, ◌∙◌}
use mathlib.Core.List.{List}
use Prim.Native.Nat.{ℕ, ◌-◌, ◌/◌, ◌≤◌}
use native.Mathlib.Omega.{arith}
use lib.ListN.{length}
use lib.Dec.{ltb}
use Rattle.std.specs.Prelude.{Ok, Err}
use Rattle.token.specs.declared.checked.Refused.{Refused}
use Rattle.token.specs.Refusals.{refusal_number}
use Rattle.token.specs.declared.cursor.Cursor.{Cursor}
use Rattle.token.specs.Limits.{max_records}
use Rattle.token.specs.Records.{count}
use Rattle.token.specs.Tokens.{Tok, all_tokens}
use Rattle.token.specs.Check.{checked, Checked}
use Rattle.token.specs.CheckLaws.{checked_passes}
use Rattle.token.specs.CursorLaws.{all_length}
use Rattle.rules.specs.Out.{Item, Out}
use Rattle.rules.specs.Entries.{Entry, parse}
use Rattle.rules.specs.declared.options.Mode.{Mode}
use Rattle.rules.specs.declared.options.Options.{Options}
use Rattle.rules.specs.Words.{events_of, errors_of}
use Rattle.rules.specs.Answer.{event_size, error_size, Outcome, room_refusal, refusal_by, place_by, walked, outcome_by, outcome}
use Rattle.bounds.proofs.Bounds.{counts_fit}
use Rattle.output.specs.declared.emitting.Counts.{Counts}
use Rattle.output.specs.declared.emitting.Walk.{Walk}
use Rattle.output.specs.Pour.{Bufs, bufs, refused, pour}
use Rattle.entry_steps.specs.Answers.{fresh}
use Rattle.line_numbers.specs.Numbering.{numbered}
use Rattle.entry_steps.proofs.PourLaws.{numbered_bufs, poured}
use Rattle.output.specs.Walks.{End, run, Goes}

-- the outcome that buffers stand for, where the walk began with the buffers evs and ers
abbrev pub outcome_from : List Tok → List ℕ → List ℕ → Bufs → Outcome
outcome_from all evs ers o =
    record {
      answer = record {
        refusal = refusal_by o.halt (ltb (length evs / event_size) o.n.events) (ltb (length ers / error_size) o.n.errors);
        place = place_by o.halt (length all);
        events = o.n.events;
        errors = o.n.errors;
      };
      events = o.events;
      errors = o.errors;
    }

-- a walk that went to its end, with the buffers a and b and the counts n
abbrev pub ended_outcome : List ℕ → List ℕ → List ℕ → List ℕ → Counts → Outcome
ended_outcome evs ers a b n =
    record {
      answer = record {
        refusal = room_refusal (ltb (length evs / event_size) n.events) (ltb (length ers / error_size) n.errors);
        place = 0;
        events = n.events;
        errors = n.errors;
      };
      events = a;
      errors = b;
    }

-- a walk that was refused one more level at a place
abbrev pub refused_outcome : ℕ → List ℕ → List ℕ → Counts → Outcome
refused_outcome place a b n = record { answer = record { refusal = 6; place = place; events = n.events; errors = n.errors }; events = a; errors = b }

-- any items whose lists are no longer than the counts can be
module _ (mode : Mode) (all : List Tok) (few : length all ≤ max_records) (is : List Item) (evs ers : List ℕ) (h : length (events_of all is) ≤ 2147483647) (k : length (errors_of mode all is) ≤ 2147483647) where
  pub walked_from : (o : Bufs) → o ≡ pour all is (bufs evs ers fresh) → walked mode all is evs ers ≡ outcome_from all evs ers (numbered_bufs mode all o)
  unfolding walked
  walked_from o e = ap (outcome_from all evs ers) (sym (ap (numbered_bufs mode all) e ∙ poured mode all few is evs ers h k))

  pub walked_ended : (a b : List ℕ) (n : Counts) → bufs a b n ≡ pour all is (bufs evs ers fresh) → walked mode all is evs ers ≡ ended_outcome evs ers a (numbered mode all n.errors b) n
  unfolding bufs
  walked_ended a b n e = walked_from (bufs a b n) e

  pub walked_refused : (a b : List ℕ) (n : Counts) (left : ℕ) → refused a b n left ≡ pour all is (bufs evs ers fresh) → walked mode all is evs ers ≡ refused_outcome (length all - left) a (numbered mode all n.errors b) n
  unfolding refused
  walked_refused a b n left e = walked_from (refused a b n left) e

-- an entry on a list that the check let through
module _ (options : Options) (entry : Entry) (s : List ℕ) (base : ℕ) (evs ers : List ℕ) (p : checked s base ≡ Ok tt) where
  few : length (all_tokens s base) ≤ max_records
  few = omega (arith, all_length s base, (checked_passes s base p).few)

  fits : (length (events_of (all_tokens s base) (parse entry (all_tokens s base)).items) ≤ 2147483647) × (length (errors_of options.mode (all_tokens s base) (parse entry (all_tokens s base)).items) ≤ 2147483647)
  fits = counts_fit options.mode entry (all_tokens s base) (all_tokens s base) few

  passed_outcome : outcome options entry s base evs ers ≡ walked options.mode (all_tokens s base) (parse entry (all_tokens s base)).items evs ers
  unfolding outcome
  passed_outcome = ap (λ (c : Checked). outcome_by c options entry s base evs ers) p

  pub outcome_ended : (a b : List ℕ) (n : Counts) → bufs a b n ≡ pour (all_tokens s base) (parse entry (all_tokens s base)).items (bufs evs ers fresh)
      → outcome options entry s base evs ers ≡ ended_outcome evs ers a (numbered options.mode (all_tokens s base) n.errors b) n
  outcome_ended a b n e = passed_outcome ∙ walked_ended options.mode (all_tokens s base) few (parse entry (all_tokens s base)).items evs ers fits.0 fits.1 a b n e

  pub outcome_stopped : (a b : List ℕ) (n : Counts) (left : ℕ) → refused a b n left ≡ pour (all_tokens s base) (parse entry (all_tokens s base)).items (bufs evs ers fresh)
      → outcome options entry s base evs ers ≡ refused_outcome (count s - left) a (numbered options.mode (all_tokens s base) n.errors b) n
  outcome_stopped a b n left e =
      passed_outcome ∙ walked_refused options.mode (all_tokens s base) few (parse entry (all_tokens s base)).items evs ers fits.0 fits.1 a b n left e
      ∙ ap (λ (m : ℕ). refused_outcome (m - left) a (numbered options.mode (all_tokens s base) n.errors b) n) (all_length s base)

-- an entry on a list that the check refused
pub outcome_unread : (options : Options) (entry : Entry) (s : List ℕ) (base : ℕ) (evs ers : List ℕ) (r : Refused) → checked s base ≡ Err r
    → outcome options entry s base evs ers ≡ record { answer = record { refusal = refusal_number r.refusal; place = r.place; events = 0; errors = 0 }; events = evs; errors = ers }
unfolding outcome
outcome_unread options entry s base evs ers r e = ap (λ (c : Checked). outcome_by c options entry s base evs ers) e

-- what a walk that went to its end left in the buffers
pub goes_poured : {s : List ℕ} {r : Out} {c : Cursor} {o : Bufs} {a b : List ℕ} {w : Walk} (base : ℕ) → c.base ≡ base → Goes s r c o a b w → bufs a b w.n ≡ pour (all_tokens s base) r.items o
unfolding run
goes_poured base q g = ap (λ (x : End). x.out) (g.is base q)
