-- A quiet run can be indexed: its buffer holds its events, at most one a record. Proved; nothing here needs to be believed.
use mathlib.Core.Path.{◌≡◌, refl, ap}
use mathlib.Core.List.{List}
use Prim.Native.Nat.{ℕ, zero, suc, ◌≤◌}
use native.Mathlib.Omega.{arith}
use lib.ListN.{length, drop}
use Rattle.token.specs.Tokens.{Tok, all_tokens}
use Rattle.token.specs.CheckLaws.{checked_passes}
use Rattle.token.specs.CursorLaws.{all_length}
use Rattle.rules.specs.Entries.{document_entry}
use Rattle.rules.specs.Answer.{event_size}
use Rattle.fitting.specs.Quiet.{QuietRun}
use Rattle.fitting.specs.Grammar.{UnquotedRest, scalar_ends, dot_or_atom, whitespace_atom}
use Rattle.rules.specs.declared.options.Options.{Options}
use Rattle.fitting.specs.Premises.{Regular, document_run, events_in, events_left, SameButForCuts, same_rest, same_token, same_two_tokens, cut_otherwise}
use Rattle.rules.proofs.OutcomeLaws.{counted_events, event_room}
use Rattle.fitting.proofs.QuietLaws.{quiet_outcome}
use Rattle.index.specs.Outcome.{Indexable}

-- behind an unquoted scalar there are no more tokens than before
rest_few : {ts vs : List Tok} → UnquotedRest ts vs → length vs ≤ length ts
rest_few scalar_ends = omega arith
rest_few (dot_or_atom k r) = let few = rest_few r in omega (arith, few)
rest_few (whitespace_atom r) = let few = rest_few r in omega (arith, few)

-- each event stands above at least one token
events_few : {events : List (List ℕ)} {ts us : List Tok} → SameButForCuts events ts us → length events ≤ length ts
events_few same_rest = omega arith
events_few (same_token same) = let few = events_few same in omega (arith, few)
events_few (same_two_tokens same) = let few = events_few same in omega (arith, few)
events_few (cut_otherwise k l r q e f same) =
    let few = events_few same in
    let rest = rest_few r in
    omega (arith, few, rest)

events_counted : (n : ℕ) (buffer : List ℕ) → length (events_in n buffer) ≡ n
unfolding events_in
events_counted zero buffer = refl
events_counted (suc n) buffer = ap suc (events_counted n (drop event_size buffer))

-- what the theorem about the rules says of a run compared with itself
abbrev pub SameAsItself : Options → List ℕ → ℕ → List ℕ → List ℕ → Type 0
SameAsItself options s base events errors =
    Regular (all_tokens s base) → Regular (all_tokens s base) → QuietRun (document_run options s base events errors) → QuietRun (document_run options s base events errors)
    → events_left (document_run options s base events errors) ≡ events_left (document_run options s base events errors) → SameButForCuts (events_left (document_run options s base events errors)) (all_tokens s base) (all_tokens s base)

pub quiet_indexable : (options : Options) (s : List ℕ) (base : ℕ) (events errors : List ℕ) → SameAsItself options s base events errors
    → Regular (all_tokens s base) → QuietRun (document_run options s base events errors) → Indexable (document_run options s base events errors).answer (document_run options s base events errors).events
quiet_indexable options s base events errors cited g q =
    let run = document_run options s base events errors in
    let o = quiet_outcome options document_entry s base events errors q in
    let counted = counted_events options document_entry s base events errors o.passed in
    let room = event_room options document_entry s base events errors in
    let fits = o.fits in
    let few = events_few (cited g g q q refl) in
    let left = events_counted run.answer.events run.events in
    let all = all_length s base in
    let records = (checked_passes s base o.passed).few in
    record {
      quiet = record { accepted = q.accepted; errorless = q.errorless; nonempty = q.nonempty };
      held = omega (arith, counted, room, fits);
      few = omega (arith, few, left, all, records);
    }
