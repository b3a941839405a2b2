-- An answer that is no refusal has counts within the room, so each counted entry stands whole in its buffer, and each event there has
-- the number of an event kind. The events of 512 records always fit. Proved; nothing here needs to be believed.
use mathlib.Core.Path.{◌≡◌, refl, sym, subst}
use mathlib.Core.Bool.{Bool, true, false}
use mathlib.Core.List.{List, [], ◌∷◌}
use Prim.Native.Nat.{ℕ, zero, suc, ◌+◌, ◌*◌, ◌/◌, ◌≤◌, ◌<◌}
use native.Mathlib.Nat.{le_trans}
use native.Mathlib.Omega.{arith}
use lib.ListN.{length, get_or}
use lib.Dec.{ltb}
use borrow.Author.Tests.{ltb-false}
use Rattle.std.specs.Prelude.{Ok, Err}
use Rattle.token.specs.Records.{count}
use Rattle.token.specs.Tokens.{Tok, all_tokens}
use Rattle.token.specs.Check.{checked, Checked}
use Rattle.rules.specs.declared.answer.Answer.{Answer}
use Rattle.rules.specs.declared.event.Event.{Event}
use Rattle.rules.specs.Out.{Item, event, event_after, report, trailing_comma, stop}
use Rattle.rules.specs.declared.options.Mode.{Mode}
use Rattle.rules.specs.declared.options.Options.{Options}
use Rattle.rules.specs.Words.{event_number, events_of, errors_of, Halt, ended, refused_level, halt_of}
use Rattle.rules.specs.Entries.{Entry, document_entry, parse}
use Rattle.rules.specs.Answer.{event_size, error_size, Outcome, filled, refusal_by, walked, outcome_by, outcome}
use Rattle.bounds.specs.Most.{most_events}
use Rattle.bounds.proofs.Bounds.{more_events}
use Rattle.bounds.proofs.CountLaws.{room_events}
use Rattle.rules.proofs.BufferLaws.{word_in}
use Rattle.rules.proofs.OutcomeLaws.{events_sized}
use Rattle.listing_lines.specs.Numbers.{Named}
use Rattle.listing_lines.specs.Printable.{AllNamed, Printable}

-- the first word of each event in the rules' list
event_named : (g : Event) → Named (event_number g)
event_named Event.StdTableOpen = record { low = omega arith; high = omega arith }
event_named Event.StdTableClose = record { low = omega arith; high = omega arith }
event_named Event.ArrayTableOpen = record { low = omega arith; high = omega arith }
event_named Event.ArrayTableClose = record { low = omega arith; high = omega arith }
event_named (Event.SimpleKey c) = record { low = omega arith; high = omega arith }
event_named Event.KeySep = record { low = omega arith; high = omega arith }
event_named Event.KeyValSep = record { low = omega arith; high = omega arith }
event_named (Event.Scalar c) = record { low = omega arith; high = omega arith }
event_named Event.ValueSep = record { low = omega arith; high = omega arith }
event_named Event.ArrayOpen = record { low = omega arith; high = omega arith }
event_named Event.ArrayClose = record { low = omega arith; high = omega arith }
event_named Event.InlineTableOpen = record { low = omega arith; high = omega arith }
event_named Event.InlineTableClose = record { low = omega arith; high = omega arith }
event_named Event.Whitespace = record { low = omega arith; high = omega arith }
event_named Event.Comment = record { low = omega arith; high = omega arith }
event_named Event.Newline = record { low = omega arith; high = omega arith }
event_named Event.Error = record { low = omega arith; high = omega arith }

words_named : (all : List Tok) (is : List Item) (i : ℕ) → i < length (events_of all is) → Named (get_or (get_or (events_of all is) i []) 0 0)
words_named all [] i h = let f : ⊥ = omega arith in absurd f
words_named all (event g a b ∷ is) zero h = event_named g
words_named all (event g a b ∷ is) (suc i) h = words_named all is i (omega arith)
words_named all (event_after g l ∷ is) zero h = event_named g
words_named all (event_after g l ∷ is) (suc i) h = words_named all is i (omega arith)
words_named all (report m x c u ∷ is) i h = words_named all is i h
words_named all (trailing_comma head opened left start ∷ is) i h = words_named all is i h
words_named all (stop n ∷ is) i h = let f : ⊥ = omega arith in absurd f

-- and in a buffer in which all events fit
filled_named : (all : List Tok) (is : List Item) (events : List ℕ) → length (events_of all is) ≤ length events / event_size → AllNamed (filled event_size (events_of all is) events) (length (events_of all is))
filled_named all is events h i l =
    let at : i * event_size + 0 ≡ event_size * i = omega arith in
    subst (λ (k : ℕ). Named (get_or (filled event_size (events_of all is) events) k 0)) at
    (subst Named (sym (word_in events i 0 0 (events_sized all is) h l (omega arith))) (words_named all is i l))

-- where the answer is no refusal, its counts are at most the room, and its events are named
abbrev Fits : ℕ → ℕ → Outcome → Type 0
Fits eventRoom errorRoom o = o.answer.refusal ≡ 0 → (o.answer.events ≤ eventRoom) × (o.answer.errors ≤ errorRoom) × AllNamed o.events o.answer.events

no_shortage : (h : Halt) (x y : Bool) → refusal_by h x y ≡ 0 → (x ≡ false) × (y ≡ false)
no_shortage ended true y q = let h : ⊥ = omega arith in absurd h
no_shortage ended false true q = let h : ⊥ = omega arith in absurd h
no_shortage ended false false q = (refl, refl)
no_shortage (refused_level n) x y q = let h : ⊥ = omega arith in absurd h

walked_fits : (mode : Mode) (all : List Tok) (is : List Item) (events errors : List ℕ) → Fits (length events / event_size) (length errors / error_size) (walked mode all is events errors)
unfolding walked
walked_fits mode all is events errors q =
    let f = no_shortage (halt_of is) (ltb (length events / event_size) (length (events_of all is))) (ltb (length errors / error_size) (length (errors_of mode all is))) q in
    (ltb-false _ _ f.0, ltb-false _ _ f.1, filled_named all is events (ltb-false _ _ f.0))

by_check : (k : Checked) (options : Options) (entry : Entry) (s : List ℕ) (base : ℕ) (events errors : List ℕ) → Fits (length events / event_size) (length errors / error_size) (outcome_by k options entry s base events errors)
by_check (Err r) options entry s base events errors q = (omega arith, omega arith, λ i l. let f : ⊥ = omega (arith, l) in absurd f)
by_check (Ok u) options entry s base events errors q = walked_fits options.mode (all_tokens s base) (parse entry (all_tokens s base)).items events errors q

outcome_fits : (options : Options) (entry : Entry) (s : List ℕ) (base : ℕ) (events errors : List ℕ) → Fits (length events / event_size) (length errors / error_size) (outcome options entry s base events errors)
unfolding outcome
outcome_fits options entry s base events errors = by_check (checked s base) options entry s base events errors

-- the answer and the buffers that the document entry leaves
abbrev Left : Options → List ℕ → ℕ → List ℕ → List ℕ → List ℕ → List ℕ → Answer → Type 0
Left options s base events errors a b r = record { answer = r; events = a; errors = b } ≡ outcome options document_entry s base events errors

-- so each counted entry lies within the buffer that the entry left, and each event there is named
within : (options : Options) (s : List ℕ) (base : ℕ) (events errors a b : List ℕ) (r : Answer) → Left options s base events errors a b r
    → length a ≡ length events → length b ≡ length errors → r.refusal ≡ 0 → (event_size * r.events ≤ length a) × (error_size * r.errors ≤ length b) × AllNamed a r.events
within options s base events errors a b r e l m q =
    let f = subst (Fits (length events / event_size) (length errors / error_size)) (sym e) (outcome_fits options document_entry s base events errors) q in
    (omega (arith, f.0, l), omega (arith, f.1, m), f.2)

-- 512 records have at most 1,533 events, so with room for 1,600 refusal 7 does not come
never_seven : (options : Options) (s : List ℕ) (base : ℕ) (events errors a b : List ℕ) (r : Answer) → Left options s base events errors a b r → length s ≤ 3072 → length events ≡ 6400 → r.refusal ≡ 7 → ⊥
never_seven options s base events errors a b r e short room =
    let few : count s ≤ 512 = omega (arith, short) in
    let most : most_events document_entry 512 ≤ length events / event_size = omega (arith, room) in
    subst (λ (o : Outcome). o.answer.refusal ≡ 7 → ⊥) (sym e) (room_events options document_entry s base events errors (le_trans (more_events (count s) 512 few) most))

pub printable : (options : Options) (s : List ℕ) (base : ℕ) (events errors a b : List ℕ) (r : Answer) → Left options s base events errors a b r
    → length a ≡ length events → length b ≡ length errors → length s ≤ 3072 → length events ≡ 6400 → Printable a b r
printable options s base events errors a b r e l m short room = record { roomy = never_seven options s base events errors a b r e short room; within = within options s base events errors a b r e l m }
