-- The walk: what was written, and what the state still gives with the events that follow, is the index. Proved; nothing here needs to be believed.
use mathlib.Core.Path.{◌≡◌, refl, ap, sym, subst, ◌∙◌}
use mathlib.Core.Bool.{Bool, true, false, cond}
use mathlib.Core.List.{List, [], ◌∷◌, ◌++◌, append-nil}
use Prim.Native.Nat.{ℕ, suc, ◌+◌, ◌-◌, ◌*◌, ◌<◌, ◌≤◌}
use native.Mathlib.Omega.{arith}
use native.Mathlib.Numerals.{add-one}
use lib.ListN.{length, get_or, drop, length-append}
use lib.Dec.{eqb, ltb}
use borrow.Author.Tests.{lt-ltb}
use Rattle.token.specs.Limits.{max_records}
use Rattle.rules.specs.Answer.{event_size}
use Rattle.std.specs.Prelude.{Option, Some, None}
use Rattle.headers.specs.declared.header.Header.{Header}
use Rattle.headers.specs.declared.state.OpenHeader.{OpenHeader}
use Rattle.headers.specs.declared.state.IndexState.{IndexState}
use Rattle.headers.specs.Headers.{opens_header, kinds_from, headers_in, entry_size, entry_bytes, index_bytes}
use Rattle.headers.specs.States.{parts_after, passed, opened_at, state_after, state_behind, fresh, header_of, headers_of, ended, Begun, Finishable, Finished}
use Rattle.headers.specs.Placing.{placed}
use Rattle.headers.proofs.StateLaws.{current, currents, collected, finished, Among, Within, noted}
use Rattle.index_entries.proofs.PlacedLaws.{placed_on, placed_none, placed_length, placed_start, index_length, index_append}

-- a header that ends here has the parts and the events so far
no_more_parts : (counting : Bool) (parts : ℕ) → parts + cond counting 0 0 ≡ parts
no_more_parts true parts = omega arith
no_more_parts false parts = omega arith

current_end : (header : OpenHeader) (at : ℕ) → current header at [] ≡ header_of header at
current_end header at =
    let events : at - header.place + 0 ≡ at - header.place = omega arith in
    rw (no_more_parts header.counting header.parts, events)

currents_end : (header : Option OpenHeader) (at : ℕ) → currents header at [] ≡ headers_of header at
currents_end None at = refl
currents_end (Some header) at = ap (λ (h : Header). h ∷ []) (current_end header at)

-- what an event finishes, and what the end finishes
finished_is : (opens : Bool) (state : IndexState) (kind : ℕ) → opens_header kind ≡ opens → finished state kind ≡ ended opens state
finished_is true state kind o = rw o (currents_end state.header state.at)
finished_is false state kind o = rw o

collected_end : (state : IndexState) → collected state [] ≡ ended true state
collected_end state = append-nil (currents state.header state.at []) ∙ currents_end state.header state.at

parts_few : (counting : Bool) (kind parts at : ℕ) → parts ≤ at → at < 18446744073709551615 → parts_after counting kind parts ≤ at + 1
parts_few true kind parts at h s = by (eqb kind 5) refl
  where
    by : (b : Bool) → eqb kind 5 ≡ b → parts_after true kind parts ≤ at + 1
    by true e = let l : ltb parts 18446744073709551615 ≡ true = lt-ltb parts 18446744073709551615 (omega arith) in simp (e, l) (omega arith)
    by false e = simp e (omega arith)
parts_few false kind parts at h s = omega arith

among_after : (opens : Bool) (header : Option OpenHeader) (at kind : ℕ) → opens_header kind ≡ opens → at < 18446744073709551615 → Among header at
    → Among (cond (opens_header kind) (Some (opened_at at kind)) (passed header kind)) (at + 1)
among_after true header at kind o s a = rw o (omega arith, omega arith)
among_after false None at kind o s a = rw o tt
among_after false (Some header) at kind o s a = rw o (omega (arith, a.0), parts_few header.counting kind header.parts at a.1 s)

record After (state : IndexState) (kind : ℕ) : Type 0 where
  at : (state_after state kind).at ≡ state.at + 1
  among : Among (state_after state kind).header (state.at + 1)

after : (state : IndexState) (kind : ℕ) → Within state → After state kind
unfolding state_after
after state kind w =
    let l : ltb state.at 18446744073709551615 ≡ true = lt-ltb state.at 18446744073709551615 w.small in
    record { at = simp l; among = among_after (opens_header kind) state.header state.at kind refl w.small w.among }

begun : (header : Option OpenHeader) (at : ℕ) → Among header at → Begun header at
begun None at a = tt
begun (Some header) at a = a.0

-- the kinds of the events from i on, of n
abbrev pub rest : ℕ → ℕ → List ℕ → List ℕ
rest n i events = kinds_from (n - i) i events

rest_on : (n i : ℕ) (events : List ℕ) → i < n → rest n i events ≡ get_or events (i * event_size) 0 ∷ rest n (i + 1) events
rest_on n i events h = let m : n - i ≡ suc (n - (i + 1)) = omega arith in rw (m, add-one)

rest_end : (n i : ℕ) (events : List ℕ) → n ≤ i → rest n i events ≡ []
rest_end n i events h = let m : n - i ≡ 0 = omega arith in rw m

rest_start : (n : ℕ) (events : List ℕ) → rest n 0 events ≡ kinds_from n 0 events
rest_start n events = let m : n - 0 ≡ n = omega arith in rw m

-- k entries are written, and the next event is event i
pub record Walking (n : ℕ) (events out₀ : List ℕ) (state : IndexState) (k i : ℕ) (out : List ℕ) : Type 0 where
  pub at : state.at ≡ i
  pub low : i ≤ n
  pub few : n ≤ max_records
  pub among : Among state.header i
  pub states : state_behind state (rest n i events) ≡ state_behind fresh (kinds_from n 0 events)
  pub total : k + length (collected state (rest n i events)) ≡ length (headers_in n events)
  pub room : entry_size * length (headers_in n events) ≤ length out
  pub keeps : length out ≡ length out₀
  pub same : placed (entry_size * k) (index_bytes (collected state (rest n i events))) out ≡ placed 0 (index_bytes (headers_in n events)) out₀

pub walking_begun : (n : ℕ) (events out : List ℕ) (state : IndexState) → state ≡ fresh → n ≤ max_records → entry_size * length (headers_in n events) ≤ length out → Walking n events out state 0 0 out
unfolding headers_in
walking_begun n events out state e few room =
    let r = rest_start n events in
    subst (λ (s : IndexState). Walking n events out s 0 0 out) (sym e)
    (record {
      at = refl;
      low = omega arith;
      few = few;
      among = tt;
      states = rw r;
      total = rw r (omega arith);
      room = room;
      keeps = refl;
      same = rw r;
    })

module _ {n : ℕ} {events out₀ : List ℕ} {state : IndexState} {k i : ℕ} {out : List ℕ} (w : Walking n events out₀ state k i out) where
  within : i ≤ n → Within state
  within h = record { small = omega (arith, w.at, w.few); among = subst (λ (at : ℕ). Among state.header at) (sym w.at) w.among }

  header_begun : Begun state.header state.at
  header_begun = begun state.header state.at (within w.low).among

  -- what is finished, and what comes behind it
  module _ (done more : List Header) (e : done ++ more ≡ collected state (rest n i events)) where
    lengths : length done + length more ≡ length (collected state (rest n i events))
    lengths = sym (length-append done more) ∙ ap length e

    done_room : entry_size * (k + length done) ≤ length out
    done_room = omega (arith, lengths, w.total, w.room)

    bytes_room : entry_size * k + length (index_bytes done) ≤ length out
    bytes_room = omega (arith, done_room, index_length done)

    done_length : length (placed (entry_size * k) (index_bytes done) out) ≡ length out₀
    done_length = placed_length (entry_size * k) (index_bytes done) out bytes_room ∙ w.keeps

    done_same : placed (entry_size * (k + length done)) (index_bytes more) (placed (entry_size * k) (index_bytes done) out) ≡ placed 0 (index_bytes (headers_in n events)) out₀
    done_same =
        let m : entry_size * (k + length done) ≡ entry_size * k + length (index_bytes done) = omega (arith, index_length done) in
        ap (λ (at : ℕ). placed at (index_bytes more) (placed (entry_size * k) (index_bytes done) out)) m
        ∙ placed_on (entry_size * k) (index_bytes done) (index_bytes more) out bytes_room
        ∙ ap (λ (bytes : List ℕ). placed (entry_size * k) bytes out) (sym (index_append done more) ∙ ap index_bytes e)
        ∙ w.same

  module _ (less : i < n) (opens : Bool) (o : opens ≡ opens_header (get_or events (i * event_size) 0)) where
    abbrev kind : ℕ
    kind = get_or events (i * event_size) 0

    cut : ended opens state ++ collected (state_after state kind) (rest n (i + 1) events) ≡ collected state (rest n i events)
    cut =
        ap (λ (hs : List Header). hs ++ collected (state_after state kind) (rest n (i + 1) events)) (sym (finished_is opens state kind (sym o)))
        ∙ noted state kind (rest n (i + 1) events) (within w.low)
        ∙ ap (λ (kinds : List ℕ). collected state kinds) (sym (rest_on n i events less))

    pub turn_fits : Finishable opens state k out
    turn_fits = record { room = done_room (ended opens state) (collected (state_after state kind) (rest n (i + 1) events)) cut; begun = header_begun }

    pub walking_on : (k' : ℕ) (out' : List ℕ) (state' : IndexState) → Finished opens state k out out' k' → state' ≡ state_after state kind → Walking n events out₀ state' k' (i + 1) out'
    unfolding state_behind
    walking_on k' out' state' f es =
        let a = after state kind (within w.low) in
        let more : List Header = collected (state_after state kind) (rest n (i + 1) events) in
        let l = done_length (ended opens state) more cut in
        subst (λ (s : IndexState). Walking n events out₀ s k' (i + 1) out') (sym es)
        (subst (λ (out'' : List ℕ). Walking n events out₀ (state_after state kind) k' (i + 1) out'') (sym f.bytes)
        (subst (λ (k'' : ℕ). Walking n events out₀ (state_after state kind) k'' (i + 1) (placed (entry_size * k) (index_bytes (ended opens state)) out)) (sym f.entries)
        (record {
          at = a.at ∙ omega (arith, w.at);
          low = omega arith;
          few = w.few;
          among = subst (λ (at : ℕ). Among (state_after state kind).header (at + 1)) w.at a.among;
          states = ap (λ (kinds : List ℕ). state_behind state kinds) (sym (rest_on n i events less)) ∙ w.states;
          total = omega (arith, lengths (ended opens state) more cut, w.total);
          room = omega (arith, l, w.keeps, w.room);
          keeps = l;
          same = done_same (ended opens state) more cut;
        })))

  module _ (over : n ≤ i) where
    last : ended true state ++ [] ≡ collected state (rest n i events)
    last = append-nil (ended true state) ∙ sym (collected_end state) ∙ ap (λ (kinds : List ℕ). collected state kinds) (sym (rest_end n i events over))

    pub last_fits : Finishable true state k out
    last_fits = record { room = done_room (ended true state) [] last; begun = header_begun }

    pub walking_end : (out' : List ℕ) (k' : ℕ) → Finished true state k out out' k' → out' ≡ index_bytes (headers_in n events) ++ drop (entry_size * length (headers_in n events)) out₀
    unfolding index_bytes
    walking_end out' k' f =
        f.bytes
        ∙ sym (placed_none (entry_size * (k + length (ended true state))) (placed (entry_size * k) (index_bytes (ended true state)) out))
        ∙ done_same (ended true state) [] last
        ∙ placed_start (entry_size * length (headers_in n events)) (index_bytes (headers_in n events)) out₀ (index_length (headers_in n events))

    pub end_state : state ≡ state_behind fresh (kinds_from n 0 events)
    unfolding state_behind
    end_state = ap (λ (kinds : List ℕ). state_behind state kinds) (sym (rest_end n i events over)) ∙ w.states

-- `finish`: one entry, or none
module _ (k : ℕ) (state : IndexState) (out : List ℕ) where
  one_ends : (header : OpenHeader) → state.header ≡ Some header → ended true state ≡ header_of header state.at ∷ []
  one_ends header e = ap (λ (h : Option OpenHeader). headers_of h state.at) e

  pub one_fits : (header : OpenHeader) → state.header ≡ Some header → Finishable true state k out → entry_size * k + entry_size ≤ length out
  one_fits header e h = let l = ap length (one_ends header e) in omega (arith, l, h.room)

  pub one_begun : (header : OpenHeader) → state.header ≡ Some header → Finishable true state k out → header.place ≤ state.at
  one_begun header e h = subst (λ (x : Option OpenHeader). Begun x state.at) e h.begun

  pub writes_one : (header : OpenHeader) → state.header ≡ Some header → (out' : List ℕ) → out' ≡ placed (entry_size * k) (entry_bytes (header_of header state.at)) out → Finished true state k out out' (k + 1)
  unfolding index_bytes
  writes_one header e out' p =
      record {
        entries = ap (λ (hs : List Header). k + length hs) (sym (one_ends header e));
        bytes = p ∙ ap (λ (hs : List Header). placed (entry_size * k) (index_bytes hs) out) (sym (one_ends header e));
      }

  pub writes_none : (ends : Bool) → ended ends state ≡ [] → Finished ends state k out out k
  unfolding index_bytes
  writes_none ends e =
      record {
        entries = omega (arith, ap length e);
        bytes = sym (placed_none (entry_size * k) out) ∙ ap (λ (hs : List Header). placed (entry_size * k) (index_bytes hs) out) (sym e);
      }

  pub none_met : state.header ≡ None → Finished true state k out out k
  none_met e = writes_none true (ap (λ (h : Option OpenHeader). headers_of h state.at) e)

  pub none_ends : Finished false state k out out k
  none_ends = writes_none false refl
