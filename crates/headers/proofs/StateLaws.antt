-- The builder's state is what the definition of headers asks for: what was finished at an event, and what the state behind it still gives with
-- the events that follow, is what the state before it gave. Proved; nothing here needs to be believed.
use mathlib.Core.Path.{◌≡◌, refl, ◌∙◌}
use mathlib.Core.Bool.{Bool, true, false, cond}
use mathlib.Core.List.{List, [], ◌∷◌, ◌++◌}
use Prim.Native.Nat.{ℕ, suc, ◌+◌, ◌-◌, ◌<◌, ◌≤◌}
use native.Mathlib.Omega.{arith}
use native.Mathlib.Nat.{zero-add}
use native.Mathlib.Numerals.{add-one}
use lib.Dec.{eqb}
use borrow.Author.Tests.{eqb-true, ne_eqb, lt-ltb}
use Rattle.std.specs.Prelude.{Option, Some, None}
use Rattle.headers.specs.declared.header.Header.{Header}
use Rattle.headers.specs.declared.state.OpenHeader.{OpenHeader}
use Rattle.headers.specs.declared.state.IndexState.{IndexState}
use Rattle.headers.specs.Headers.{opens_header, closing, parts_up_to, up_to_header, headers_from}
use Rattle.headers.specs.States.{more, counting_after, parts_after, state_after}

-- the header that the builder is in, if these kinds follow
abbrev pub current : OpenHeader → ℕ → List ℕ → Header
current header at kinds =
    record {
      place = header.place;
      parts = header.parts + cond header.counting (parts_up_to (closing header.array) kinds) 0;
      array = header.array;
      events = at - header.place + up_to_header kinds;
    }

abbrev pub currents : Option OpenHeader → ℕ → List ℕ → List Header
currents None at kinds = []
currents (Some header) at kinds = current header at kinds ∷ []

-- the headers from that one on
abbrev pub collected : IndexState → List ℕ → List Header
collected state kinds = currents state.header state.at kinds ++ headers_from state.at kinds

-- the header that an event of the kind finishes
abbrev pub finished : IndexState → ℕ → List Header
finished state kind = cond (opens_header kind) (currents state.header state.at []) []

-- a close is no key part
close_no_part : (array : Bool) (kind : ℕ) → eqb kind (closing array) ≡ true → eqb kind 5 ≡ false
close_no_part true kind e = ne_eqb kind 5 (λ f. let g = eqb-true kind 4 e in omega (arith, f, g))
close_no_part false kind e = ne_eqb kind 5 (λ f. let g = eqb-true kind 2 e in omega (arith, f, g))

more_is : (n : ℕ) → n < 18446744073709551615 → more n ≡ n + 1
more_is n h = simp (lt-ltb n 18446744073709551615 h)

-- the key parts so far and those that follow
parts_on : (counting array : Bool) (kind parts : ℕ) (kinds : List ℕ) → opens_header kind ≡ false → parts < 18446744073709551615
    → parts_after counting kind parts + cond (counting_after counting array kind) (parts_up_to (closing array) kinds) 0 ≡ parts + cond counting (parts_up_to (closing array) (kind ∷ kinds)) 0
parts_on false array kind parts kinds o h = by (eqb kind (closing array)) refl
  where
    by : (b : Bool) → eqb kind (closing array) ≡ b → parts + cond (counting_after false array kind) (parts_up_to (closing array) kinds) 0 ≡ parts + 0
    by true e = simp e
    by false e = simp e
parts_on true array kind parts kinds o h = by (eqb kind (closing array)) (eqb kind 5) refl refl
  where
    by : (b p : Bool) → eqb kind (closing array) ≡ b → eqb kind 5 ≡ p
        → parts_after true kind parts + cond (counting_after true array kind) (parts_up_to (closing array) kinds) 0 ≡ parts + parts_up_to (closing array) (kind ∷ kinds)
    by true p e f = simp (o, e, close_no_part array kind e)
    by false true e f = simp (o, e, f, more_is parts h) (omega arith)
    by false false e f = simp (o, e, f)

-- the state is of the events before it: it counts them, and a header and its parts are among them
abbrev pub Among : Option OpenHeader → ℕ → Type 0
Among None at = Unit {0}
Among (Some header) at = (header.place ≤ at) × (header.parts ≤ at)

pub record Within (state : IndexState) : Type 0 where
  pub small : state.at < 18446744073709551615
  pub among : Among state.header state.at

module _ (at kind : ℕ) (kinds : List ℕ) (small : at < 18446744073709551615) where
  next : more at ≡ suc at
  next = more_is at small ∙ add-one at

  abbrev Kept : Option OpenHeader → Type 0
  Kept header =
      finished (record { at = at; header = header }) kind ++ collected (state_after (record { at = at; header = header }) kind) kinds
      ≡ collected (record { at = at; header = header }) (kind ∷ kinds)

  -- an event that opens a header finishes the one that the state is in
  at_header : (header : Option OpenHeader) → opens_header kind ≡ true → Kept header
  unfolding state_after
  at_header (Some header) o =
      let events : suc at - at + up_to_header kinds ≡ suc (up_to_header kinds) = omega arith in
      simp (o, next, zero-add, events)
  at_header None o =
      let events : suc at - at + up_to_header kinds ≡ suc (up_to_header kinds) = omega arith in
      simp (o, next, zero-add, events)

  -- any other event is one of its events
  at_other : (header : Option OpenHeader) → Among header at → opens_header kind ≡ false → Kept header
  unfolding state_after
  at_other (Some header) among o =
      let events : suc at - header.place + up_to_header kinds ≡ at - header.place + suc (up_to_header kinds) = omega (arith, among.0) in
      let parts = parts_on header.counting header.array kind header.parts kinds o (omega (arith, small, among.1)) in
      simp (o, next, events, parts)
  at_other None among o = simp (o, next)

  noted_by : (opens : Bool) (header : Option OpenHeader) → Among header at → opens_header kind ≡ opens → Kept header
  noted_by true header among o = at_header header o
  noted_by false header among o = at_other header among o

pub noted : (state : IndexState) (kind : ℕ) (kinds : List ℕ) → Within state → finished state kind ++ collected (state_after state kind) kinds ≡ collected state (kind ∷ kinds)
noted state kind kinds within = noted_by state.at kind kinds within.small (opens_header kind) state.header within.among refl
