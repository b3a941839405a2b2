-- The costs of inline tables, and of brackets by the levels still allowed. Proved; nothing here needs to be believed.
use Rattle.std.specs.Prelude.{◌≡◌, refl, Bool, true, false, List, [], ◌∷◌, ℕ, zero, suc, ◌+◌, ◌≤◌, length}
use Rattle.std.proofs.Common.{sym, subst, le_of_eq, arith}
use Rattle.token.specs.declared.kind.Kind.{Kind}
use Rattle.token.specs.KindLaws.{every_kind}
use Rattle.token.specs.Tokens.{Tok, tok}
use Rattle.rules.specs.declared.event.Encoding.{Encoding}
use Rattle.rules.specs.declared.skipping.Bracket.{Bracket}
use Rattle.rules.specs.declared.keys.InKey.{InKey}
use Rattle.rules.specs.declared.array.ArrayState.{ArrayState}
use Rattle.rules.specs.declared.inline_table.State.{State}
use Rattle.rules.specs.declared.inline_table.Progress.{Progress}
use Rattle.rules.specs.declared.inline_table.Action.{Action}
use Rattle.rules.specs.declared.inline_table.Action.TheVariants as A
use Rattle.rules.specs.Out.{Place, span, Out, done, ◌▸◌, ◌▹◌, ◌then◌}
use Rattle.rules.specs.Costs.{Costs, not_back, then_costs, events_append, errors_append}
use Rattle.rules.specs.Skipping.{on_comment, ignore_to_value_close}
use Rattle.rules.specs.Receiver as receiver
use Rattle.rules.specs.Turns.{looping}
use Rattle.rules.specs.Keys.{in_key, after_part_step, opt_dot_keys, dot_keys, after_dot}
use Rattle.rules.specs.Scalar.{on_scalar}
use Rattle.rules.specs.Array.{Nest, array_turn}
use Rattle.rules.specs.InlineTable.{action_of, progress, trailing, inline_table_step, inline_table_turn}
use Rattle.rules.specs.Nest.{on_open}
use Rattle.bounds.specs.LineCosts.{on_comment_costs, ignore_to_value_close_costs}
use Rattle.rules.proofs.KeyCosts.{opt_dot_keys_costs, after_dot_costs}
use Rattle.bounds.specs.ScalarCosts.{on_scalar_costs}
use Rattle.bounds.specs.KeyRates.{Twos, opt_dot_keys_twos}
use Rattle.bounds.specs.ArrayCosts.{spare, spare_one, spare_few, spare_one_few, spare_left, weaker, turns_cost_by, NestCosts, in_array_spare, array_turn_costs}

-- a key that begins with a dot is begun only at a Dot token
abbrev pub Dotted : Action → Kind → Type 0
Dotted A.Comment k = Unit {0}
Dotted A.Whitespace k = Unit {0}
Dotted A.Newline k = Unit {0}
Dotted A.Eof k = Unit {0}
Dotted A.ExtraComma k = Unit {0}
Dotted A.ValueSep k = Unit {0}
Dotted A.EmptyKey k = Unit {0}
Dotted A.KeyValSep k = Unit {0}
Dotted A.ExtraAssignment k = Unit {0}
Dotted A.KeylessTable k = Unit {0}
Dotted A.UnassignedTable k = Unit {0}
Dotted A.Table k = Unit {0}
Dotted A.Close k = Unit {0}
Dotted A.KeylessArray k = Unit {0}
Dotted A.UnassignedArray k = Unit {0}
Dotted A.Array k = Unit {0}
Dotted A.InvalidElement k = Unit {0}
Dotted A.ArrayWithoutOpen k = Unit {0}
Dotted A.DotKey k = in_key k ≡ InKey.Dot
Dotted A.Key k = Unit {0}
Dotted A.UnassignedScalar k = Unit {0}
Dotted A.Scalar k = Unit {0}
Dotted A.DotKeyWithoutComma k = in_key k ≡ InKey.Dot
Dotted A.KeyWithoutComma k = Unit {0}

pub dotted : (st : State) (k : Kind) → Dotted (action_of st k) k
dotted State.NeedsKey k = every_kind (λ (j : Kind). Dotted (action_of State.NeedsKey j) j) refl tt tt tt tt tt tt tt tt tt tt tt tt tt tt tt k
dotted State.NeedsEquals k = every_kind (λ (j : Kind). Dotted (action_of State.NeedsEquals j) j) tt tt tt tt tt tt tt tt tt tt tt tt tt tt tt tt k
dotted State.NeedsValue k = every_kind (λ (j : Kind). Dotted (action_of State.NeedsValue j) j) tt tt tt tt tt tt tt tt tt tt tt tt tt tt tt tt k
dotted State.NeedsComma k = every_kind (λ (j : Kind). Dotted (action_of State.NeedsComma j) j) refl tt tt tt tt tt tt tt tt tt tt tt tt tt tt tt k

pub dotted_costs : (k : Kind) (a b : ℕ) (ts : List Tok) → in_key k ≡ InKey.Dot → Costs ts 2 0 (opt_dot_keys (tok k a b ∷ ts))
dotted_costs k a b ts e =
    let p : Costs ts 1 0 (after_dot ts b) = after_dot_costs ts b in
    let q : Costs ts 2 0 (receiver.key_sep a b ▹ after_dot ts b) = omega arith in
    subst (λ (c : InKey). Costs ts 2 0 (after_part_step c a b (done (tok k a b ∷ ts)) (dot_keys ts) (after_dot ts b))) (sym e) q

-- a trailing comma: a report
trailing_costs : {ts : List Tok} {e r : ℕ} {o : Out} (empty : Bool) (st : State) (head : Place) (opened a left : ℕ) → Costs ts e r o → Costs ts e (suc r) (trailing empty st head opened a left ▸ o)
trailing_costs true st head opened a left p = omega arith
trailing_costs false State.NeedsKey head opened a left p = omega arith
trailing_costs false State.NeedsEquals head opened a left p = omega arith
trailing_costs false State.NeedsValue head opened a left p = omega arith
trailing_costs false State.NeedsComma head opened a left p = omega arith

-- what comes besides at an action: behind a key that begins with a dot the close, if nothing is left; the report of a bracket without `=`
abbrev action_events : Action → List Tok → ℕ
action_events A.Comment ts = 0
action_events A.Whitespace ts = 0
action_events A.Newline ts = 0
action_events A.Eof ts = 0
action_events A.ExtraComma ts = 0
action_events A.ValueSep ts = 0
action_events A.EmptyKey ts = 0
action_events A.KeyValSep ts = 0
action_events A.ExtraAssignment ts = 0
action_events A.KeylessTable ts = 0
action_events A.UnassignedTable ts = 0
action_events A.Table ts = 0
action_events A.Close ts = 0
action_events A.KeylessArray ts = 0
action_events A.UnassignedArray ts = 0
action_events A.Array ts = 0
action_events A.InvalidElement ts = 0
action_events A.ArrayWithoutOpen ts = 0
action_events A.DotKey ts = spare ts
action_events A.Key ts = 0
action_events A.UnassignedScalar ts = 0
action_events A.Scalar ts = 0
action_events A.DotKeyWithoutComma ts = spare ts
action_events A.KeyWithoutComma ts = 0

abbrev action_errors : Action → ℕ
action_errors A.Comment = 0
action_errors A.Whitespace = 0
action_errors A.Newline = 0
action_errors A.Eof = 0
action_errors A.ExtraComma = 0
action_errors A.ValueSep = 0
action_errors A.EmptyKey = 0
action_errors A.KeyValSep = 0
action_errors A.ExtraAssignment = 0
action_errors A.KeylessTable = 0
action_errors A.UnassignedTable = 1
action_errors A.Table = 0
action_errors A.Close = 0
action_errors A.KeylessArray = 0
action_errors A.UnassignedArray = 1
action_errors A.Array = 0
action_errors A.InvalidElement = 0
action_errors A.ArrayWithoutOpen = 0
action_errors A.DotKey = 0
action_errors A.Key = 0
action_errors A.UnassignedScalar = 0
action_errors A.Scalar = 0
action_errors A.DotKeyWithoutComma = 0
action_errors A.KeyWithoutComma = 0

action_few : (c : Action) (ts : List Tok) → (action_events c ts ≤ spare ts) × (action_errors c ≤ 1)
action_few A.Comment ts = (omega arith, omega arith)
action_few A.Whitespace ts = (omega arith, omega arith)
action_few A.Newline ts = (omega arith, omega arith)
action_few A.Eof ts = (omega arith, omega arith)
action_few A.ExtraComma ts = (omega arith, omega arith)
action_few A.ValueSep ts = (omega arith, omega arith)
action_few A.EmptyKey ts = (omega arith, omega arith)
action_few A.KeyValSep ts = (omega arith, omega arith)
action_few A.ExtraAssignment ts = (omega arith, omega arith)
action_few A.KeylessTable ts = (omega arith, omega arith)
action_few A.UnassignedTable ts = (omega arith, omega arith)
action_few A.Table ts = (omega arith, omega arith)
action_few A.Close ts = (omega arith, omega arith)
action_few A.KeylessArray ts = (omega arith, omega arith)
action_few A.UnassignedArray ts = (omega arith, omega arith)
action_few A.Array ts = (omega arith, omega arith)
action_few A.InvalidElement ts = (omega arith, omega arith)
action_few A.ArrayWithoutOpen ts = (omega arith, omega arith)
action_few A.DotKey ts = (omega arith, omega arith)
action_few A.Key ts = (omega arith, omega arith)
action_few A.UnassignedScalar ts = (omega arith, omega arith)
action_few A.Scalar ts = (omega arith, omega arith)
action_few A.DotKeyWithoutComma ts = (omega arith, omega arith)
action_few A.KeyWithoutComma ts = (omega arith, omega arith)

-- none of these where a key is wanted, and no key where `=` is
key_wanted : (k : Kind) → action_errors (action_of State.NeedsKey k) ≡ 0
key_wanted k = every_kind (λ (j : Kind). action_errors (action_of State.NeedsKey j) ≡ 0) refl refl refl refl refl refl refl refl refl refl refl refl refl refl refl refl k

equals_wanted : (k : Kind) (ts : List Tok) → action_events (action_of State.NeedsEquals k) ts ≡ 0
equals_wanted k ts = every_kind (λ (j : Kind). action_events (action_of State.NeedsEquals j) ts ≡ 0) refl refl refl refl refl refl refl refl refl refl refl refl refl refl refl refl k

-- what comes besides in an inline table, by its state and the tokens that are left
abbrev in_table_events : State → List Tok → ℕ
in_table_events State.NeedsKey ts = spare_one ts
in_table_events State.NeedsEquals ts = spare ts
in_table_events State.NeedsValue ts = spare_one ts
in_table_events State.NeedsComma ts = spare_one ts

abbrev in_table_errors : State → List Tok → ℕ
in_table_errors State.NeedsKey ts = spare ts
in_table_errors State.NeedsEquals ts = 1
in_table_errors State.NeedsValue ts = 1
in_table_errors State.NeedsComma ts = 1

table_few : (st : State) (ts : List Tok) → (in_table_events st ts ≤ 1) × (in_table_errors st ts ≤ 1)
table_few State.NeedsKey ts = ((spare_one_few ts).0, spare_few ts)
table_few State.NeedsEquals ts = (spare_few ts, omega arith)
table_few State.NeedsValue ts = ((spare_one_few ts).0, omega arith)
table_few State.NeedsComma ts = ((spare_one_few ts).0, omega arith)

module _ (head : Place) (opened : ℕ) (nest : Nest) (n : NestCosts nest) (loop : Progress → List Tok → Out) (closely : (w : Progress) (us : List Tok) → Costs us (in_table_events w.state us) (in_table_errors w.state us) (loop w us)) where
  l : (w : Progress) (us : List Tok) → Costs us 1 1 (loop w us)
  l w us = weaker (table_few w.state us).0 (table_few w.state us).1 (closely w us)

  module _ (k : Kind) (a b : ℕ) (ts : List Tok) where
    -- the key's tokens pay for two events each, so the close that follows is paid for unless the dot was the last token
    dot_key_costs : (empty : Bool) → in_key k ≡ InKey.Dot → Costs ts (3 + spare ts) 1 (receiver.simple_key Encoding.None a a ▹ (opt_dot_keys (tok k a b ∷ ts) then loop (progress State.NeedsEquals empty)))
    dot_key_costs empty d =
        let o = opt_dot_keys (tok k a b ∷ ts) in
        let t : Twos (tok k a b ∷ ts) 0 0 o = opt_dot_keys_twos (tok k a b ∷ ts) in
        let p : Costs ts 2 0 o = dotted_costs k a b ts d in
        let q : Costs o.rest (spare o.rest) 1 (loop (progress State.NeedsEquals empty) o.rest) = closely (progress State.NeedsEquals empty) o.rest in
        let few : length o.rest ≤ length ts = not_back 2 (omega arith) p in
        record {
          events = omega (arith, t.events, q.events, spare_left o.rest ts few, events_append o.items (loop (progress State.NeedsEquals empty) o.rest).items);
          errors = omega (arith, t.errors, q.errors, few, errors_append o.items (loop (progress State.NeedsEquals empty) o.rest).items);
        }

    inline_table_step_costs : (c : Action) → Dotted c k → (st : State) (empty : Bool) → Costs (tok k a b ∷ ts) (action_events c ts) (action_errors c) (inline_table_step c k head opened nest loop st empty a b ts)
    inline_table_step_costs A.Comment d st empty = let p : Costs ts 2 1 (on_comment a b ts then loop (progress st empty)) = then_costs (loop (progress st empty)) 1 1 (on_comment_costs a b ts) (l (progress st empty)) in omega arith
    inline_table_step_costs A.Whitespace d st empty = let p : Costs ts 1 1 (loop (progress st empty) ts) = l (progress st empty) ts in omega arith
    inline_table_step_costs A.Newline d st empty = let p : Costs ts 1 1 (loop (progress st empty) ts) = l (progress st empty) ts in omega arith
    inline_table_step_costs A.Eof d st empty = omega arith
    inline_table_step_costs A.ExtraComma d st empty = let p : Costs ts 1 1 (loop (progress st empty) ts) = l (progress st empty) ts in omega arith
    inline_table_step_costs A.ValueSep d st empty = let p : Costs ts 1 1 (loop (progress State.NeedsKey empty) ts) = l (progress State.NeedsKey empty) ts in omega arith
    inline_table_step_costs A.EmptyKey d st empty = let p : Costs ts 1 1 (loop (progress State.NeedsValue false) ts) = l (progress State.NeedsValue false) ts in omega arith
    inline_table_step_costs A.KeyValSep d st empty = let p : Costs ts 1 1 (loop (progress State.NeedsValue false) ts) = l (progress State.NeedsValue false) ts in omega arith
    inline_table_step_costs A.ExtraAssignment d st empty = let p : Costs ts 1 1 (loop (progress st empty) ts) = l (progress st empty) ts in omega arith
    inline_table_step_costs A.KeylessTable d st empty = let p : Costs ts 1 1 (ignore_to_value_close Bracket.Curly ts then loop (progress st empty)) = then_costs (loop (progress st empty)) 1 1 (ignore_to_value_close_costs Bracket.Curly ts) (l (progress st empty)) in omega arith
    inline_table_step_costs A.UnassignedTable d st empty = let p : Costs ts 3 2 (nest Bracket.Curly a b ts then loop (progress State.NeedsComma false)) = then_costs (loop (progress State.NeedsComma false)) 1 1 (n Bracket.Curly a b ts) (l (progress State.NeedsComma false)) in omega arith
    inline_table_step_costs A.Table d st empty = let p : Costs ts 3 2 (nest Bracket.Curly a b ts then loop (progress State.NeedsComma false)) = then_costs (loop (progress State.NeedsComma false)) 1 1 (n Bracket.Curly a b ts) (l (progress State.NeedsComma false)) in omega arith
    inline_table_step_costs A.Close d st empty = let q : Costs ts 1 0 (receiver.inline_table_close a b ▹ done ts) = omega arith in let p : Costs ts 1 1 (inline_table_step A.Close k head opened nest loop st empty a b ts) = trailing_costs empty st head opened a (suc (length ts)) q in omega arith
    inline_table_step_costs A.KeylessArray d st empty = let p : Costs ts 1 1 (ignore_to_value_close Bracket.Square ts then loop (progress st empty)) = then_costs (loop (progress st empty)) 1 1 (ignore_to_value_close_costs Bracket.Square ts) (l (progress st empty)) in omega arith
    inline_table_step_costs A.UnassignedArray d st empty = let p : Costs ts 3 2 (nest Bracket.Square a b ts then loop (progress State.NeedsComma false)) = then_costs (loop (progress State.NeedsComma false)) 1 1 (n Bracket.Square a b ts) (l (progress State.NeedsComma false)) in omega arith
    inline_table_step_costs A.Array d st empty = let p : Costs ts 3 2 (nest Bracket.Square a b ts then loop (progress State.NeedsComma false)) = then_costs (loop (progress State.NeedsComma false)) 1 1 (n Bracket.Square a b ts) (l (progress State.NeedsComma false)) in omega arith
    inline_table_step_costs A.InvalidElement d st empty = let p : Costs ts 1 1 (loop (progress st empty) ts) = l (progress st empty) ts in omega arith
    inline_table_step_costs A.ArrayWithoutOpen d st empty = let p : Costs ts 1 1 (loop (progress State.NeedsComma false) ts) = l (progress State.NeedsComma false) ts in omega arith
    inline_table_step_costs A.DotKey d st empty = let p : Costs ts (3 + spare ts) 1 (inline_table_step A.DotKey k head opened nest loop st empty a b ts) = dot_key_costs false d in omega arith
    inline_table_step_costs A.Key d st empty = let p : Costs ts 1 1 (opt_dot_keys ts then loop (progress State.NeedsEquals false)) = then_costs (loop (progress State.NeedsEquals false)) 1 1 (opt_dot_keys_costs ts) (l (progress State.NeedsEquals false)) in omega arith
    inline_table_step_costs A.UnassignedScalar d st empty = let p : Costs ts 2 1 (on_scalar k a b ts then loop (progress State.NeedsComma false)) = then_costs (loop (progress State.NeedsComma false)) 1 1 (on_scalar_costs k a b ts) (l (progress State.NeedsComma false)) in omega arith
    inline_table_step_costs A.Scalar d st empty = let p : Costs ts 2 1 (on_scalar k a b ts then loop (progress State.NeedsComma false)) = then_costs (loop (progress State.NeedsComma false)) 1 1 (on_scalar_costs k a b ts) (l (progress State.NeedsComma false)) in omega arith
    inline_table_step_costs A.DotKeyWithoutComma d st empty = let p : Costs ts (3 + spare ts) 1 (receiver.simple_key Encoding.None a a ▹ (opt_dot_keys (tok k a b ∷ ts) then loop (progress State.NeedsEquals false))) = dot_key_costs false d in omega arith
    inline_table_step_costs A.KeyWithoutComma d st empty = let p : Costs ts 1 1 (opt_dot_keys ts then loop (progress State.NeedsEquals false)) = then_costs (loop (progress State.NeedsEquals false)) 1 1 (opt_dot_keys_costs ts) (l (progress State.NeedsEquals false)) in omega arith

inline_table_turn_costs : (head : Place) (opened : ℕ) (nest : Nest) → NestCosts nest → (loop : Progress → List Tok → Out) → ((w : Progress) (us : List Tok) → Costs us (in_table_events w.state us) (in_table_errors w.state us) (loop w us))
    → (w : Progress) (ts : List Tok) → Costs ts (in_table_events w.state ts) (in_table_errors w.state ts) (inline_table_turn head opened nest loop w ts)
inline_table_turn_costs head opened nest n loop l w [] = by_state w.state
  where
    by_state : (st : State) → Costs [] (in_table_events st []) (in_table_errors st []) (inline_table_turn head opened nest loop w [])
    by_state State.NeedsKey = omega arith
    by_state State.NeedsEquals = omega arith
    by_state State.NeedsValue = omega arith
    by_state State.NeedsComma = omega arith
inline_table_turn_costs head opened nest n loop l w (tok k a b ∷ ts) = by_state w.state
  where
    by_state : (st : State) → Costs (tok k a b ∷ ts) (in_table_events st (tok k a b ∷ ts)) (in_table_errors st (tok k a b ∷ ts)) (inline_table_step (action_of st k) k head opened nest loop st w.empty a b ts)
    by_state State.NeedsKey = weaker (action_few (action_of State.NeedsKey k) ts).0 (le_of_eq (key_wanted k)) (inline_table_step_costs head opened nest n loop l k a b ts (action_of State.NeedsKey k) (dotted State.NeedsKey k) State.NeedsKey w.empty)
    by_state State.NeedsEquals = weaker (le_of_eq (equals_wanted k ts)) (action_few (action_of State.NeedsEquals k) ts).1 (inline_table_step_costs head opened nest n loop l k a b ts (action_of State.NeedsEquals k) (dotted State.NeedsEquals k) State.NeedsEquals w.empty)
    by_state State.NeedsValue = weaker (action_few (action_of State.NeedsValue k) ts).0 (action_few (action_of State.NeedsValue k) ts).1 (inline_table_step_costs head opened nest n loop l k a b ts (action_of State.NeedsValue k) (dotted State.NeedsValue k) State.NeedsValue w.empty)
    by_state State.NeedsComma = weaker (action_few (action_of State.NeedsComma k) ts).0 (action_few (action_of State.NeedsComma k) ts).1 (inline_table_step_costs head opened nest n loop l k a b ts (action_of State.NeedsComma k) (dotted State.NeedsComma k) State.NeedsComma w.empty)

-- by the levels still allowed: the opening event is besides, and the invented close unless tokens that follow pay for it
weak_nest : {ts : List Tok} {o : Out} → Costs ts (1 + spare_one ts) (spare ts) o → Costs ts 2 1 o
weak_nest {ts} p = weaker (omega (arith, (spare_one_few ts).0)) (spare_few ts) p

pub on_open_spares : (levels : ℕ) (bracket : Bracket) (a b : ℕ) (ts : List Tok) → Costs ts (1 + spare_one ts) (spare ts) (on_open levels bracket a b ts)
unfolding on_open
on_open_spares zero bracket a b ts = omega arith
on_open_spares (suc levels) Bracket.Square a b ts =
    let p : Costs ts (spare ts) (spare ts) (looping (array_turn (span a b) (on_open levels)) ArrayState.NeedsValue ts) = turns_cost_by (array_turn (span a b) (on_open levels)) in_array_spare in_array_spare (array_turn_costs (span a b) (on_open levels) (λ br c d us. weak_nest (on_open_spares levels br c d us))) (length ts) ArrayState.NeedsValue ts in
    record { events = omega (arith, p.events, (spare_one_few ts).1); errors = omega (arith, p.errors) }
on_open_spares (suc levels) Bracket.Curly a b ts =
    let p : Costs ts (spare_one ts) (spare ts) (looping (inline_table_turn (span a b) (length ts) (on_open levels)) (progress State.NeedsKey true) ts) = turns_cost_by (inline_table_turn (span a b) (length ts) (on_open levels)) (λ w. in_table_events w.state) (λ w. in_table_errors w.state) (inline_table_turn_costs (span a b) (length ts) (on_open levels) (λ br c d us. weak_nest (on_open_spares levels br c d us))) (length ts) (progress State.NeedsKey true) ts in
    record { events = omega (arith, p.events); errors = omega (arith, p.errors) }

pub on_open_costs : (levels : ℕ) → NestCosts (on_open levels)
on_open_costs levels bracket a b ts = weak_nest (on_open_spares levels bracket a b ts)
