-- When a run is quiet: it is not refused, reports no error, and gives no event of empty span. And when no key of a run is a multi-line
-- string. Said of the rules' items, with the kinds that a key may have, and of an entry's answer and event buffer. Assumes nothing.
use Rattle.std.specs.Prelude.{◌≡◌, Bool, true, false, cond, List, [], ◌∷◌, ℕ, ◌+◌, ◌*◌, ◌<◌, get_or, eqb}
use Rattle.token.specs.declared.kind.Kind.{Kind}
use Rattle.token.specs.declared.kind.Kind.TheVariants.{LiteralString, BasicString, MlLiteralString, MlBasicString, Atom}
use Rattle.rules.specs.declared.event.Encoding.{Encoding}
use Rattle.rules.specs.declared.event.Event.{Event}
use Rattle.rules.specs.Out.{Item, event, event_after, report, trailing_comma, stop}
use Rattle.rules.specs.Answer.{event_size, Outcome}
use Rattle.fitting.specs.Grammar.{Parts}

-- the kind of the token that a key of the encoding is
abbrev pub kind_by_encoding : Encoding → Kind
kind_by_encoding Encoding.None = Atom
kind_by_encoding Encoding.LiteralString = LiteralString
kind_by_encoding Encoding.BasicString = BasicString
kind_by_encoding Encoding.MlLiteralString = MlLiteralString
kind_by_encoding Encoding.MlBasicString = MlBasicString

-- if the event is a key, its kind is one that P has
abbrev pub KeyIn : Parts → Event → Type 0
KeyIn P Event.StdTableOpen = Unit {0}
KeyIn P Event.StdTableClose = Unit {0}
KeyIn P Event.ArrayTableOpen = Unit {0}
KeyIn P Event.ArrayTableClose = Unit {0}
KeyIn P (Event.SimpleKey e) = P (kind_by_encoding e)
KeyIn P Event.KeySep = Unit {0}
KeyIn P Event.KeyValSep = Unit {0}
KeyIn P (Event.Scalar e) = Unit {0}
KeyIn P Event.ValueSep = Unit {0}
KeyIn P Event.ArrayOpen = Unit {0}
KeyIn P Event.ArrayClose = Unit {0}
KeyIn P Event.InlineTableOpen = Unit {0}
KeyIn P Event.InlineTableClose = Unit {0}
KeyIn P Event.Whitespace = Unit {0}
KeyIn P Event.Comment = Unit {0}
KeyIn P Event.Newline = Unit {0}
KeyIn P Event.Error = Unit {0}

-- of items: quiet, and every key of a kind that P has. An event after what a look back finds has an empty span
abbrev pub Quiet : Parts → List Item → Type 0
Quiet P [] = Unit {0}
Quiet P (event g a b ∷ is) = ((a ≡ b → ⊥) × KeyIn P g) × Quiet P is
Quiet P (event_after g l ∷ is) = ⊥
Quiet P (report m x c u ∷ is) = ⊥
Quiet P (trailing_comma head opened left start ∷ is) = ⊥
Quiet P (stop n ∷ is) = ⊥

-- of an answer and its events: word 2 of an event is its start, word 3 its end
pub record QuietRun (o : Outcome) : Type 0 where
  pub accepted : o.answer.refusal ≡ 0
  pub errorless : o.answer.errors ≡ 0
  pub nonempty : (i : ℕ) → i < o.answer.events → get_or o.events (i * event_size + 2) 0 ≡ get_or o.events (i * event_size + 3) 0 → ⊥

-- an event's kind and encoding, its words 0 and 1, are those of a key that is a multi-line string: simple_key, with encoding 3 or 4
abbrev pub multi_line_key : ℕ → ℕ → Bool
multi_line_key kind encoding = cond (eqb kind 5) (cond (eqb encoding 3) true (eqb encoding 4)) false

-- of an answer and its events: no key is a multi-line string
abbrev pub NoMultiLineKey : Outcome → Type 0
NoMultiLineKey o = (i : ℕ) → i < o.answer.events → multi_line_key (get_or o.events (i * event_size) 0) (get_or o.events (i * event_size + 1) 0) ≡ false
