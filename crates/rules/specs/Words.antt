-- From items to words: the event list and the error list of a walk. Assumes nothing.
use Rattle.std.specs.Prelude.{ℕ, ◌-◌, List, [], ◌∷◌, length}
use Rattle.token.specs.Tokens.{Tok}
use Rattle.token.specs.declared.span.Span.{Span}
use Rattle.token.specs.Spans.{span_after}
use Rattle.token.specs.Search.{nearest_between}
use Rattle.token.specs.declared.cursor.Sought.{Sought}
use Rattle.rules.specs.declared.event.Encoding.{Encoding}
use Rattle.rules.specs.declared.event.Event.{Event}
use Rattle.rules.specs.declared.options.Mode.{Mode}
use Rattle.rules.specs.Messages as message
use Rattle.rules.specs.Expected as expected
use Rattle.rules.specs.Lines.{line_of}
use Rattle.rules.specs.Out.{Look, Place, span, found, after_found, up_to_found, Item, event, event_after, report, trailing_comma, stop}

abbrev pub encoding_number : Encoding → ℕ
encoding_number Encoding.None = 0
encoding_number Encoding.LiteralString = 1
encoding_number Encoding.BasicString = 2
encoding_number Encoding.MlLiteralString = 3
encoding_number Encoding.MlBasicString = 4

abbrev pub event_number : Event → ℕ
event_number Event.StdTableOpen = 1
event_number Event.StdTableClose = 2
event_number Event.ArrayTableOpen = 3
event_number Event.ArrayTableClose = 4
event_number (Event.SimpleKey c) = 5
event_number Event.KeySep = 6
event_number Event.KeyValSep = 7
event_number (Event.Scalar c) = 8
event_number Event.ValueSep = 9
event_number Event.ArrayOpen = 10
event_number Event.ArrayClose = 11
event_number Event.InlineTableOpen = 12
event_number Event.InlineTableClose = 13
event_number Event.Whitespace = 14
event_number Event.Comment = 15
event_number Event.Newline = 16
event_number Event.Error = 17

-- 0 for all but keys and scalars
abbrev pub encoding_of : Event → ℕ
encoding_of Event.StdTableOpen = 0
encoding_of Event.StdTableClose = 0
encoding_of Event.ArrayTableOpen = 0
encoding_of Event.ArrayTableClose = 0
encoding_of (Event.SimpleKey c) = encoding_number c
encoding_of Event.KeySep = 0
encoding_of Event.KeyValSep = 0
encoding_of (Event.Scalar c) = encoding_number c
encoding_of Event.ValueSep = 0
encoding_of Event.ArrayOpen = 0
encoding_of Event.ArrayClose = 0
encoding_of Event.InlineTableOpen = 0
encoding_of Event.InlineTableClose = 0
encoding_of Event.Whitespace = 0
encoding_of Event.Comment = 0
encoding_of Event.Newline = 0
encoding_of Event.Error = 0

-- what a look back finds in the whole list: the tokens before the last `left` ones are those that it looks at, from the first record on
unfoldable pub looked_up : List Tok → Look → Span
looked_up all l = nearest_between l.what (record { start = l.start; end = l.end }) 0 (length all - l.left) all

abbrev pub span_of : List Tok → Place → Span
span_of all (span a b) = record { start = a; end = b }
span_of all (found l) = looked_up all l
span_of all (after_found l) = span_after (looked_up all l)
span_of all (up_to_found a l) = record { start = a; end = (looked_up all l).end }

-- the first record at which a trailing comma is looked for: the list's first, or in brace mode the one behind the `{`
abbrev pub first_sought : Mode → ℕ → ℕ
first_sought Mode.Crate behind = 0
first_sought Mode.Brace behind = behind

-- the nearest Comma before the record `past` and not before the record `first`, or else the empty span at start
unfoldable pub comma_between : List Tok → ℕ → ℕ → ℕ → Span
comma_between all first past start = nearest_between Sought.Comma (record { start = start; end = start }) first past all

-- what the report of a trailing comma blames: behind the `{` there were `opened` tokens left, and from the `}` on, which starts at start, `left`
abbrev pub blamed : Mode → List Tok → ℕ → ℕ → ℕ → Span
blamed mode all opened left start = comma_between all (first_sought mode (length all - opened)) (length all - left) start

-- an event: kind, encoding, start, end
abbrev pub event_words : Event → Span → List ℕ
event_words g p = event_number g ∷ encoding_of g ∷ p.start ∷ p.end ∷ []

-- an error: message, expected, context start and end, unexpected start and end, and the line of the unexpected start
abbrev pub error_words : List Tok → ℕ → ℕ → Span → Span → List ℕ
error_words all m x c u = m ∷ x ∷ c.start ∷ c.end ∷ u.start ∷ u.end ∷ line_of all u.start ∷ []

-- the events, and the errors, up to a refusal
abbrev pub events_of : List Tok → List Item → List (List ℕ)
events_of all [] = []
events_of all (event g a b ∷ is) = event_words g (record { start = a; end = b }) ∷ events_of all is
events_of all (event_after g l ∷ is) = event_words g (span_after (looked_up all l)) ∷ events_of all is
events_of all (report m x c u ∷ is) = events_of all is
events_of all (trailing_comma head opened left start ∷ is) = events_of all is
events_of all (stop n ∷ is) = []

abbrev pub errors_of : Mode → List Tok → List Item → List (List ℕ)
errors_of mode all [] = []
errors_of mode all (event g a b ∷ is) = errors_of mode all is
errors_of mode all (event_after g l ∷ is) = errors_of mode all is
errors_of mode all (report m x c u ∷ is) = error_words all m x (span_of all c) (span_of all u) ∷ errors_of mode all is
errors_of mode all (trailing_comma head opened left start ∷ is) = error_words all message.trailing_comma expected.nothing (span_of all head) (blamed mode all opened left start) ∷ errors_of mode all is
errors_of mode all (stop n ∷ is) = []

-- whether the walk went to its end, or one more level was refused with n tokens left
pub data Halt : Type 0 where
  ended : Halt
  refused_level : ℕ → Halt

abbrev pub halt_of : List Item → Halt
halt_of [] = ended
halt_of (event g a b ∷ is) = halt_of is
halt_of (event_after g l ∷ is) = halt_of is
halt_of (report m x c u ∷ is) = halt_of is
halt_of (trailing_comma head opened left start ∷ is) = halt_of is
halt_of (stop n ∷ is) = refused_level n
