-- From items to the two lent buffers, one item at a time: how the code emits. Assumes nothing.
use Rattle.std.specs.Prelude.{List, [], ◌∷◌, ℕ, ◌+◌, ◌-◌, length}
use Rattle.token.specs.Tokens.{Tok}
use Rattle.token.specs.Spans.{span_after}
use Rattle.token.specs.declared.span.Span.{Span}
use Rattle.rules.specs.declared.event.Event.{Event}
use Rattle.rules.specs.Out.{Item, event, event_after, report, trailing_comma, stop}
use Rattle.rules.specs.Messages as message
use Rattle.rules.specs.Expected as expected
use Rattle.rules.specs.Words.{event_number, encoding_of, looked_up, span_of, Halt, ended, refused_level}
use Rattle.buffer_puts.specs.Puts.{put_event, put_error, more, capped}
use Rattle.output.specs.declared.emitting.Counts.{Counts}

-- the last three words of an error as the walk leaves them, which the pass over the errors behind it makes span and line: a span and 0; or, where a comma is still to be looked for, the place that is
-- named where there is none, the record before which it is looked for, and one more than the record behind the `{`
pub record Unexpected : Type 0 where
  pub start : ℕ
  pub end : ℕ
  pub mark : ℕ

abbrev pub known : Span → Unexpected
known p = record { start = p.start; end = p.end; mark = 0 }

abbrev pub sought : ℕ → ℕ → ℕ → Unexpected
sought behind past start = record { start = start; end = capped past; mark = capped behind + 1 }

-- the two buffers, their counts, and whether the walk goes on
pub record Bufs : Type 0 where
  pub events : List ℕ
  pub errors : List ℕ
  pub n : Counts
  pub halt : Halt

abbrev pub with_event : Event → Span → Bufs → Bufs
with_event g p o =
    record {
      events = put_event o.events o.n.events (event_number g) (encoding_of g) p.start p.end;
      errors = o.errors;
      n = record { events = more o.n.events; errors = o.n.errors };
      halt = ended;
    }

abbrev pub with_error : ℕ → ℕ → Span → Unexpected → Bufs → Bufs
with_error m x c u o =
    record {
      events = o.events;
      errors = put_error o.errors o.n.errors m x c.start c.end u.start u.end u.mark;
      n = record { events = o.n.events; errors = more o.n.errors };
      halt = ended;
    }

abbrev pub put_by : Halt → List Tok → Item → Bufs → Bufs
put_by (refused_level n) all i o = o
put_by ended all (event g a b) o = with_event g (record { start = a; end = b }) o
put_by ended all (event_after g l) o = with_event g (span_after (looked_up all l)) o
put_by ended all (report m x c u) o = with_error m x (span_of all c) (known (span_of all u)) o
put_by ended all (trailing_comma head opened left start) o = with_error message.trailing_comma expected.nothing (span_of all head) (sought (length all - opened) (length all - left) start) o
put_by ended all (stop n) o = record { events = o.events; errors = o.errors; n = o.n; halt = refused_level n }

-- one item, unless the walk was refused; `all` are all tokens of the input
unfoldable pub put : List Tok → Item → Bufs → Bufs
put all i o = put_by o.halt all i o

-- the items of a walk, one after the other
abbrev pub pour : List Tok → List Item → Bufs → Bufs
pour all [] o = o
pour all (i ∷ is) o = pour all is (put all i o)

-- the buffers of a walk that goes on, and of one that was refused with k tokens left
unfoldable pub bufs : List ℕ → List ℕ → Counts → Bufs
bufs events errors n = record { events = events; errors = errors; n = n; halt = ended }

unfoldable pub refused : List ℕ → List ℕ → Counts → ℕ → Bufs
refused events errors n k = record { events = events; errors = errors; n = n; halt = refused_level k }
