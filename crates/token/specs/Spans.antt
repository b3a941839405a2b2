-- Spans: after is the empty span at the end of one. Assumes nothing.
use Rattle.token.specs.declared.span.Span.{Span}

abbrev pub span_after : Span → Span
span_after p = record { start = p.end; end = p.end }
