-- Laws of places that look back: what the code finds by its search is what the whole list says. Proved; nothing here needs to be
-- believed.
use Rattle.std.specs.Prelude.{◌≡◌, refl, List, [], ℕ, ◌-◌, length}
use Rattle.std.proofs.Common.{ap, sym, subst, ◌∙◌}
use Rattle.token.specs.Tokens.{Tok, all_tokens, tokens_at, Good}
use Rattle.token.specs.Spans.{span_after}
use Rattle.token.specs.Search.{nearest_between}
use Rattle.token.specs.SearchLaws.{at_left}
use Rattle.token.specs.declared.span.Span.{Span}
use Rattle.token.specs.declared.cursor.Cursor.{Cursor}
use Rattle.token.specs.declared.cursor.Sought.{Sought}
use Rattle.rules.specs.declared.event.Event.{Event}
use Rattle.rules.specs.Out.{Look, Place, event, event_after, report}
use Rattle.rules.specs.Words.{Halt, ended, refused_level, looked_up, span_of}
use Rattle.output.specs.Pour.{Bufs, put, put_by, known, with_event, with_error}

-- what a search from the cursor found is what a look back finds before the tokens that are left there
pub looked_up_lem : (s : List ℕ) (c : Cursor) (base : ℕ) (what : Sought) (none p : Span) (left : ℕ) → Good s c → c.base ≡ base → p ≡ nearest_between what none 0 c.at (all_tokens s c.base) → left ≡ length (tokens_at s c)
    → p ≡ looked_up (all_tokens s base) (record { what = what; left = left; start = none.start; end = none.end })
unfolding looked_up
looked_up_lem s c base what none p left g q e h =
    subst (λ (b : ℕ). p ≡ nearest_between what none 0 (length (all_tokens s b) - left) (all_tokens s b)) q
    (e ∙ ap (λ (n : ℕ). nearest_between what none 0 n (all_tokens s c.base)) (at_left s c g ∙ ap (λ (n : ℕ). length (all_tokens s c.base) - n) (sym h)))

-- a report whose places are otherwise written
report_by : (h : Halt) (all : List Tok) (m x : ℕ) (c c' u u' : Place) (o : Bufs) → span_of all c ≡ span_of all c' → span_of all u ≡ span_of all u' → put_by h all (report m x c u) o ≡ put_by h all (report m x c' u') o
report_by (refused_level n) all m x c c' u u' o p q = refl
report_by ended all m x c c' u u' o p q = ap (λ (z : Span). with_error m x z (known (span_of all u)) o) p ∙ ap (λ (z : Span). with_error m x (span_of all c') (known z) o) q

pub report_as : (all : List Tok) (m x : ℕ) (c c' u u' : Place) (o : Bufs) → span_of all c ≡ span_of all c' → span_of all u ≡ span_of all u' → put all (report m x c u) o ≡ put all (report m x c' u') o
unfolding put
report_as all m x c c' u u' o p q = report_by o.halt all m x c c' u u' o p q

-- an event after what a look back finds
after_by : (h : Halt) (all : List Tok) (g : Event) (l : Look) (p : Span) (o : Bufs) → p ≡ looked_up all l → put_by h all (event g p.end p.end) o ≡ put_by h all (event_after g l) o
after_by (refused_level n) all g l p o e = refl
after_by ended all g l p o e = ap (λ (z : Span). with_event g (span_after z) o) e

pub event_after_lem : (all : List Tok) (g : Event) (l : Look) (p : Span) (o : Bufs) → p ≡ looked_up all l → put all (event g p.end p.end) o ≡ put all (event_after g l) o
unfolding put
event_after_lem all g l p o e = after_by o.halt all g l p o e

-- the list is exhausted: nothing is left
pub none_left : (s : List ℕ) (c : Cursor) → tokens_at s c ≡ [] → 0 ≡ length (tokens_at s c)
none_left s c e = ap length (sym e)
