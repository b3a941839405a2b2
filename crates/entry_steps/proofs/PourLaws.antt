-- Laws of pouring: all items of a run, poured one at a time onto fresh counts and then numbered, leave in the buffers and the counts what
-- the definition of an answer says. Proved; nothing here needs to be believed.
use mathlib.Core.Path.{◌≡◌, refl, ap, ap₂, sym, subst, ◌∙◌}
use mathlib.Core.List.{List, [], ◌∷◌, ◌++◌, append-nil}
use mathlib.Core.Bool.{Bool, cond}
use Prim.Native.Nat.{ℕ, ◌+◌, ◌-◌, ◌/◌, ◌<◌, ◌≤◌}
use native.Mathlib.Numerals.{towards_suc}
use native.Mathlib.Omega.{arith}
use lib.ListN.{length, length-append}
use lib.Seq.{append_snoc}
use borrow.Author.Tests.{lt-ltb, le-ltb, ne_eqb}
use Rattle.token.specs.Limits.{max_records}
use Rattle.token.specs.Tokens.{Tok}
use Rattle.rules.specs.declared.options.Mode.{Mode}
use Rattle.token.specs.Spans.{span_after}
use Rattle.token.specs.declared.span.Span.{Span}
use Rattle.rules.specs.declared.event.Event.{Event}
use Rattle.rules.specs.Out.{Item, event, event_after, report, trailing_comma, stop}
use Rattle.rules.specs.Messages as message
use Rattle.rules.specs.Expected as expected
use Rattle.rules.specs.Words.{event_words, error_words, events_of, errors_of, looked_up, span_of, first_sought, comma_between, blamed, Halt, ended, refused_level, halt_of}
use Rattle.rules.specs.Answer.{event_size, error_size, filled}
use Rattle.buffer_puts.specs.Puts.{put_event, put_error, more, capped}
use Rattle.output.specs.Pour.{Bufs, bufs, put, Unexpected, known, sought, put_by, with_event, with_error, pour}
use Rattle.buffer_puts.specs.CapLaws.{capped_known}
use Rattle.line_numbers.specs.Numbering.{placed, numbered_first, numbered}
use Rattle.filling.specs.FillLaws.{Sized}
use Rattle.filling.proofs.FillLaws.{sized_more, stored, filled_none}
use Rattle.entry_steps.proofs.NumberLaws.{put_error_more}

put_event_more : (es : List (List ℕ)) (l : List ℕ) (a b c d : ℕ) → Sized event_size es → put_event (filled event_size es l) (length es) a b c d ≡ filled event_size (es ++ ((a ∷ b ∷ c ∷ d ∷ []) ∷ [])) l
unfolding put_event
put_event_more es l a b c d z = simp towards_suc (stored event_size es (a ∷ b ∷ c ∷ d ∷ []) l z refl)

-- one more, below the bound
counted : (es : List (List ℕ)) (w : List ℕ) → length es < 2147483647 → more (length es) ≡ length (es ++ (w ∷ []))
unfolding more
counted es w h = rw (lt-ltb (length es) 2147483647 h) (sym (length-append es (w ∷ [])))

-- the buffers and counts after the events es and the errors rs
abbrev pub bufs_after : List ℕ → List ℕ → List (List ℕ) → List (List ℕ) → Halt → Bufs
bufs_after evs ers es rs h = record { events = filled event_size es evs; errors = filled error_size rs ers; n = record { events = length es; errors = length rs }; halt = h }

-- the buffers whose errors are numbered
abbrev pub numbered_bufs : Mode → List Tok → Bufs → Bufs
numbered_bufs mode all o = record { events = o.events; errors = numbered mode all o.n.errors o.errors; n = o.n; halt = o.halt }

-- one item, after the events es and the errors rs, which are numbered
module _ (mode : Mode) (all : List Tok) (evs ers : List ℕ) (es rs : List (List ℕ)) (o : Bufs) (q : numbered_bufs mode all o ≡ bufs_after evs ers es rs ended) where
  on : o.halt ≡ ended
  on = ap (λ (z : Bufs). z.halt) q

  one_event : (g : Event) (p : Span) → Sized event_size es → length es < 2147483647 → numbered_bufs mode all (with_event g p o) ≡ bufs_after evs ers (es ++ (event_words g p ∷ [])) rs ended
  one_event g p z h =
      ap (with_event g p) q
      ∙ ap₂ (λ (x : List ℕ) (n : ℕ). record { events = x; errors = filled error_size rs ers; n = record { events = n; errors = length rs }; halt = ended }) (put_event_more es evs _ _ _ _ z) (counted es (event_words g p) h)

  one_error : (m x : ℕ) (c : Span) (u : Unexpected) (v : Span) → placed mode all u.start u.end u.mark ≡ v → Sized error_size rs → length rs < 2147483647
      → numbered_bufs mode all (with_error m x c u o) ≡ bufs_after evs ers es (rs ++ (error_words all m x c v ∷ [])) ended
  one_error m x c u v p z h =
      let k : o.n.errors ≡ length rs = ap (λ (y : Bufs). y.n.errors) q in
      let left : numbered mode all (length rs) o.errors ≡ filled error_size rs ers = ap (λ (j : ℕ). numbered mode all j o.errors) (sym k) ∙ ap (λ (y : Bufs). y.errors) q in
      let errors : numbered mode all (more o.n.errors) (put_error o.errors o.n.errors m x c.start c.end u.start u.end u.mark) ≡ filled error_size (rs ++ (error_words all m x c v ∷ [])) ers =
      ap (λ (j : ℕ). numbered mode all (more j) (put_error o.errors j m x c.start c.end u.start u.end u.mark)) k
      ∙ put_error_more mode all rs ers o.errors m x c.start c.end u.start u.end u.mark z left h
      ∙ ap (λ (w : Span). filled error_size (rs ++ (error_words all m x c w ∷ [])) ers) p in
      let count : more o.n.errors ≡ length (rs ++ (error_words all m x c v ∷ [])) = ap more k ∙ counted rs (error_words all m x c v) h in
      (λ i. record { events = (q i).events; errors = errors i; n = record { events = (q i).n.events; errors = count i }; halt = ended })

  -- by an item that the walk puts
  put_on : (i : Item) → put all i o ≡ put_by ended all i o
  unfolding put
  put_on i = ap (λ (h : Halt). put_by h all i o) on

-- after a refusal nothing is poured
put_none : (h : Halt) (k : ℕ) (all : List Tok) (i : Item) (o : Bufs) → h ≡ refused_level k → put_by h all i o ≡ o
put_none h k all i o e = subst (λ (x : Halt). put_by x all i o ≡ o) (sym e) refl

poured_none : (all : List Tok) (is : List Item) (o : Bufs) (k : ℕ) → o.halt ≡ refused_level k → pour all is o ≡ o
unfolding put
poured_none all [] o k e = refl
poured_none all (i ∷ is) o k e = ap (pour all is) (put_none o.halt k all i o e) ∙ poured_none all is o k e

-- what the walk leaves of a trailing comma is enough for the pass to find it
sought_placed : (mode : Mode) (all : List Tok) (opened left start : ℕ) → length all ≤ max_records
    → placed mode all (sought (length all - opened) (length all - left) start).start (sought (length all - opened) (length all - left) start).end (sought (length all - opened) (length all - left) start).mark ≡ blamed mode all opened left start
sought_placed mode all opened left start h =
    let b = length all - opened in
    let p = length all - left in
    let more : (capped b + 1 ≡ 0) → ⊥ = λ e. omega (arith, e) in
    let back : capped b + 1 - 1 ≡ b = omega (arith, capped_known b (omega (arith, h))) in
    ap (λ (t : Bool). cond t (record { start = start; end = capped p }) (comma_between all (first_sought mode (capped b + 1 - 1)) (capped p) start)) (ne_eqb (capped b + 1) 0 more)
    ∙ ap (λ (i : ℕ). comma_between all (first_sought mode i) (capped p) start) back
    ∙ ap (λ (i : ℕ). comma_between all (first_sought mode b) i start) (capped_known p (omega (arith, h)))

-- the items after es and rs
poured_from : (mode : Mode) (all : List Tok) → length all ≤ max_records → (is : List Item) (evs ers : List ℕ) (es rs : List (List ℕ)) → Sized event_size es → Sized error_size rs
    → length es + length (events_of all is) ≤ 2147483647 → length rs + length (errors_of mode all is) ≤ 2147483647
    → (o : Bufs) → numbered_bufs mode all o ≡ bufs_after evs ers es rs ended
    → numbered_bufs mode all (pour all is o) ≡ bufs_after evs ers (es ++ events_of all is) (rs ++ errors_of mode all is) (halt_of is)
poured_from mode all few [] evs ers es rs y z h k o q = q ∙ ap₂ (λ (a b : List (List ℕ)). bufs_after evs ers a b ended) (sym (append-nil es)) (sym (append-nil rs))
poured_from mode all few (event g a b ∷ is) evs ers es rs y z h k o q =
    poured_from mode all few is evs ers (es ++ (event_words g (record { start = a; end = b }) ∷ [])) rs (sized_more event_size es _ y refl) z (simp length-append (omega arith)) k
    (put all (event g a b) o) (ap (numbered_bufs mode all) (put_on mode all evs ers es rs o q (event g a b)) ∙ one_event mode all evs ers es rs o q g (record { start = a; end = b }) y (omega arith))
    ∙ ap (λ (x : List (List ℕ)). bufs_after evs ers x (rs ++ errors_of mode all is) (halt_of is)) (append_snoc es (event_words g (record { start = a; end = b })) (events_of all is))
poured_from mode all few (event_after g l ∷ is) evs ers es rs y z h k o q =
    poured_from mode all few is evs ers (es ++ (event_words g (span_after (looked_up all l)) ∷ [])) rs (sized_more event_size es _ y refl) z (simp length-append (omega arith)) k
    (put all (event_after g l) o) (ap (numbered_bufs mode all) (put_on mode all evs ers es rs o q (event_after g l)) ∙ one_event mode all evs ers es rs o q g (span_after (looked_up all l)) y (omega arith))
    ∙ ap (λ (x : List (List ℕ)). bufs_after evs ers x (rs ++ errors_of mode all is) (halt_of is)) (append_snoc es (event_words g (span_after (looked_up all l))) (events_of all is))
poured_from mode all few (report m x c u ∷ is) evs ers es rs y z h k o q =
    poured_from mode all few is evs ers es (rs ++ (error_words all m x (span_of all c) (span_of all u) ∷ [])) y (sized_more error_size rs _ z refl) h (simp length-append (omega arith))
    (put all (report m x c u) o) (ap (numbered_bufs mode all) (put_on mode all evs ers es rs o q (report m x c u)) ∙ one_error mode all evs ers es rs o q m x (span_of all c) (known (span_of all u)) (span_of all u) refl z (omega arith))
    ∙ ap (λ (w : List (List ℕ)). bufs_after evs ers (es ++ events_of all is) w (halt_of is)) (append_snoc rs (error_words all m x (span_of all c) (span_of all u)) (errors_of mode all is))
poured_from mode all few (trailing_comma head opened left start ∷ is) evs ers es rs y z h k o q =
    let found = blamed mode all opened left start in
    poured_from mode all few is evs ers es (rs ++ (error_words all message.trailing_comma expected.nothing (span_of all head) found ∷ [])) y (sized_more error_size rs _ z refl) h (simp length-append (omega arith))
    (put all (trailing_comma head opened left start) o)
    (ap (numbered_bufs mode all) (put_on mode all evs ers es rs o q (trailing_comma head opened left start))
    ∙ one_error mode all evs ers es rs o q message.trailing_comma expected.nothing (span_of all head) (sought (length all - opened) (length all - left) start) found (sought_placed mode all opened left start few) z (omega arith))
    ∙ ap (λ (w : List (List ℕ)). bufs_after evs ers (es ++ events_of all is) w (halt_of is)) (append_snoc rs (error_words all message.trailing_comma expected.nothing (span_of all head) found) (errors_of mode all is))
poured_from mode all few (stop n ∷ is) evs ers es rs y z h k o q =
    let p = put_on mode all evs ers es rs o q (stop n) in
    ap (numbered_bufs mode all) (poured_none all is (put all (stop n) o) n (ap (λ (b : Bufs). b.halt) p) ∙ p)
    ∙ ap (λ (b : Bufs). record { events = b.events; errors = b.errors; n = b.n; halt = refused_level n }) q
    ∙ ap₂ (λ (a b : List (List ℕ)). bufs_after evs ers a b (refused_level n)) (sym (append-nil es)) (sym (append-nil rs))

-- no error, nothing to number
numbered_none : (mode : Mode) (all : List Tok) (l : List ℕ) → numbered mode all 0 l ≡ l
unfolding numbered_first
numbered_none mode all l = rw (le-ltb (length l / error_size) 0 (omega arith))

-- all items of a run, onto fresh counts
pub poured : (mode : Mode) (all : List Tok) → length all ≤ max_records → (is : List Item) (evs ers : List ℕ) → length (events_of all is) ≤ 2147483647 → length (errors_of mode all is) ≤ 2147483647
    → numbered_bufs mode all (pour all is (bufs evs ers (record { events = 0; errors = 0 }))) ≡ bufs_after evs ers (events_of all is) (errors_of mode all is) (halt_of is)
unfolding bufs
poured mode all few is evs ers h k =
    poured_from mode all few is evs ers [] [] tt tt (omega arith) (omega arith) (bufs evs ers (record { events = 0; errors = 0 }))
    (ap₂ (λ (x y : List ℕ). record { events = x; errors = y; n = record { events = 0; errors = 0 }; halt = ended }) (sym (filled_none event_size evs)) (numbered_none mode all ers ∙ sym (filled_none error_size ers)))
