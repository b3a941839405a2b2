-- From a quiet run to one without a multi-line key: the words of an event tell whether it is such a key, so that the items of a quiet run have
-- only keys of the kinds that the grammar allows exactly when the buffer shows no multi-line key. Proved; nothing here needs to be believed.
use mathlib.Core.Path.{◌≡◌, refl, sym, subst, ◌∙◌}
use mathlib.Core.Bool.{Bool, false, false≢true}
use mathlib.Core.Logic.{◌↔◌}
use mathlib.Core.List.{List, [], ◌∷◌}
use Prim.Native.Nat.{ℕ, zero, suc, ◌+◌, ◌*◌, ◌/◌, ◌<◌, ◌≤◌}
use native.Mathlib.Omega.{arith}
use lib.ListN.{length, get_or}
use Rattle.token.specs.declared.kind.Kind.{Kind}
use Rattle.token.specs.Kinds.{number_of}
use Rattle.token.specs.Tokens.{Tok, all_tokens}
use Rattle.rules.specs.declared.event.Encoding.{Encoding}
use Rattle.rules.specs.declared.event.Event.{Event}
use Rattle.rules.specs.Out.{Item, event, event_after, report, trailing_comma, stop}
use Rattle.rules.specs.Entries.{Entry, parse}
use Rattle.rules.specs.Words.{event_number, encoding_of, events_of}
use Rattle.rules.specs.declared.options.Mode.{Mode}
use Rattle.rules.specs.declared.options.Options.{Options}
use Rattle.rules.specs.Answer.{event_size, filled, walked, outcome}
use Rattle.fitting.specs.Grammar.{Parts, SingleLine, bare, quoted_basic, quoted_literal, AnyKind}
use Rattle.fitting.specs.Quiet.{KeyIn, Quiet, QuietRun, multi_line_key, NoMultiLineKey}
use Rattle.rules.proofs.OutcomeLaws.{passed_outcome}
use Rattle.fitting.proofs.QuietLaws.{any_key, word_at, QuietOutcome, quiet_outcome, outcome_quiet}

-- a kind that the grammar allows is none of the multi-line strings
pub allowed : {k : Kind} → SingleLine k → (number_of k ≡ 13 → ⊥) × (number_of k ≡ 14 → ⊥)
allowed bare = (λ e. omega (arith, e), λ e. omega (arith, e))
allowed quoted_basic = (λ e. omega (arith, e), λ e. omega (arith, e))
allowed quoted_literal = (λ e. omega (arith, e), λ e. omega (arith, e))

-- the words of an event tell whether it is a key of a kind that the grammar allows
pub single_line_words : (g : Event) → (multi_line_key (event_number g) (encoding_of g) ≡ false) ↔ KeyIn SingleLine g
single_line_words Event.StdTableOpen = (λ e. tt, λ l. refl)
single_line_words Event.StdTableClose = (λ e. tt, λ l. refl)
single_line_words Event.ArrayTableOpen = (λ e. tt, λ l. refl)
single_line_words Event.ArrayTableClose = (λ e. tt, λ l. refl)
single_line_words (Event.SimpleKey Encoding.None) = (λ e. bare, λ l. refl)
single_line_words (Event.SimpleKey Encoding.LiteralString) = (λ e. quoted_literal, λ l. refl)
single_line_words (Event.SimpleKey Encoding.BasicString) = (λ e. quoted_basic, λ l. refl)
single_line_words (Event.SimpleKey Encoding.MlLiteralString) = (λ e. absurd (false≢true (sym e)), λ l. absurd ((allowed l).0 refl))
single_line_words (Event.SimpleKey Encoding.MlBasicString) = (λ e. absurd (false≢true (sym e)), λ l. absurd ((allowed l).1 refl))
single_line_words Event.KeySep = (λ e. tt, λ l. refl)
single_line_words Event.KeyValSep = (λ e. tt, λ l. refl)
single_line_words (Event.Scalar c) = (λ e. tt, λ l. refl)
single_line_words Event.ValueSep = (λ e. tt, λ l. refl)
single_line_words Event.ArrayOpen = (λ e. tt, λ l. refl)
single_line_words Event.ArrayClose = (λ e. tt, λ l. refl)
single_line_words Event.InlineTableOpen = (λ e. tt, λ l. refl)
single_line_words Event.InlineTableClose = (λ e. tt, λ l. refl)
single_line_words Event.Whitespace = (λ e. tt, λ l. refl)
single_line_words Event.Comment = (λ e. tt, λ l. refl)
single_line_words Event.Newline = (λ e. tt, λ l. refl)
single_line_words Event.Error = (λ e. tt, λ l. refl)

-- the same of items and of the events that stand for them
abbrev multi_line_at : List (List ℕ) → ℕ → Bool
multi_line_at events i = multi_line_key (get_or (get_or events i []) 0 0) (get_or (get_or events i []) 1 0)

words_single_line : (all : List Tok) (is : List Item) → Quiet AnyKind is → ((i : ℕ) → i < length (events_of all is) → multi_line_at (events_of all is) i ≡ false) → Quiet SingleLine is
words_single_line all [] q h = tt
words_single_line all (event g a b ∷ is) q h = ((q.0.0, (single_line_words g).0 (h 0 (omega arith))), words_single_line all is q.1 (λ i l. h (suc i) (omega arith)))
words_single_line all (event_after g l ∷ is) q h = absurd q
words_single_line all (report m x c u ∷ is) q h = absurd q
words_single_line all (trailing_comma head opened left start ∷ is) q h = absurd q
words_single_line all (stop n ∷ is) q h = absurd q

single_line_told : (all : List Tok) (is : List Item) → Quiet SingleLine is → (i : ℕ) → i < length (events_of all is) → multi_line_at (events_of all is) i ≡ false
single_line_told all [] q i h = absurd (omega (arith, h))
single_line_told all (event g a b ∷ is) q zero h = (single_line_words g).1 q.0.1
single_line_told all (event g a b ∷ is) q (suc i) h = single_line_told all is q.1 i (omega arith)
single_line_told all (event_after g l ∷ is) q i h = absurd q
single_line_told all (report m x c u ∷ is) q i h = absurd q
single_line_told all (trailing_comma head opened left start ∷ is) q i h = absurd q
single_line_told all (stop n ∷ is) q i h = absurd q

-- a run that is quiet with keys of some kinds is quiet
quiet_any : (P : Parts) (is : List Item) → Quiet P is → Quiet AnyKind is
quiet_any P [] q = tt
quiet_any P (event g a b ∷ is) q = ((q.0.0, any_key g), quiet_any P is q.1)
quiet_any P (event_after g l ∷ is) q = absurd q
quiet_any P (report m x c u ∷ is) q = absurd q
quiet_any P (trailing_comma head opened left start ∷ is) q = absurd q
quiet_any P (stop n ∷ is) q = absurd q

module _ (mode : Mode) (all : List Tok) (is : List Item) (evs ers : List ℕ) (room : length (events_of all is) ≤ length evs / event_size) where
  -- an event in the list and in the buffer
  told_at : (i : ℕ) → i < length (events_of all is)
      → multi_line_key (get_or (filled event_size (events_of all is) evs) (i * event_size) 0) (get_or (filled event_size (events_of all is) evs) (i * event_size + 1) 0) ≡ multi_line_at (events_of all is) i
  told_at i l =
      let first : i * event_size + 0 ≡ i * event_size = omega arith in
      let kind = subst (λ j. get_or (filled event_size (events_of all is) evs) j 0 ≡ get_or (get_or (events_of all is) i []) 0 0) first (word_at mode all is evs ers i 0 room l (omega arith)) in
      let encoding = word_at mode all is evs ers i 1 room l (omega arith) in
      λ j. multi_line_key (kind j) (encoding j)

  no_multi_line_items : Quiet AnyKind is → NoMultiLineKey (walked mode all is evs ers) → Quiet SingleLine is
  unfolding walked
  no_multi_line_items q h = words_single_line all is q (λ i l. sym (told_at i l) ∙ h i l)

  items_no_multi_line : Quiet SingleLine is → NoMultiLineKey (walked mode all is evs ers)
  unfolding walked
  items_no_multi_line q i l = told_at i l ∙ single_line_told all is q i l

-- a quiet run without a multi-line key is a run with quiet items whose keys are of the kinds that the grammar allows
pub single_line_iff : (options : Options) (e : Entry) (s : List ℕ) (base : ℕ) (evs ers : List ℕ)
    → (QuietRun (outcome options e s base evs ers) × NoMultiLineKey (outcome options e s base evs ers)) ↔ QuietOutcome SingleLine e s base evs
single_line_iff options e s base evs ers = (
  λ r.
      let o = quiet_outcome options e s base evs ers r.0 in
      record { passed = o.passed; quiet = no_multi_line_items options.mode (all_tokens s base) (parse e (all_tokens s base)).items evs ers o.fits o.quiet (subst NoMultiLineKey (passed_outcome options e s base evs ers o.passed) r.1); fits = o.fits },
  λ o. (
    outcome_quiet options e s base evs ers (record { passed = o.passed; quiet = quiet_any SingleLine (parse e (all_tokens s base)).items o.quiet; fits = o.fits }),
    subst NoMultiLineKey (sym (passed_outcome options e s base evs ers o.passed)) (items_no_multi_line options.mode (all_tokens s base) (parse e (all_tokens s base)).items evs ers o.fits o.quiet),
  ),
)
