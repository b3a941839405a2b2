-- From a theorem about the records that the lexer left to the same about the text. Proved; nothing here needs to be believed.
use mathlib.Core.Path.{◌≡◌, refl, ap, sym, subst, subst₂, ◌∙◌}
use mathlib.Core.Logic.{◌↔◌}
use mathlib.Core.List.{List, [], ◌∷◌}
use Prim.Native.Nat.{ℕ, ◌*◌}
use lib.ListN.{length, take}
use Rattle.token.specs.Tokens.{Tok, tok, all_tokens}
use Rattle.token.specs.Laid.{end_of}
use Rattle.rules.specs.Limits.{max_depth}
use Rattle.rules.specs.Answer.{Outcome}
use Rattle.fitting.specs.Quiet.{QuietRun, NoMultiLineKey}
use Rattle.fitting.specs.Grammar.{FitsWithin, Fits}
use Rattle.rules.specs.declared.options.Options.{Options}
use Rattle.fitting.specs.Premises.{NestedWithin, Regular, Ready, document_run, text_end, events_left, EndToEnd, Nests, SameButForCuts}
use Rattle.lex.specs.declared.Lexed.{Lexed}
use Rattle.scan.specs.Lexer.{tokens_of, base_of}
use Rattle.lex.specs.Lexed.{LexOutcome, lex_outcome}
use Rattle.lex.specs.TextLaws.{text_end_lem}
use Rattle.text_rules.specs.TextOutcome.{text_outcome, text_run}
use Rattle.text_rules.specs.TextPremises.{TextReady}
use Rattle.text_rules.specs.LexedLaws.{lexed_base}
use Rattle.text_rules.specs.RunLaws.{base_is, refused_beyond, refusal_none, run_is, tokens_are, regular_are, few_pass}

-- of a run: it is quiet, and no key is a multi-line string
abbrev Clean : Outcome → Type 0
Clean o = QuietRun o × NoMultiLineKey o

-- two names of where tokens end
same_end : (p : ℕ) (ts : List Tok) → end_of p ts ≡ text_end p ts
same_end p [] = refl
same_end p (tok k a b ∷ ts) = same_end b ts

-- what the lexer answered, with the record buffer after it
module _ (options : Options) (text records events errors : List ℕ) (r : Lexed) (after : List ℕ) (e : record { answer = r; buffer = after } ≡ lex_outcome text records) where
  abbrev run : Outcome
  run = text_run options text records events errors

  pub refused_unready : (r.refusal ≡ 0 → ⊥) → TextReady options text records events errors → ⊥
  refused_unready h x = refused_beyond text records events errors r after e h x.within x.lexed

  module _ (z : r.refusal ≡ 0) where
    abbrev bytes : List ℕ
    bytes = take (6 * r.records) after

    abbrev inner : Outcome
    inner = document_run options bytes r.base events errors

    is_inner : run ≡ inner
    is_inner = run_is text records events errors r after e z options

    tokens : all_tokens bytes r.base ≡ tokens_of text
    tokens = tokens_are text records events errors r after e z

    regular : Regular (all_tokens bytes r.base)
    regular = regular_are text records events errors r after e z

    end_is : text_end r.base (all_tokens bytes r.base) ≡ length text
    end_is =
        let none = refusal_none text records events errors r after e z in
        ap (text_end r.base) tokens
        ∙ ap (λ (p : ℕ). text_end p (tokens_of text)) (ap (λ (x : LexOutcome). x.answer.base) e ∙ lexed_base text records none)
        ∙ sym (same_end (base_of text) (tokens_of text)) ∙ text_end_lem text

    inner_quiet : QuietRun run → QuietRun inner
    inner_quiet q = subst QuietRun is_inner q

    -- a premise about the text is one about its records
    ready : TextReady options text records events errors → Ready options bytes r.base events errors
    ready x =
        record {
          passed = few_pass text records events errors r after e z x.within.few;
          regular = regular;
          room = λ s. x.room (ap (λ (o : Outcome). o.answer.refusal) is_inner ∙ s);
        }

    both_ways : {A B C D : Type 0} → (A → B) → (B → A) → (C → D) → (D → C) → B ↔ D → A ↔ C
    both_ways f g h k x = (λ a. k (x.0 (f a)), λ c. g (x.1 (h c)))

    -- a theorem about the records gives it of the text
    pub fits_of : (Regular (all_tokens bytes r.base) → QuietRun inner → NoMultiLineKey inner → Fits (all_tokens bytes r.base)) → QuietRun run → NoMultiLineKey run → Fits (tokens_of text)
    fits_of x q k = subst Fits tokens (x regular (inner_quiet q) (subst NoMultiLineKey is_inner k))

    exactly_of : (P : List Tok → Type 0) → Clean inner ↔ P (all_tokens bytes r.base) → Clean run ↔ P (tokens_of text)
    exactly_of P x = both_ways (subst Clean is_inner) (subst Clean (sym is_inner)) (subst P (sym tokens)) (subst P tokens) x

    pub exactly_within_of : (Ready options bytes r.base events errors → Clean inner ↔ FitsWithin max_depth (all_tokens bytes r.base))
        → TextReady options text records events errors → Clean run ↔ FitsWithin max_depth (tokens_of text)
    exactly_within_of x y = exactly_of (FitsWithin max_depth) (x (ready y))

    pub exactly_fits_of : (Ready options bytes r.base events errors → NestedWithin max_depth (all_tokens bytes r.base) → Clean inner ↔ Fits (all_tokens bytes r.base))
        → TextReady options text records events errors → NestedWithin max_depth (tokens_of text) → Clean run ↔ Fits (tokens_of text)
    exactly_fits_of x y n = exactly_of Fits (x (ready y) (subst (NestedWithin max_depth) (sym tokens) n))

    pub ends_of : (Regular (all_tokens bytes r.base) → QuietRun inner → EndToEnd r.base (events_left inner) (text_end r.base (all_tokens bytes r.base)))
        → QuietRun run → EndToEnd (text_outcome options text records events errors).answer.base (events_left run) (length text)
    ends_of x q =
        subst (λ (o : Outcome). EndToEnd (text_outcome options text records events errors).answer.base (events_left o) (length text)) (sym is_inner)
        (subst₂ (λ (p n : ℕ). EndToEnd p (events_left inner) n) (base_is text records events errors r after e options) end_is (x regular (inner_quiet q)))

    pub nests_of : (Regular (all_tokens bytes r.base) → QuietRun inner → Nests [] (events_left inner) []) → QuietRun run → Nests [] (events_left run) []
    nests_of x q = subst (λ (o : Outcome). Nests [] (events_left o) []) (sym is_inner) (x regular (inner_quiet q))

-- the theorem about two lists of records, with a base of its own for the second
abbrev pub SameOf : Options → Options → List ℕ → ℕ → List ℕ → List ℕ → List ℕ → List ℕ → List ℕ → ℕ → Type 0
SameOf options other s base events errors s' events' errors' base' =
    Regular (all_tokens s base) → Regular (all_tokens s' base') → QuietRun (document_run options s base events errors) → QuietRun (document_run other s' base' events' errors')
    → events_left (document_run options s base events errors) ≡ events_left (document_run other s' base' events' errors')
    → SameButForCuts (events_left (document_run options s base events errors)) (all_tokens s base) (all_tokens s' base')

-- two texts that were lexed
pub same_of : (options other : Options) (text records events errors : List ℕ) (r : Lexed) (after : List ℕ) (e : record { answer = r; buffer = after } ≡ lex_outcome text records) (z : r.refusal ≡ 0)
    → (text' records' events' errors' : List ℕ) (r' : Lexed) (after' : List ℕ) (e' : record { answer = r'; buffer = after' } ≡ lex_outcome text' records') (z' : r'.refusal ≡ 0)
    → SameOf options other (take (6 * r.records) after) r.base events errors (take (6 * r'.records) after') events' errors' r.base
    → QuietRun (text_run options text records events errors) → QuietRun (text_run other text' records' events' errors')
    → (text_outcome options text records events errors).answer.base ≡ (text_outcome other text' records' events' errors').answer.base
    → events_left (text_run options text records events errors) ≡ events_left (text_run other text' records' events' errors')
    → SameButForCuts (events_left (text_run options text records events errors)) (tokens_of text) (tokens_of text')
same_of options other text records events errors r after e z text' records' events' errors' r' after' e' z' x q q' b s =
    let run = run_is text records events errors r after e z options in
    let run' = run_is text' records' events' errors' r' after' e' z' other in
    let based : r.base ≡ r'.base = base_is text records events errors r after e options ∙ b ∙ sym (base_is text' records' events' errors' r' after' e' other) in
    let y = subst (SameOf options other (take (6 * r.records) after) r.base events errors (take (6 * r'.records) after') events' errors') based x in
    let same =
    y (regular_are text records events errors r after e z) (regular_are text' records' events' errors' r' after' e' z') (subst QuietRun run q) (subst QuietRun run' q')
    (ap events_left (sym run) ∙ s ∙ ap events_left run') in
    subst (λ (o : Outcome). SameButForCuts (events_left o) (tokens_of text) (tokens_of text')) (sym run)
    (subst₂ (λ (ts us : List Tok). SameButForCuts (events_left (document_run options (take (6 * r.records) after) r.base events errors)) ts us)
    (tokens_are text records events errors r after e z) (tokens_are text' records' events' errors' r' after' e' z') same)
