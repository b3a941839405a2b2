-- Demand 3 over the rules, with the kinds P that a key may have: a run of the document rule is quiet with keys of these kinds exactly when the
-- token list fits the grammar with these key parts. With any kind it is the quiet run, and the wide grammar. Of a quiet run the events lie end
-- to end, brackets nest, there are no more events than tokens, and equal events mean equal lists but for how an unquoted scalar was cut.
use mathlib.Core.Path.{◌≡◌, refl, sym, subst, subst₂, ◌∙◌}
use mathlib.Core.Logic.{◌↔◌}
use mathlib.Core.List.{List, [], ◌∷◌}
use Prim.Native.Nat.{ℕ, ◌-◌, ◌≤◌}
use native.Mathlib.Omega.{arith}
use lib.ListN.{length, get_or}
use Rattle.token.specs.declared.kind.Kind.TheVariants.{Eof}
use Rattle.token.specs.Tokens.{Tok, tok}
use Rattle.token.specs.Laid.{Laid, laid_token}
use Rattle.rules.specs.Limits.{max_depth}
use Rattle.rules.specs.Entries.{parse_document}
use Rattle.rules.specs.Words.{events_of}
use Rattle.fitting.specs.Quiet.{Quiet}
use Rattle.fitting.specs.Grammar.{Parts, AnyKind, FitsBy}
use Rattle.fitting.specs.Premises.{NestedWithin, Regular, text_end, EndToEnd, no_event, an_event, Nests, SameButForCuts, same_rest}
use Rattle.fitting.proofs.Reading.{Reads}
use Rattle.fitting.proofs.FitsQuietDocument.{Whole, document_walk}
use Rattle.fitting.proofs.QuietFitsDocument.{document_fits}
use Rattle.fitting.proofs.Nesting.{fits_within}
use Rattle.fitting.proofs.NestingBack.{within_fits}
use Rattle.fitting.proofs.WellRead.{ReadsWell, reads_well, reads_nest}
use Rattle.fitting.proofs.SameReading.{reads_same, words_tell}

module _ (P : Parts) (base : ℕ) (ts : List Tok) (laid : Laid base ts) (regular : Regular ts) where
  -- a list that fits is read
  fits_walk : FitsBy P max_depth ts → Whole P (parse_document ts) ts
  fits_walk d = document_walk P max_depth ts d

  quiet_within : Quiet P (parse_document ts).items → FitsBy P max_depth ts
  quiet_within q = document_fits P max_depth ts regular q

  quiet_read : Quiet P (parse_document ts).items → Whole P (parse_document ts) ts
  quiet_read q = fits_walk (quiet_within q)

  quiet_well : (q : Quiet P (parse_document ts).items) → ReadsWell P ts base (parse_document ts).items ts (tok Eof (quiet_read q).0 (quiet_read q).1 ∷ [])
  quiet_well q = reads_well ts (quiet_read q).2.0 laid

  -- the run is quiet exactly when the list fits
  pub quiet_fits : NestedWithin max_depth ts → Quiet P (parse_document ts).items ↔ ((n : ℕ) × FitsBy P n ts)
  quiet_fits shallow = (λ q. (max_depth, quiet_within q), λ f. (reads_well ts (fits_walk (fits_within f.0 max_depth f.1 shallow)).2.0 laid).quiet)

  -- with no premise on the nesting: exactly when the list fits with at most 64 arrays and inline tables open
  pub quiet_fits_within : Quiet P (parse_document ts).items ↔ FitsBy P max_depth ts
  quiet_fits_within = (quiet_within, λ d. (reads_well ts (fits_walk d).2.0 laid).quiet)

  -- then the events lie end to end from the base to the end of the text
  pub quiet_ends : Quiet P (parse_document ts).items → EndToEnd base (events_of ts (parse_document ts).items) (text_end base ts)
  quiet_ends q = let w = quiet_well q in subst (λ x. EndToEnd base (events_of ts (parse_document ts).items) x) (sym (w.same ∙ eof_end w.laid)) w.end_to_end
    where
      eof_end : {p a b : ℕ} → Laid p (tok Eof a b ∷ []) → b ≡ p
      eof_end (laid_token s l) = s

  -- brackets nest
  pub quiet_nests : Quiet P (parse_document ts).items → Nests [] (events_of ts (parse_document ts).items) []
  quiet_nests q = reads_nest ts (quiet_read q).2.0

  -- there are no more events than tokens
  pub quiet_count : Quiet P (parse_document ts).items → length (events_of ts (parse_document ts).items) ≤ length ts
  quiet_count q = let w = quiet_well q in omega (arith, w.few)

-- the premise on the nesting asks nothing more of a list that fits than that it fits with at most 64 arrays and inline tables open
pub nesting_exact : (P : Parts) (ts : List Tok) → FitsBy P max_depth ts ↔ (((n : ℕ) × FitsBy P n ts) × NestedWithin max_depth ts)
nesting_exact P ts = (λ d. ((max_depth, d), within_fits (max_depth - 2) d), λ f. fits_within f.0.0 max_depth f.0.1 f.1)

-- where events end that begin at p: by the last word of the last of them
last_end : ℕ → List (List ℕ) → ℕ
last_end p [] = p
last_end p (words ∷ events) = last_end (get_or words 3 0) events

ends_at : {p q : ℕ} {events : List (List ℕ)} → EndToEnd p events q → q ≡ last_end p events
unfolding last_end
ends_at no_event = refl
ends_at (an_event h) = ends_at h

ends_once : {p q r : ℕ} {events : List (List ℕ)} → EndToEnd p events q → EndToEnd p events r → q ≡ r
ends_once h g = ends_at h ∙ sym (ends_at g)

eof_same : {q r a b c d : ℕ} → q ≡ r → Laid q (tok Eof a b ∷ []) → Laid r (tok Eof c d ∷ []) → SameButForCuts [] (tok Eof a b ∷ []) (tok Eof c d ∷ [])
eof_same {q} {r} {a} {b} {c} {d} e (laid_token w l) (laid_token w' m) = subst₂ (λ x y. SameButForCuts [] (tok Eof q b ∷ []) (tok Eof x y ∷ [])) e (w ∙ e ∙ sym w') same_rest

-- two quiet runs from the same base with the same event words: the lists are the same but for cuts
pub quiet_same : (base : ℕ) (ts us : List Tok) → Laid base ts → Laid base us → Regular ts → Regular us
    → Quiet AnyKind (parse_document ts).items → Quiet AnyKind (parse_document us).items → events_of ts (parse_document ts).items ≡ events_of us (parse_document us).items → SameButForCuts (events_of ts (parse_document ts).items) ts us
quiet_same base ts us l m g h q r e =
    let w = quiet_read AnyKind base ts l g q in
    let v = quiet_read AnyKind base us m h r in
    let i = words_tell AnyKind ts us (parse_document ts).items (parse_document us).items q r e in
    let y = subst (λ x. Reads AnyKind x us (tok Eof v.0 v.1 ∷ []) [] []) (sym i) v.2.0 in
    let c = reads_well ts w.2.0 l in
    let d = reads_well ts y m in
    reads_same ts w.2.0 y l m (eof_same (ends_once c.end_to_end d.end_to_end) c.laid d.laid)
