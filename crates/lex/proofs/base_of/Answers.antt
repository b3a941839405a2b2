-- The library's word for the rule's.
use Rattle.std.proofs.Common.{◌≡◌, refl, sym, ◌∙◌, List, [], ◌∷◌, ℕ, Bool, true, false, ap, take, length, eqb-true, eq-eqb, ne_eqb}
use Rattle.std.specs.Prelude.{cond, ◌&&◌, eqb}
use Rattle.std.specs.Cmp.Lexicographic.{pointwise}
use Rattle.std.proofs.lemmas.Bool.{false≢true}
use Rattle.places.specs.Places.{peeks, starts_with}
use Rattle.scan.specs.Lexer.{byte_order_mark}
use Rattle.lex.proofs.base_of.Goals as goal

turned : (m n : ℕ) (t : Bool) → eqb m n ≡ t → eqb n m ≡ t
turned m n true e = eq-eqb n m (sym (eqb-true m n e))
turned m n false e = ne_eqb n m (λ q. false≢true (sym e ∙ eq-eqb m n (sym q)))

same : (ns bs : List ℕ) → pointwise eqb ns (take (length ns) bs) ≡ starts_with ns bs
unfolding peeks
same [] bs = refl
same (n ∷ ns) [] = refl
same (n ∷ ns) (b ∷ bs) = by_test (eqb n b) refl (same ns bs)
  where
    by_test : (t : Bool) → eqb n b ≡ t → pointwise eqb ns (take (length ns) bs) ≡ starts_with ns bs → (t && pointwise eqb ns (take (length ns) bs)) ≡ cond (eqb b n) (starts_with ns bs) false
    by_test true q e = rw (turned n b true q) e
    by_test false q e = rw (turned n b false q)

pub returns-then-starts_with : goal.returns-then-starts_with
returns-then-starts_with c = sym (ap (λ (t : Bool). cond t 3 0) (sym (same byte_order_mark c.args.text.now) ∙ sym c.starts_with.ensures.value ∙ c.if-starts_with.true))

pub returns-else-starts_with : goal.returns-else-starts_with
returns-else-starts_with c = sym (ap (λ (t : Bool). cond t 3 0) (sym (same byte_order_mark c.args.text.now) ∙ sym c.starts_with.ensures.value ∙ c.if-starts_with.false))
