-- What the pass says from here is what it says from the start.
use mathlib.Core.Path.{◌≡◌, refl, sym, ◌∙◌, ap}
use mathlib.Core.Bool.{Bool, true, false, false≢true}
use Prim.Native.Nat.{ℕ}
use Rattle.token.specs.Kinds.{kind_of}
use Rattle.regular.specs.Regular.{both, is_whitespace, is_eof}
use Rattle.regular.proofs.RegularLaws.{regular_decided, at_eof_lem, at_second, at_other, at_end}
use Rattle.regular.proofs.is_regular.Goals.{else-behind-via-then-behind+else-whitespace, else-behind-via-else-behind}
use Rattle.regular.proofs.is_regular.Goals as goal

both_hold : (a b : Bool) → a ≡ true → b ≡ true → both a b ≡ true
both_hold true b p q = q
both_hold false b p q = absurd (false≢true p)

first_fails : (a b : Bool) → a ≡ false → both a b ≡ false
first_fails true b p = absurd (false≢true (sym p))
first_fails false b p = refl

second_fails : (a b : Bool) → b ≡ false → both a b ≡ false
second_fails true b p = p
second_fails false b p = refl

pub returns-then-is_eof : goal.returns-then-is_eof
returns-then-is_eof c = regular_decided c.args.records.now c.args.base _ (at_eof_lem c.args.records.now c.loop-i.i c.loop-i.behind c.loop-i-test.true ((ap (λ (n : ℕ). is_eof (kind_of n)) (sym c.kind_number_at-number.ensures) ∙ sym c.is_eof.ensures) ∙ c.if-is_eof.true) ∙ c.loop-i.invariant)

pub returns-then-whitespace : goal.returns-then-whitespace
returns-then-whitespace c = regular_decided c.args.records.now c.args.base _ (at_second c.args.records.now c.loop-i.i c.loop-i.behind c.loop-i-test.true ((ap (λ (n : ℕ). is_eof (kind_of n)) (sym c.kind_number_at-number.ensures) ∙ sym c.is_eof.ensures) ∙ c.if-is_eof.false) (ap (both c.loop-i.behind) (sym (c.is_whitespace-whitespace.ensures ∙ ap (λ (n : ℕ). is_whitespace (kind_of n)) c.kind_number_at-number.ensures)) ∙ both_hold _ _ c.if-behind.true c.if-whitespace.true) ∙ c.loop-i.invariant)

pub loop-i-preserved : goal.loop-i-preserved
loop-i-preserved c =
    let apart : both c.loop-i.behind c.is_whitespace-whitespace.result ≡ false = elim c.else-behind.branch [
      | else-behind-via-then-behind+else-whitespace w ↦ second_fails _ _ w.if-whitespace.false
      | else-behind-via-else-behind w ↦ first_fails _ _ w.if-behind.false
    ] in
    rw (c.is_whitespace-whitespace.ensures ∙ ap (λ (n : ℕ). is_whitespace (kind_of n)) c.kind_number_at-number.ensures) (at_other c.args.records.now c.loop-i.i c.loop-i.behind c.loop-i-test.true ((ap (λ (n : ℕ). is_eof (kind_of n)) (sym c.kind_number_at-number.ensures) ∙ sym c.is_eof.ensures) ∙ c.if-is_eof.false) (ap (both c.loop-i.behind) (sym (c.is_whitespace-whitespace.ensures ∙ ap (λ (n : ℕ). is_whitespace (kind_of n)) c.kind_number_at-number.ensures)) ∙ apart) ∙ c.loop-i.invariant)

pub returns : goal.returns
returns c = regular_decided c.args.records.now c.args.base _ (at_end c.args.records.now c.loop-i.i c.loop-i.behind c.loop-i-test.false ∙ c.loop-i.invariant)
