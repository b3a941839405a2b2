-- By the arms: each row of the table takes all first bytes of an arm or none.
use mathlib.Core.Path.{◌≡◌, refl, sym, ◌∙◌}
use mathlib.Core.Bool.{Bool, true, false}
use mathlib.Core.List.{List}
use native.Mathlib.Omega.{arith}
use lib.Dec.{leb}
use lib.ListN.{length, drop, get_or}
use Prim.Native.Nat.{ℕ, suc, ◌<◌, ◌≤◌}
use borrow.Author.Tests.{leb-true}
use Rattle.std.proofs.Common.{leb-false}
use Rattle.utf8_sequences.specs.Utf8.{fits, sequence_of, table}
use Rattle.utf8_sequences.proofs.RowLaws.{sequence_in}
use Rattle.utf8_sequences.proofs.sequence_at.Goals as goal

-- a byte that is none of the arms' starts nothing
nothing : (s : List ℕ) (i : ℕ) → i < length s → 128 ≤ get_or s i 0 → (194 ≤ get_or s i 0 → 245 ≤ get_or s i 0) → 0 ≡ sequence_of table (drop i s)
nothing s i h l f = by_test (leb 194 (get_or s i 0)) refl
  where
    by_test : (t : Bool) → leb 194 (get_or s i 0) ≡ t → 0 ≡ sequence_of table (drop i s)
    by_test true q = sym (sequence_in s i 245 (suc (get_or s i 0)) h (f (leb-true 194 (get_or s i 0) q)) (omega arith) refl)
    by_test false q = let m = leb-false 194 (get_or s i 0) q in sym (sequence_in s i 128 194 h l (omega (arith, m)) refl)

pub returns-in-0-to-127 : goal.returns-in-0-to-127
unfolding fits
returns-in-0-to-127 c = sym (sequence_in c.args.text.now c.args.at 0 128 c.requires (omega arith) (omega arith) refl)

pub returns-in-194-to-223 : goal.returns-in-194-to-223
returns-in-194-to-223 c = c.two.ensures ∙ sym (sequence_in c.args.text.now c.args.at 194 224 c.requires (omega arith) (omega arith) refl)

pub returns-in-224 : goal.returns-in-224
returns-in-224 c = c.three.ensures ∙ sym (sequence_in c.args.text.now c.args.at 224 225 c.requires (omega arith) (omega arith) refl)

pub returns-in-225-to-236 : goal.returns-in-225-to-236
returns-in-225-to-236 c = c.three-in-225-to-236.ensures ∙ sym (sequence_in c.args.text.now c.args.at 225 237 c.requires (omega arith) (omega arith) refl)

pub returns-in-237 : goal.returns-in-237
returns-in-237 c = c.three-in-237.ensures ∙ sym (sequence_in c.args.text.now c.args.at 237 238 c.requires (omega arith) (omega arith) refl)

pub returns-in-238-to-239 : goal.returns-in-238-to-239
returns-in-238-to-239 c = c.three-in-238-to-239.ensures ∙ sym (sequence_in c.args.text.now c.args.at 238 240 c.requires (omega arith) (omega arith) refl)

pub returns-in-240 : goal.returns-in-240
returns-in-240 c = c.four.ensures ∙ sym (sequence_in c.args.text.now c.args.at 240 241 c.requires (omega arith) (omega arith) refl)

pub returns-in-241-to-243 : goal.returns-in-241-to-243
returns-in-241-to-243 c = c.four-in-241-to-243.ensures ∙ sym (sequence_in c.args.text.now c.args.at 241 244 c.requires (omega arith) (omega arith) refl)

pub returns-in-244 : goal.returns-in-244
returns-in-244 c = c.four-in-244.ensures ∙ sym (sequence_in c.args.text.now c.args.at 244 245 c.requires (omega arith) (omega arith) refl)

pub returns-in_default : goal.returns-in_default
returns-in_default c = nothing c.args.text.now c.args.at c.requires (omega arith) (λ h. omega arith)

pub returns-in_default-2 : goal.returns-in_default-2
returns-in_default-2 c = nothing c.args.text.now c.args.at c.requires (omega arith) (λ h. omega arith)
