-- The count is that of the turns as long as all are ASCII.
use Rattle.std.specs.Prelude.{◌≡◌, Bool, true, false, cond, ℕ}
use Rattle.std.specs.Int.{from_bool}
use Rattle.std.proofs.Common.{ap, ◌∙◌, refl}
use Rattle.utf8_sequences.specs.Utf8Laws.{ascii_is}
use native.Mathlib.Omega.{arith}
use Prim.Native.Nat.{◌+◌}
use lib.ListN.{get_or}
use Rattle.utf8_sequences.specs.Steps.{is_ascii}
use Rattle.places.specs.PlaceLaws.{tally_begun, tally_on, tally_end, one_most}
use Rattle.utf8.proofs.thirty_two_ascii.Goals as goal

number_is : (t : Bool) → from_bool t ≡ cond {A = ℕ} t 1 0
number_is true = refl
number_is false = refl

pub loop-k-init : goal.loop-k-init
loop-k-init c = tally_begun is_ascii c.args.text.now c.args.at

pub overflow_add-at : goal.overflow_add-at
overflow_add-at c = omega (arith, c.requires)

pub bounds-text-at : goal.bounds-text-at
bounds-text-at c = omega (arith, c.requires, c.loop-k-test.true)

pub overflow_add-count : goal.overflow_add-count
overflow_add-count c = omega (arith, c.loop-k.invariant.few, c.loop-k.invariant.most, c.loop-k-test.true, (c.from-count.ensures ∙ number_is c.is_ascii.result ∙ ap (λ (t : Bool). cond {A = ℕ} t 1 0) (c.is_ascii.ensures ∙ ascii_is _)), one_most is_ascii (get_or c.args.text.now (c.args.at + c.loop-k.k) 0))

pub loop-k-preserved : goal.loop-k-preserved
loop-k-preserved c = tally_on c.loop-k.invariant c.loop-k-test.true (omega (arith, c.requires, c.loop-k-test.true)) _ (c.from-count.ensures ∙ number_is c.is_ascii.result ∙ ap (λ (t : Bool). cond {A = ℕ} t 1 0) (c.is_ascii.ensures ∙ ascii_is _))

pub returns : goal.returns
returns c = tally_end c.loop-k.invariant c.loop-k-test.false
