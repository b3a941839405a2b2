-- A byte a turn, in eights and then alone, until one is of the set.
use mathlib.Core.Path.{◌≡◌, sym, subst, ◌∙◌}
use native.Mathlib.Omega.{arith}
use Prim.Native.Nat.{ℕ, ◌+◌}
use Rattle.std.proofs.Common.{rules}
use Rattle.scan.specs.Lexer.{lex_atom, ends_atom}
use Rattle.places.specs.PlaceLaws.{Still, begun, next, over}
use Rattle.scan.specs.ScanLaws.{until_hit, until_on, until_found}
use Rattle.byte_codes.proofs.table.Codes.lex_atom.Goals as goal

pub loop-i-init : goal.loop-i-init
loop-i-init c = begun c.requires

pub overflow_sub-text : goal.overflow_sub-text
overflow_sub-text c = c.loop-i.invariant.low

pub loop-k-init : goal.loop-k-init
loop-k-init c = subst (λ (n : ℕ). Still lex_atom c.args.text.now c.args.at n) (let e : c.loop-i.i ≡ c.loop-i.i + 0 = omega arith in e) c.loop-i.invariant

pub overflow_add-i : goal.overflow_add-i
overflow_add-i c = (omega (arith, c.loop-i-test.true, c.loop-i.invariant.low, c.loop-k-test.true))

pub bounds-text-i : goal.bounds-text-i
bounds-text-i c = (omega (arith, c.loop-i-test.true, c.loop-i.invariant.low, c.loop-k-test.true))

pub overflow_add-result : goal.overflow_add-result
overflow_add-result c = (omega (arith, c.loop-i-test.true, c.loop-i.invariant.low, c.loop-k-test.true))

pub returns-then-ends_atom : goal.returns-then-ends_atom
returns-then-ends_atom c =
    over c.loop-k.invariant 0 _ (omega arith) c.loop-k.invariant.low
    (until_hit ends_atom c.args.text.now (c.loop-i.i + c.loop-k.k) (omega (arith, c.loop-i-test.true, c.loop-i.invariant.low, c.loop-k-test.true)) (sym c.ends_atom.ensures ∙ c.if-ends_atom.true))

pub loop-k-preserved : goal.loop-k-preserved
loop-k-preserved c =
    subst (λ (n : ℕ). Still lex_atom c.args.text.now c.args.at n) (let e : c.loop-i.i + c.loop-k.k + 1 ≡ c.loop-i.i + (c.loop-k.k + 1) = omega arith in e)
    (next c.loop-k.invariant (omega (arith, c.loop-i-test.true, c.loop-i.invariant.low, c.loop-k-test.true)) (until_on ends_atom c.args.text.now (c.loop-i.i + c.loop-k.k) (omega (arith, c.loop-i-test.true, c.loop-i.invariant.low, c.loop-k-test.true)) (sym c.ends_atom.ensures ∙ c.if-ends_atom.false)))

pub overflow_add-i-in-loop-i : goal.overflow_add-i-in-loop-i
overflow_add-i-in-loop-i c = omega (arith, c.loop-i-test.true, c.loop-i.invariant.low)

pub loop-i-smaller : goal.loop-i-smaller
loop-i-smaller c = omega (arith, c.loop-i-test.true)

pub loop-i-preserved : goal.loop-i-preserved
loop-i-preserved c =
    subst (λ (n : ℕ). Still lex_atom c.args.text.now c.args.at n) (let e : c.loop-i.i + c.loop-k.k ≡ c.loop-i.i + 8 = omega (arith, c.loop-k-test.false) in e) c.loop-k.invariant

pub returns : goal.returns
returns c = until_found ends_atom c.loop-i.invariant (c.until.ensures ends_atom (λ b r h k. search rules))
