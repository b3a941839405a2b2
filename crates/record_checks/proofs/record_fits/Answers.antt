-- By the number of the kind.
use mathlib.Core.Path.{sym, ap, ◌∙◌}
use native.Mathlib.Omega.{arith}
use borrow.Author.Tests.{lt-ltb, le-ltb}
use Prim.Native.Nat.{◌<◌, ◌≤◌}
use Rattle.token.specs.Kinds.{Width, width_fits}
use Rattle.token.specs.CheckLaws.{width_by, fits_by}
use Rattle.record_checks.proofs.record_fits.Goals as goal

pub returns-then-kind-gt0 : goal.returns-then-kind-gt0
returns-then-kind-gt0 c =
    let l : 1 ≤ c.args.kind = omega (arith, c.if-kind-gt0.true) in
    let h : c.args.kind ≤ 16 = omega (arith, c.if-kind-lt8.true) in
    sym ((fits_by c.args.kind c.args.length l h ∙ ap (λ (w : Width). width_fits w c.args.length) (width_by c.args.kind l)) ∙ simp (lt-ltb _ _ c.if-kind-lt8.true))

pub returns-then-kind-lt8 : goal.returns-then-kind-lt8
returns-then-kind-lt8 c =
    let l : c.args.kind < 1 = omega (arith, c.if-kind-gt0.false) in
    simp (lt-ltb _ _ l)

pub returns-then-kind-lt16 : goal.returns-then-kind-lt16
returns-then-kind-lt16 c =
    let l : 1 ≤ c.args.kind = omega (arith, c.if-kind-lt8.false) in
    let h : c.args.kind ≤ 16 = omega (arith, c.if-kind-lt16.true) in
    sym ((fits_by c.args.kind c.args.length l h ∙ ap (λ (w : Width). width_fits w c.args.length) (width_by c.args.kind l)) ∙ simp (le-ltb _ _ c.if-kind-lt8.false, lt-ltb _ _ c.if-kind-lt16.true))

pub returns-then-kind-lt17 : goal.returns-then-kind-lt17
returns-then-kind-lt17 c =
    let l : 1 ≤ c.args.kind = omega (arith, c.if-kind-lt8.false) in
    let h : c.args.kind ≤ 16 = omega (arith, c.if-kind-lt17.true) in
    sym ((fits_by c.args.kind c.args.length l h ∙ ap (λ (w : Width). width_fits w c.args.length) (width_by c.args.kind l)) ∙ simp (le-ltb _ _ c.if-kind-lt8.false, le-ltb _ _ c.if-kind-lt16.false))

pub returns : goal.returns
returns c =
    let l : 1 ≤ c.args.kind = omega (arith, c.if-kind-lt8.false) in
    let h : 16 < c.args.kind = omega (arith, c.if-kind-lt17.false) in
    simp (le-ltb _ _ l, lt-ltb _ _ h)
