-- Each token but Eof an error event; what is left from here gives what was left from the start.
use Rattle.std.proofs.Common.{◌≡◌, refl, ◌∙◌, arith, rules}
use Rattle.token.specs.declared.kind.Kind.{Kind}
use Rattle.token.specs.Tokens.{Took}
use Rattle.output.specs.WalkLaws.{again, finish, first_item, run_done, by_rule, at_end}
use Rattle.rules.specs.Out.{done}
use Rattle.rules.specs.Skipping.{leftover}
use Rattle.list_ends.proofs.LeftoverLaws.{leftover_error}
use Rattle.list_ends.proofs.errors_to_end.Goals as goal

pub loop-t-preserved-then-ne : goal.loop-t-preserved-then-ne
loop-t-preserved-then-ne c =
    let k : Took c.args.s.now c.loop-t.cur c.in-Some.t c.in-Some.past = c.in-Some.ensures in
    let other : c.in-Some.t.kind ≡ Kind.Eof → ⊥ = search rules in
    again c.loop-t.invariant _ _ _ (by_rule _ _ _ _ (leftover_error _ _ _ _ k other) ∙ first_item _ _ _ _ _ (c.emit-n.ensures _ _)) (omega (arith, k.on)) k.base k.good

pub returns : goal.returns
returns c = finish c.loop-t.invariant _ _ _ (at_end _ _ _ _ leftover done c.in_default.ensures refl ∙ run_done _ _ _ _ _ _) (omega arith) refl c.loop-t.invariant.good
