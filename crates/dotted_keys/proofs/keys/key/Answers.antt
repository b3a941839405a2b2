-- Up to the first part, and the parts behind it.
use mathlib.Core.Path.{refl, ap, sym, ◌∙◌}
use native.Mathlib.Omega.{arith}
use Prim.Native.Nat.{◌-◌}
use Rattle.output.specs.WalkLaws.{begun, again, finish, finish_by, first_item, run_done, told, told_done}
use Rattle.rules.specs.Out.{done, ◌▹◌}
use Rattle.rules.specs.Keys.{key, key_valid}
use Rattle.key_spaces.specs.Nothing.{nothing_left}
use Rattle.rules.specs.Expected as expected
use Rattle.output.specs.WalkLaws.{at_end}
use Rattle.dotted_keys.proofs.KeyLaws.{key_at, key_valid_lem}
use Rattle.output.specs.NextLaws.{back_at}
use Rattle.dotted_keys.proofs.keys.key.Goals as goal

pub returns : goal.returns
returns c =
    record {
      goes = finish c.loop-t.invariant.0 _ _ _ (at_end _ _ _ _ (key c.args.message) (λ ts. nothing_left c.args.message expected.a_key ▹ done ts) c.in_default.ensures refl ∙ first_item _ _ _ _ _ (c.nothing_left-n.ensures _ _ c.loop-t.invariant.0.base) ∙ run_done _ _ _ _ _ _) (omega arith) refl c.loop-t.invariant.0.good;
      valid = sym (ap key_valid c.in_default.ensures) ∙ c.loop-t.invariant.3;
    }

pub returns-in-Other : goal.returns-in-Other
returns-in-Other c =
    record {
      goes = finish c.loop-t.invariant.0 _ _ _ ((key_at _ _ _ _ c.in-Some.ensures _ _ c.in_key.ensures c.in-Other.is _ _ c.args.message) ∙ ((first_item _ _ _ _ _ (c.empty_key-n.ensures _ _))) ∙ back_at _ _ _ _ _ _ _ c.loop-t.invariant.0.good c.in-Some.ensures c.back.ensures ∙ run_done _ _ _ _ _ _) (omega (arith, c.back.ensures.on, c.in-Some.ensures.on)) (c.back.ensures.base ∙ c.in-Some.ensures.base) c.back.ensures.good;
      valid = sym (key_valid_lem _ _ _ _ c.in-Some.ensures _ _ c.in_key.ensures c.in-Other.is) ∙ c.loop-t.invariant.3;
    }

pub loop-t-preserved-in-Whitespace : goal.loop-t-preserved-in-Whitespace
loop-t-preserved-in-Whitespace c = (
  again c.loop-t.invariant.0 _ _ _ ((key_at _ _ _ _ c.in-Some.ensures _ _ c.in_key.ensures c.in-Whitespace.is _ _ c.args.message) ∙ ((first_item _ _ _ _ _ (c.emit-n.ensures _ _)))) (omega (arith, c.in-Some.ensures.on)) c.in-Some.ensures.base c.in-Some.ensures.good,
  (c.emit-n.auto.events) ∙ c.loop-t.invariant.1,
  (refl) ∙ c.loop-t.invariant.2,
  sym (key_valid_lem _ _ _ _ c.in-Some.ensures _ _ c.in_key.ensures c.in-Whitespace.is) ∙ c.loop-t.invariant.3,
)

pub loop-t-preserved : goal.loop-t-preserved
loop-t-preserved c = (
  again c.loop-t.invariant.0 _ _ _ ((key_at _ _ _ _ c.in-Some.ensures _ _ c.in_key.ensures c.in-Dot.is _ _ c.args.message) ∙ ((first_item _ _ _ _ _ (c.empty_key-n-in-Dot.ensures _ _)) ∙ (first_item _ _ _ _ _ (c.emit-n-in-Dot.ensures _ _)))) (omega (arith, c.in-Some.ensures.on)) c.in-Some.ensures.base c.in-Some.ensures.good,
  (c.emit-n-in-Dot.auto.events ∙ c.empty_key-n-in-Dot.auto.events) ∙ c.loop-t.invariant.1,
  (refl) ∙ c.loop-t.invariant.2,
  sym (key_valid_lem _ _ _ _ c.in-Some.ensures _ _ c.in_key.ensures c.in-Dot.is) ∙ c.loop-t.invariant.3,
)

pub returns-in-Part : goal.returns-in-Part
returns-in-Part c =
    record {
      goes = finish_by c.loop-t.invariant.0 ((key_at _ _ _ _ c.in-Some.ensures _ _ c.in_key.ensures c.in-Part.is _ _ c.args.message) ∙ ((first_item _ _ _ _ _ (c.emit-n-in-Part.ensures _ _)))) (omega (arith, c.in-Some.ensures.on)) c.in-Some.ensures.base c.opt_dot_keys.ensures.goes;
      valid = c.opt_dot_keys.ensures.valid ∙ sym (key_valid_lem _ _ _ _ c.in-Some.ensures _ _ c.in_key.ensures c.in-Part.is) ∙ c.loop-t.invariant.3;
    }
