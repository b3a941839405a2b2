-- The loop over dots, and within it the scan after a dot: what is to come from here gives what was to come from the start.
use mathlib.Core.Path.{refl, sym, ◌∙◌}
use native.Mathlib.Omega.{arith}
use Prim.Native.Nat.{◌-◌}
use Rattle.output.specs.WalkLaws.{begun, again, finish, first_item, run_done, told, told_done}
use Rattle.output.specs.WalkLaws.{told_if, told_none}
use Rattle.key_dots.proofs.PartLaws.{space_on, space_valid, dot_at, dot_out_lem, dot_valid_lem, dot_valid_at, part_at, part_valid_lem, part_none, part_none_valid, nested}
use Rattle.output.specs.NextLaws.{back_at}
use Rattle.token.specs.declared.kind.Kind.{Kind}
use Rattle.key_dots.proofs.dots.dot_keys.Goals as goal

pub parts-preserved-in-Whitespace : goal.parts-preserved-in-Whitespace
parts-preserved-in-Whitespace c = (
  again c.parts.invariant.0 _ _ _ ((part_at _ _ _ _ c.in-Some-next.ensures _ _ c.in_key.ensures c.in-Whitespace.is _ _ c.in-Some.d.end) ∙ ((first_item _ _ _ _ _ (c.emit-n-in-Whitespace.ensures _ _)))) (omega (arith, c.in-Some-next.ensures.on)) c.in-Some-next.ensures.base c.in-Some-next.ensures.good,
  (c.emit-n-in-Whitespace.auto.events) ∙ c.parts.invariant.1,
  (refl) ∙ c.parts.invariant.2,
  sym (part_valid_lem _ _ _ _ c.in-Some-next.ensures _ _ c.in_key.ensures c.in-Whitespace.is) ∙ c.parts.invariant.3,
  c.parts.invariant.4,
)

pub parts-preserved : goal.parts-preserved
parts-preserved c = (
  again c.parts.invariant.0 _ _ _ ((part_at _ _ _ _ c.in-Some-next.ensures _ _ c.in_key.ensures c.in-Dot.is _ _ c.in-Some.d.end) ∙ ((first_item _ _ _ _ _ (c.empty_key-n-in-Dot.ensures _ _)) ∙ (first_item _ _ _ _ _ (c.emit-n-in-Dot.ensures _ _)))) (omega (arith, c.in-Some-next.ensures.on)) c.in-Some-next.ensures.base c.in-Some-next.ensures.good,
  (c.emit-n-in-Dot.auto.events ∙ c.empty_key-n-in-Dot.auto.events) ∙ c.parts.invariant.1,
  (refl) ∙ c.parts.invariant.2,
  sym (part_valid_lem _ _ _ _ c.in-Some-next.ensures _ _ c.in_key.ensures c.in-Dot.is) ∙ c.parts.invariant.3,
  c.parts.invariant.4,
)

pub dots-preserved-in-Part : goal.dots-preserved-in-Part
dots-preserved-in-Part c =
    let x = (nested c.dots.invariant.0 (dot_at _ _ _ _ c.in-Some.ensures _ _ ∙ first_item _ _ _ _ _ (c.emit-n.ensures _ _)) (omega (arith, c.in-Some.ensures.1.on)) c.in-Some.ensures.1.base c.parts.invariant.0) in (
      again x _ _ _ ((part_at _ _ _ _ c.in-Some-next.ensures _ _ c.in_key.ensures c.in-Part.is _ _ c.in-Some.d.end) ∙ first_item _ _ _ _ _ (c.emit-n-in-Part.ensures _ _) ∙ space_on _ _ _ _ _ _ _ (c.opt_whitespace-v.ensures.is _ (c.in-Some-next.ensures.base ∙ x.base))) (omega (arith, c.in-Some-next.ensures.on, c.opt_whitespace-v.ensures.on)) (c.opt_whitespace-v.ensures.base ∙ c.in-Some-next.ensures.base) c.opt_whitespace-v.ensures.good,
      ((c.opt_whitespace-v.auto.events ∙ c.emit-n-in-Part.auto.events) ∙ c.parts.invariant.1 ∙ c.emit-n.auto.events ∙ c.dots.invariant.1),
      ((c.opt_whitespace-v.auto.errors) ∙ c.parts.invariant.2 ∙ c.dots.invariant.2),
      space_valid c.opt_whitespace-v.ensures ∙ sym (part_valid_lem _ _ _ _ c.in-Some-next.ensures _ _ c.in_key.ensures c.in-Part.is) ∙ (c.parts.invariant.3 ∙ sym (dot_valid_at _ _ _ _ c.in-Some.ensures) ∙ c.dots.invariant.3),
      c.parts.invariant.4 ∙ c.dots.invariant.4,
    )

pub dots-preserved : goal.dots-preserved
dots-preserved c =
    let x = (nested c.dots.invariant.0 (dot_at _ _ _ _ c.in-Some.ensures _ _ ∙ first_item _ _ _ _ _ (c.emit-n.ensures _ _)) (omega (arith, c.in-Some.ensures.1.on)) c.in-Some.ensures.1.base c.parts.invariant.0) in (
      again x _ _ _ (part_none _ _ c.in_default-next.ensures _ _ c.in-Some.d.end ∙ ((first_item _ _ _ _ _ (c.empty_key-n-in-dots.ensures _ _)))) (omega arith) refl c.parts.invariant.0.good,
      ((c.empty_key-n-in-dots.auto.events) ∙ c.parts.invariant.1 ∙ c.emit-n.auto.events ∙ c.dots.invariant.1),
      ((refl) ∙ c.parts.invariant.2 ∙ c.dots.invariant.2),
      sym (part_none_valid _ _ c.in_default-next.ensures) ∙ (c.parts.invariant.3 ∙ sym (dot_valid_at _ _ _ _ c.in-Some.ensures) ∙ c.dots.invariant.3),
      c.parts.invariant.4 ∙ c.dots.invariant.4,
    )

pub returns-in_default : goal.returns-in_default
returns-in_default c =
    record {
      goes = finish c.dots.invariant.0 _ _ _ (dot_out_lem _ _ _ _ c.in_default.ensures ∙ run_done _ _ _ _ _ _) (omega arith) refl c.dots.invariant.0.good;
      valid = c.dots.invariant.4 ∙ sym (dot_valid_lem _ _ c.in_default.ensures) ∙ c.dots.invariant.3;
    }

pub returns-in-Other : goal.returns-in-Other
returns-in-Other c =
    let x = (nested c.dots.invariant.0 (dot_at _ _ _ _ c.in-Some.ensures _ _ ∙ first_item _ _ _ _ _ (c.emit-n.ensures _ _)) (omega (arith, c.in-Some.ensures.1.on)) c.in-Some.ensures.1.base c.parts.invariant.0) in
    record {
      goes = finish x _ _ _ ((part_at _ _ _ _ c.in-Some-next.ensures _ _ c.in_key.ensures c.in-Other.is _ _ c.in-Some.d.end) ∙ ((first_item _ _ _ _ _ (c.empty_key-n.ensures _ _))) ∙ back_at _ _ _ _ _ _ _ x.good c.in-Some-next.ensures c.back-cur.ensures ∙ run_done _ _ _ _ _ _) (omega (arith, c.back-cur.ensures.on, c.in-Some-next.ensures.on)) (c.back-cur.ensures.base ∙ c.in-Some-next.ensures.base) c.back-cur.ensures.good;
      valid = sym (part_valid_lem _ _ _ _ c.in-Some-next.ensures _ _ c.in_key.ensures c.in-Other.is) ∙ (c.parts.invariant.3 ∙ sym (dot_valid_at _ _ _ _ c.in-Some.ensures) ∙ c.dots.invariant.3);
    }
