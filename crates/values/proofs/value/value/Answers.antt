-- Each `=` is reported, up to a value or what stands where one should.
use mathlib.Core.Path.{refl, ◌∙◌}
use native.Mathlib.Omega.{arith}
use Prim.Native.Nat.{◌-◌}
use Rattle.output.specs.WalkLaws.{begun, again, finish, finish_by, first_item, run_done, told, told_done}
use Rattle.rules.specs.Out.{done, ◌▹◌}
use Rattle.rules.specs.Messages as message
use Rattle.rules.specs.Expected as expected
use Rattle.rules.specs.Value.{value}
use Rattle.key_spaces.specs.Nothing.{nothing_left}
use Rattle.output.specs.WalkLaws.{at_end}
use Rattle.nest.specs.NestedLaws.{nested_goes}
use Rattle.values.proofs.ValueLaws.{value_at, value_flat, finish_nested}
use borrow.Enum.Refused.{opened as among_is}
use Rattle.values.proofs.value.value.Goals as goal

pub loop-t-init : goal.loop-t-init
loop-t-init c = (begun _ _ _ _ c.requires, refl, refl)

pub next-requires : goal.next-requires
next-requires c = c.loop-t.invariant.0.good

pub nothing_left-n-requires : goal.nothing_left-n-requires
nothing_left-n-requires c = record { good = c.loop-t.invariant.0.good; c_value = c.in_default.ensures }

pub returns : goal.returns
returns c =
    nested_goes (finish c.loop-t.invariant.0 _ _ _ (at_end _ _ _ _ (value c.args.settings.levels) (λ ts. nothing_left message.missing_value expected.a_value ▹ done ts) c.in_default.ensures refl ∙ first_item _ _ _ _ _ (c.nothing_left-n.ensures _ _ c.loop-t.invariant.0.base) ∙ run_done _ _ _ _ _ _) (omega arith) refl c.loop-t.invariant.0.good)

pub loop-t-smaller : goal.loop-t-smaller
loop-t-smaller c = omega (arith, c.in-Some.ensures.left, c.in-Some.ensures.on)

pub loop-t-preserved : goal.loop-t-preserved
loop-t-preserved c = (again c.loop-t.invariant.0 _ _ _ ((value_at _ _ _ _ c.in-Some.ensures _ _ c.in_value-x.ensures c.in-Equals.is _ _ c.args.settings.levels) ∙ ((first_item _ _ _ _ _ (c.report_at-n.ensures _ _)) ∙ (first_item _ _ _ _ _ (c.emit-n.ensures _ _)))) (omega (arith, c.in-Some.ensures.on)) c.in-Some.ensures.base c.in-Some.ensures.good, (c.emit-n.auto.events) ∙ c.loop-t.invariant.1, (c.report_at-n.auto.errors) ∙ c.loop-t.invariant.2)

pub on_inline_table_open-requires : goal.on_inline_table_open-requires
on_inline_table_open-requires c = c.in-Some.ensures.good

pub returns-in-OpenCurly : goal.returns-in-OpenCurly
returns-in-OpenCurly c = finish_nested c.loop-t.invariant.0 (value_at _ _ _ _ c.in-Some.ensures _ _ c.in_value-x.ensures c.in-OpenCurly.is _ _ c.args.settings.levels) (omega (arith, c.in-Some.ensures.on)) c.in-Some.ensures.base c.on_inline_table_open.ensures

pub on_array_open-requires : goal.on_array_open-requires
on_array_open-requires c = c.in-Some.ensures.good

pub returns-in-OpenSquare : goal.returns-in-OpenSquare
returns-in-OpenSquare c = finish_nested c.loop-t.invariant.0 (value_at _ _ _ _ c.in-Some.ensures _ _ c.in_value-x.ensures c.in-OpenSquare.is _ _ c.args.settings.levels) (omega (arith, c.in-Some.ensures.on)) c.in-Some.ensures.base c.on_array_open.ensures

pub flat_value-w-requires : goal.flat_value-w-requires
flat_value-w-requires c = (c.loop-t.invariant.0.good, c.in-Some.ensures, c.in_value-x.ensures)

pub returns-in_default-x : goal.returns-in_default-x
returns-in_default-x c = nested_goes (finish_by c.loop-t.invariant.0 (value_flat _ _ _ _ c.in-Some.ensures _ c.in_value-x.ensures (among_is c.in_default-x.in_default-x-own.keys4) _ _ c.args.settings.levels) (omega arith) refl c.flat_value-w.ensures)
