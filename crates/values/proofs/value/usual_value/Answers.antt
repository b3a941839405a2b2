-- An opening or a scalar is walked at once; else all that a value may be.
use mathlib.Core.Path.{sym}
use Rattle.output.specs.WalkLaws.{told, goes_as, goes_past}
use Rattle.nest.specs.NestedLaws.{nested_goes, nested_as, nested_past}
use Rattle.flat_values.specs.FlatLaws.{value_starts}
use Rattle.values.proofs.ValueLaws.{value_is}
use Rattle.values.proofs.value.usual_value.Goals as goal

pub next-requires : goal.next-requires
next-requires c = c.requires

pub on_inline_table_open-requires : goal.on_inline_table_open-requires
on_inline_table_open-requires c = c.in-Some.ensures.good

pub returns-in-OpenCurly : goal.returns-in-OpenCurly
returns-in-OpenCurly c = nested_as (sym (value_is _ _ _ _ c.in-Some.ensures _ _ c.in_value.ensures c.in-OpenCurly.is c.args.settings.levels)) (nested_past c.in-Some.ensures c.on_inline_table_open.ensures)

pub on_array_open-requires : goal.on_array_open-requires
on_array_open-requires c = c.in-Some.ensures.good

pub returns-in-OpenSquare : goal.returns-in-OpenSquare
returns-in-OpenSquare c = nested_as (sym (value_is _ _ _ _ c.in-Some.ensures _ _ c.in_value.ensures c.in-OpenSquare.is c.args.settings.levels)) (nested_past c.in-Some.ensures c.on_array_open.ensures)

pub on_scalar-w-requires : goal.on_scalar-w-requires
on_scalar-w-requires c = record { good = c.in-Some.ensures.good; starts = value_starts c.in-Some.t.kind _ c.in_value.ensures c.in-Scalar.is }

pub returns-in-Scalar : goal.returns-in-Scalar
returns-in-Scalar c = nested_goes (goes_as (sym (value_is _ _ _ _ c.in-Some.ensures _ _ c.in_value.ensures c.in-Scalar.is c.args.settings.levels)) (goes_past c.in-Some.ensures c.on_scalar-w.ensures))

pub value-requires : goal.value-requires
value-requires c = c.requires

pub returns : goal.returns
returns c = c.value.ensures
