-- ASCII bytes, or a longer sequence.
use Rattle.std.proofs.Common.{sym, ◌∙◌}
use native.Mathlib.Omega.{arith}
use Rattle.utf8_sequences.specs.Utf8Laws.{ascii_is, step_ascii, step_some, some_within}
use Rattle.utf8.proofs.step.Goals as goal

pub past_ascii-requires : goal.past_ascii-requires
past_ascii-requires c = omega (arith, c.requires)

pub returns-then-is_ascii : goal.returns-then-is_ascii
returns-then-is_ascii c = step_ascii c.args.text.now c.args.at c.requires _ (sym (ascii_is _) ∙ sym c.is_ascii.ensures ∙ c.if-is_ascii.true) c.past_ascii.ensures

pub overflow_add-result : goal.overflow_add-result
overflow_add-result c = omega (arith, some_within c.args.text.now c.args.at c.requires _ c.sequence_at.ensures, c.ranges)

pub returns-else-is_ascii : goal.returns-else-is_ascii
returns-else-is_ascii c = step_some c.args.text.now c.args.at c.requires _ c.sequence_at.ensures
