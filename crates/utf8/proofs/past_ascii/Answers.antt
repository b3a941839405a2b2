-- A byte a turn, behind the thirty-twos.
use Rattle.std.proofs.Common.{sym, ◌∙◌}
use Rattle.utf8_sequences.specs.Utf8Laws.{ascii_passed}
use Rattle.utf8.proofs.past_ascii.Goals as goal

pub loop-i-init : goal.loop-i-init
loop-i-init c = c.past_ascii_by_thirty_two-i.ensures

pub loop-i-preserved : goal.loop-i-preserved
loop-i-preserved c = ascii_passed c.loop-i.invariant c.loop-i-test.true (sym c.is_ascii.ensures ∙ c.if-not-is_ascii.false)

pub returns-then-not-is_ascii : goal.returns-then-not-is_ascii
returns-then-not-is_ascii c = c.loop-i.invariant

pub returns : goal.returns
returns c = c.loop-i.invariant
