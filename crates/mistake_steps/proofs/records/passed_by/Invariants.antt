-- Past the records that go before.
use Rattle.std.proofs.Common.{◌/◌, length}
use Rattle.rules.specs.Answer.{error_size}
use Rattle.mistake_steps.proofs.RecordLaws.{Passing}
use Rattle.mistake_steps.proofs.records.passed_by.Given as goal

abbrev pub invariant-loop-j : goal.invariant-loop-j
invariant-loop-j l = Passing (length l.errors / error_size) l.errors l.r l.p l.j
