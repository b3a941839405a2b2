-- By the test.
use Rattle.std.proofs.Common.{arith}
use Rattle.blamed_commas.specs.CommaLaws.{none_known}
use Rattle.blamed_commas.proofs.commas.not_later.Goals as goal

pub returns-then-upto-known : goal.returns-then-upto-known
returns-then-upto-known c = (λ s base k. none_known s base _ c.no_comma.ensures, omega arith)
