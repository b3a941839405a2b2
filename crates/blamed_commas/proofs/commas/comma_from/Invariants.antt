-- Back record by record; what is found from here is what is found from the point.
use Rattle.std.proofs.Common.{◌≤◌}
use Rattle.blamed_commas.specs.CommaLaws.{Back}
use Rattle.blamed_commas.proofs.commas.comma_from.Given as goal

abbrev pub invariant-loop-i : goal.invariant-loop-i
invariant-loop-i l = record { back : Back l.s l.fn.p.cur.base l.upto l.i l.end l.line; low : l.before.upto ≤ l.i }
