-- Words that are written one after the other are those in the place of as many.
use Rattle.std.proofs.Common.{◌*◌, arith}
use Rattle.std.proofs.lemmas.Grind.{common_steps}
use Rattle.std.proofs.lemmas.List.Edits.{sets-eq}
use Rattle.buffer_puts.proofs.write.Goals as goal

pub returns : goal.returns
returns g c = grind (arith, common_steps, sets-eq c.args.words c.args.buffer.now (c.args.i * g.row.W))
