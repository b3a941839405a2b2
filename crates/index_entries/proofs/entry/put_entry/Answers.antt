-- The six fields are the entry.
use Rattle.std.proofs.Common.{◌∙◌, arith}
use Rattle.index_entries.proofs.PlacedLaws.{entry_placed, mark_low}
use Rattle.index_entries.proofs.entry.put_entry.Goals as goal

pub returns : goal.returns
returns c =
    c.put_low-6.ensures
    ∙ rw (c.put_low-5.ensures, c.put_low-4.ensures, c.put_low-3.ensures, c.put_low-2.ensures, c.put_low.ensures, c.from.ensures, mark_low c.args.header.array)
    (entry_placed c.args.header c.args.at c.args.index.now (omega arith))
