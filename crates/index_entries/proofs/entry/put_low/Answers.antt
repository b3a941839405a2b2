-- The bytes are copied over a part of the buffer.
use Rattle.std.proofs.Common.{List, ℕ, take, ap, ◌∙◌, arith}
use Rattle.std.specs.Int.{w64, to_le_bytes}
use lib.Seq.{length-take-le}
use Rattle.index_entries.proofs.PlacedLaws.{copied}
use Rattle.index_entries.proofs.entry.put_low.Goals as goal

pub returns : goal.returns
returns g c =
    let low = length-take-le g.row.N (to_le_bytes w64 c.args.n) c.requires.few in
    copied c.args.at _ _ _ c.args.index.now (c.copy_from_slice.ensures.after ∙ ap (λ (bytes : List ℕ). take g.row.N bytes) c.to_le_bytes.ensures) (omega (arith, low))
