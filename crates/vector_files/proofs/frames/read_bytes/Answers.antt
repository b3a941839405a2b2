-- The bytes that were read are whole words, of which the first are given. Assumes nothing.
use Rattle.std.proofs.Common.{◌≡◌, ◌∙◌, ap, ◌%◌, length, arith}
use Rattle.std.proofs.lemmas.List.{length-take-le}
use Rattle.vector_files.proofs.Padding.{padded}
use Rattle.vector_files.proofs.frames.read_bytes.Goals as goal

pub returns-clause-bytes : goal.returns-clause-bytes
returns-clause-bytes g c =
    let whole : length c.read_exact.new.buf ≡ c.next_multiple_of-count.result = c.read_exact.auto.buf ∙ length-take-le _ _ (omega arith) in
    padded _ _ c.read_exact.new.buf c.args.bytes (omega (arith, whole)) (omega (arith, whole))
    (ap (λ k. k % 4) whole ∙ c.next_multiple_of-count.ensures.multiple) c.in_ok-read_exact.ensures.bytes
