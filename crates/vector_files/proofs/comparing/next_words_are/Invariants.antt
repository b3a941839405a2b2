-- A part has at most so many words as the bytes have room for. Assumes nothing.
use Rattle.std.proofs.Common.{◌≡◌}
use Rattle.vector_files.proofs.comparing.next_words_are.Given as goal

abbrev pub invariant-loop-part : goal.invariant-loop-part
invariant-loop-part g l =
    (goal.iterator-loop-part g).can_next l.part-iterator ×
    (goal.iterator-loop-part g).is_finite l.part-iterator ×
    (l.part-iterator.size ≡ 4096)
