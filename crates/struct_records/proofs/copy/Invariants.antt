-- What the loop is to leave from here is what it was to leave from the start.
use Rattle.std.proofs.Common.{◌≡◌, length}
use Rattle.struct_records.proofs.StructLaws.{Copied}
use Rattle.struct_records.proofs.copy.Given as goal

abbrev pub invariant-loop-i : goal.invariant-loop-i
invariant-loop-i l = record {
  same : Copied l.tokens l.i l.records ≡ Copied l.tokens 0 l.initial.records;
  kept : length l.records ≡ length l.initial.records;
}
