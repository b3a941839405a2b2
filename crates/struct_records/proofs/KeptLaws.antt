-- What is read from the records of structs is what the structs hold. Proved; nothing here needs to be believed.
use mathlib.Core.Path.{◌≡◌, ◌∙◌}
use mathlib.Core.List.{List, [], ◌∷◌, ◌++◌}
use Prim.Native.Nat.{◌<◌, ◌^◌}
use lib.ListN.{length}
use Rattle.token.specs.Records.{length_at, kind_number_at}
use Rattle.token.specs.ReadingLaws.{first_length, first_kind_lem, length_behind, kind_behind}
use Rattle.struct_records.specs.declared.Token.{Token}
use Rattle.struct_records.specs.Structs.{records_of, KindsAndLengthsKept}
use Rattle.struct_records.proofs.StructLaws.{length_records}

lengths_kept : (before : List Token) (t : Token) (behind : List Token) → t.length < 2 ^ 32 → length_at (records_of (before ++ (t ∷ behind))) (length before) ≡ t.length
unfolding records_of
lengths_kept [] t behind l = first_length t.length t.kind (records_of behind) l
lengths_kept (y ∷ ys) t behind l = length_behind y.length y.kind (records_of (ys ++ (t ∷ behind))) (length ys) ∙ lengths_kept ys t behind l

kinds_kept : (before : List Token) (t : Token) (behind : List Token) → t.kind < 2 ^ 16 → kind_number_at (records_of (before ++ (t ∷ behind))) (length before) ≡ t.kind
unfolding records_of
kinds_kept [] t behind k = first_kind_lem t.length t.kind (records_of behind) k
kinds_kept (y ∷ ys) t behind k = kind_behind y.length y.kind (records_of (ys ++ (t ∷ behind))) (length ys) ∙ kinds_kept ys t behind k

pub kept : KindsAndLengthsKept
kept = record { records = length_records; lengths = lengths_kept; kinds = kinds_kept }
