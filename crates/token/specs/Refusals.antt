-- The numbers of the refusals, as a caller gets them. Assumes nothing.
use Rattle.std.specs.Prelude.{ℕ}
use Rattle.token.specs.declared.refusal.Refusal.{Refusal}

abbrev pub refusal_number : Refusal → ℕ
refusal_number Refusal.PartialRecord = 1
refusal_number Refusal.Records = 2
refusal_number Refusal.Kind = 3
refusal_number Refusal.Length = 4
refusal_number Refusal.Bytes = 5
refusal_number Refusal.Depth = 6
refusal_number Refusal.Events = 7
refusal_number Refusal.Errors = 8
refusal_number Refusal.TextTooLong = 9
refusal_number Refusal.NotUtf8 = 10
refusal_number Refusal.Tokens = 11
refusal_number Refusal.NotQuiet = 12
refusal_number Refusal.Index = 13
refusal_number Refusal.Mistakes = 14
refusal_number Refusal.Mode = 15
