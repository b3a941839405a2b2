-- Too many structs are refused; else their records have room.
use Rattle.std.proofs.Common.{sym, ◌∙◌}
use Rattle.struct_records.proofs.StructLaws.{too_many_lem}
use Rattle.structs.proofs.parse_tokens.Goals as goal
use borrow.Author.Tests.{ltb-true}

pub returns-then-is_too_many : goal.returns-then-is_too_many
returns-then-is_too_many c = too_many_lem c.args.mode c.args.tokens.now c.args.base c.args.events.now c.args.errors.now _ (ltb-true _ _ (sym c.is_too_many.ensures ∙ c.if-is_too_many.true)) c.too_many.ensures
