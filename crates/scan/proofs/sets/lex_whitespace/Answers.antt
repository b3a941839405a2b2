-- The first byte of the set.
use Rattle.std.proofs.Common.{rules}
use Rattle.places.specs.PlaceLaws.{begun}
use Rattle.scan.specs.Lexer.{ends_whitespace}
use Rattle.scan.specs.ScanLaws.{until_found}
use Rattle.scan.proofs.sets.lex_whitespace.Goals as goal

pub returns : goal.returns
returns c = until_found ends_whitespace (begun c.requires) (c.until.ensures ends_whitespace (λ b r h k. search rules))
