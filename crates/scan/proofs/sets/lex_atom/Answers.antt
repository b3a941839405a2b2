-- The first byte of the set.
use Rattle.std.proofs.Common.{rules}
use Rattle.places.specs.PlaceLaws.{begun}
use Rattle.scan.specs.Lexer.{ends_atom}
use Rattle.scan.specs.ScanLaws.{until_found}
use Rattle.scan.proofs.sets.lex_atom.Goals as goal

pub returns : goal.returns
returns c = until_found ends_atom (begun c.requires) (c.until.ensures ends_atom (λ b r h k. search rules))
