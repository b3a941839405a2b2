-- Past plain bytes, then the first byte of the set.
use Rattle.std.proofs.Common.{rules}
use Rattle.places.specs.PlaceLaws.{passed_still}
use Rattle.scan.specs.Lexer.{ends_comment}
use Rattle.scan.specs.ScanLaws.{comment_passes, until_found}
use Rattle.scan.proofs.sets.lex_comment.Goals as goal

pub returns : goal.returns
returns c = until_found ends_comment (passed_still comment_passes c.past_plain_if_first-rest.ensures) (c.until.ensures ends_comment (λ b r h k. search rules))
