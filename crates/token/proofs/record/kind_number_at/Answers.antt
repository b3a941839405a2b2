-- The number of the kind is the sum that the layout page has.
use Prim.Native.Nat.{◌+◌, ◌*◌}
use Rattle.token.specs.Records.{kind_number_at}
use Rattle.token.proofs.record.kind_number_at.Goals as goal

pub returns : goal.returns
unfolding kind_number_at
returns c = λ j. c.wide.ensures.0 j + c.wide-2.ensures.0 j * 256
