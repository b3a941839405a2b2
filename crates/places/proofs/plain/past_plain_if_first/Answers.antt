-- None, or those that are passed.
use Rattle.places.specs.PlaceLaws.{passed_none}
use Rattle.places.proofs.plain.past_plain_if_first.Goals as goal

pub returns-then-place_of-eq0 : goal.returns-then-place_of-eq0
returns-then-place_of-eq0 c = passed_none c.requires

pub past_plain-requires : goal.past_plain-requires
past_plain-requires c = c.requires

pub returns : goal.returns
returns c = c.past_plain.ensures
