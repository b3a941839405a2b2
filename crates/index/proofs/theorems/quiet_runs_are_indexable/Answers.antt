-- The run compared with itself: each event stands above a token of its own.
use Rattle.index.proofs.RunLaws.{quiet_indexable}
use Rattle.index.proofs.theorems.quiet_runs_are_indexable.Goals as goal

pub returns : goal.returns
returns c = λ options. quiet_indexable options c.args.s.now c.args.base c.args.events.now c.args.errors.now (c.quiet_events_determine_tokens.ensures options options)
