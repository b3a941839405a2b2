-- The report, where there is one, then the close.
use Rattle.rules.specs.Out.{span}
use Rattle.rules.specs.Receiver as receiver
use Rattle.rules.specs.InlineTable.{trailing}
use Rattle.output.specs.Pour.{bufs}
use Rattle.inline_steps.proofs.StepLaws.{then_item}
use Rattle.inline_steps.proofs.close.Goals as goal

pub returns : goal.returns
returns c =
    λ all behind left e q. then_item all (trailing c.args.p.empty c.args.p.state (span c.args.head.start c.args.head.end) behind c.args.t.start left) (receiver.inline_table_close c.args.t.start c.args.t.end) (bufs c.args.events.now c.args.errors.now c.args.m) _ _ (c.trailing_comma-n.ensures all _ behind left e q) (c.emit.ensures all _)
