-- What is refused, then what is skipped.
use Rattle.rules.specs.Out.{span}
use Rattle.rules.specs.Messages as message
use Rattle.rules.specs.InlineTable.{refused}
use Rattle.inline_steps.proofs.StepLaws.{after_items}
use Rattle.inline_steps.proofs.keyless_table.Goals as goal

pub returns : goal.returns
returns c = after_items (refused message.missing_key_in_inline_table c.args.p.state (span c.args.head.start c.args.head.end) c.args.t.start c.args.t.end) _ (λ all. c.refuse-n.ensures all) c.ignore_to_value_close.ensures
