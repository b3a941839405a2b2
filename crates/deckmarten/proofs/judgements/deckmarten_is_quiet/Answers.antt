-- The answer is the one that the C structure holds.
use mathlib.Core.Path.{◌≡◌, subst}
use mathlib.Core.Bool.{true}
use mathlib.Core.Logic.{◌↔◌}
use Rattle.rules.specs.declared.answer.Answer.{Answer}
use Rattle.quiet.specs.Runs.{QuietAnswer}
use Rattle.deckmarten.proofs.judgements.deckmarten_is_quiet.Goals as goal

pub returns : goal.returns
returns c = subst (λ (a : Answer). (c.is_quiet.result ≡ true) ↔ QuietAnswer a c.args.events.now) c.from.ensures c.is_quiet.ensures
