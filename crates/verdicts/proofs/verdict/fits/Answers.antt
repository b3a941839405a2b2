-- What the run left is judged; nothing is known of the list before.
use mathlib.Core.Bool.{false≢true}
use Rattle.verdicts.proofs.verdict.fits.Goals as goal

pub judge_run-requires : goal.judge_run-requires
judge_run-requires c = λ e. absurd (false≢true e)

pub returns : goal.returns
returns c = c.judge_run.ensures c.args.events.now _ c.parse_document-answer.auto.events c.parse_document-answer.ensures
