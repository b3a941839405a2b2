-- As `fits`, with what is known of the list in place of what is asked of it.
use Rattle.verdicts.proofs.known.judge.Goals as goal

pub read_document-answer-requires : goal.read_document-answer-requires
read_document-answer-requires c = c.requires.base_value

pub judge_run-requires : goal.judge_run-requires
judge_run-requires c = λ e. c.requires.regular

pub returns : goal.returns
returns c = c.judge_run.ensures c.args.events.now _ c.read_document-answer.auto.events c.read_document-answer.ensures
