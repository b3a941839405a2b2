-- What the proof of exported_verdicts_are_determined goes by. Proved; nothing here needs to be believed.
use Rattle.judging.specs.Verdicts.{Judgement}
use Rattle.export_texts.specs.ExportedVerdicts.{plain_verdict, ExportedJudgement}

unfoldable pub held : ExportedJudgement → Judgement
held x = record { verdict = plain_verdict x.verdict; events = x.events }

unfoldable pub from_held : Judgement → ExportedJudgement
from_held j = record { verdict = record { fits = j.verdict.fits; refusal = j.verdict.refusal; place = j.verdict.place }; events = j.events }
