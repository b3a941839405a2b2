-- What is promised of the verdict over a run that was made: it is the answer of `fits`. Assumes nothing.
use Rattle.std.specs.Prelude.{ℕ, ◌≡◌, List, [], length}
use Rattle.rules.specs.declared.answer.Answer.{Answer}
use Rattle.rules.specs.Answer.{as_crate}
use Rattle.fitting.specs.Premises.{document_run}
use Rattle.judging.specs.declared.verdict.Verdict.{Verdict}
use Rattle.judging.specs.Verdicts.{Judges}

-- over any run that left this answer and `after`, whatever it left of the error words, v is what `fits` answers
abbrev pub JudgesRun : List ℕ → ℕ → Answer → List ℕ → Verdict → Type 0
JudgesRun s base answer after v =
    (events errors : List ℕ) → length after ≡ length events → record { answer = answer; events = after; errors = errors } ≡ document_run as_crate s base events [] → Judges s base events after v
