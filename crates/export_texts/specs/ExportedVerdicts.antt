-- What the exported verdicts promise. Assumes nothing.
use Rattle.std.specs.Prelude.{◌≡◌, List, ℕ}
use Rattle.judging.specs.declared.verdict.Verdict.{Verdict}
use Rattle.judging.specs.Verdicts.{Judges}
use Rattle.export_texts.specs.declared.judgements.ExportedVerdict.{ExportedVerdict}

-- the verdict that a C structure holds
abbrev pub plain_verdict : ExportedVerdict → Verdict
plain_verdict r = record { fits = r.fits; refusal = r.refusal; place = r.place }

-- the C structure r, with the event buffer behind it, holds the answer of `fits`
abbrev pub ExportsVerdict : List ℕ → ℕ → List ℕ → List ℕ → ExportedVerdict → Type 0
ExportsVerdict s base events after r = Judges s base events after (plain_verdict r)

-- the C structure and the event buffer behind it
pub record ExportedJudgement : Type 0 where
  pub verdict : ExportedVerdict
  pub events : List ℕ

-- two that meet the contract for the same input are equal
abbrev pub ExportedVerdictsDetermined : List ℕ → ℕ → List ℕ → Type 0
ExportedVerdictsDetermined s base events =
    (x y : ExportedJudgement) → ExportsVerdict s base events x.events x.verdict → ExportsVerdict s base events y.events y.verdict → x ≡ y
