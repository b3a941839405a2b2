-- From a verdict to the C structure that holds it. Proved; nothing here needs to be believed.
use Rattle.std.specs.Prelude.{◌≡◌, List, ℕ}
use Rattle.std.proofs.Common.{sym, subst}
use Rattle.judging.specs.declared.verdict.Verdict.{Verdict}
use Rattle.judging.specs.Verdicts.{Judges}
use Rattle.export_texts.specs.declared.judgements.ExportedVerdict.{ExportedVerdict}
use Rattle.export_texts.specs.ExportedVerdicts.{plain_verdict, ExportsVerdict}

pub exports_verdict : (s : List ℕ) (base : ℕ) (events after : List ℕ) (v : Verdict) (e : ExportedVerdict) → plain_verdict e ≡ v → Judges s base events after v → ExportsVerdict s base events after e
exports_verdict s base events after v e p j = subst (λ (x : Verdict). Judges s base events after x) (sym p) j
