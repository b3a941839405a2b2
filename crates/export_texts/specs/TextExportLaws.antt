-- From an answer to the C structure that holds it, for the functions over texts. Proved; nothing here needs to be believed.
use Rattle.std.specs.Prelude.{◌≡◌, List, ℕ, Option, Some, None}
use Rattle.std.proofs.Common.{ap, sym, subst, ◌∙◌}
use Rattle.lex.specs.declared.Lexed.{Lexed}
use Rattle.lex.specs.Lexed.{lex_outcome}
use Rattle.text_rules.specs.declared.answer.TextAnswer.{TextAnswer}
use Rattle.text_rules.specs.TextOutcome.{TextAnswers}
use Rattle.rules.specs.declared.options.Options.{Options}
use Rattle.choices.specs.Modes.{chosen_by}
use Rattle.judging.specs.declared.verdict.Verdict.{Verdict}
use Rattle.text_steps.specs.TextVerdicts.{JudgesText}
use Rattle.export_texts.specs.declared.judgements.ExportedVerdict.{ExportedVerdict}
use Rattle.export_texts.specs.ExportedVerdicts.{plain_verdict}
use Rattle.export_texts.specs.declared.text.ExportedLexed.{ExportedLexed}
use Rattle.export_texts.specs.declared.text.ExportedTextAnswer.{ExportedTextAnswer}
use Rattle.export_texts.specs.ExportedTexts.{plain_lexed, plain_text, text_outcome_of, ExportsLexed, ExportsText, ExportsTextVerdict}

pub exports_lexed : (text records after : List ℕ) (r : Lexed) (e : ExportedLexed) → plain_lexed e ≡ r → record { answer = r; buffer = after } ≡ lex_outcome text records → ExportsLexed text records after e
exports_lexed text records after r e p q = ap (λ (z : Lexed). record { answer = z; buffer = after }) p ∙ q

-- by what was chosen
module _ (mode : ℕ) (text records events errors : List ℕ) (x : Option Options) (c : x ≡ chosen_by mode) where
  pub exports_text : (options : Options) (a b d : List ℕ) (r : TextAnswer) (e : ExportedTextAnswer) → x ≡ Some options → plain_text e ≡ r → TextAnswers options text records events errors a b d r → ExportsText mode text records events errors a b d e
  exports_text options a b d r e k p q = ap (λ (z : TextAnswer). record { answer = z; records = a; events = b; errors = d }) p ∙ q ∙ ap (λ (y : Option Options). text_outcome_of y text records events errors) (sym k ∙ c)

  pub exports_unknown : (e : ExportedTextAnswer) → x ≡ None → plain_text e ≡ record { refusal = 15; place = 0; base = 0; records = 0; events = 0; errors = 0 } → ExportsText mode text records events errors records events errors e
  exports_unknown e k p = ap (λ (z : TextAnswer). record { answer = z; records = records; events = events; errors = errors }) p ∙ ap (λ (y : Option Options). text_outcome_of y text records events errors) (sym k ∙ c)

pub exports_text_verdict : (text records events a b : List ℕ) (v : Verdict) (e : ExportedVerdict) → plain_verdict e ≡ v → JudgesText text records events a b v → ExportsTextVerdict text records events a b e
exports_text_verdict text records events a b v e p j = subst (λ (x : Verdict). JudgesText text records events a b x) (sym p) j
