-- Laws of what the entries from a text begin with. Proved; nothing here needs to be believed.
use Rattle.std.specs.Prelude.{◌≡◌, List, ℕ, ◌≤◌, Result, Ok, Err}
use Rattle.std.proofs.Common.{ap, sym, subst, ◌∙◌}
use Rattle.token.specs.Limits.{max_records}
use Rattle.rules.specs.declared.options.Options.{Options}
use Rattle.judging.specs.declared.verdict.Verdict.{Verdict}
use Rattle.lex.specs.declared.Lexed.{Lexed}
use Rattle.lex.specs.Lexed.{lex_outcome}
use Rattle.text_rules.specs.declared.answer.TextAnswer.{TextAnswer}
use Rattle.text_rules.specs.TextOutcome.{TextAnswers}
use Rattle.text_steps.specs.TextVerdicts.{JudgesText}
use Rattle.text_steps.specs.Begun.{Readable, BeginsText, BeginsVerdict}

-- by what the lexer answered
pub readable : {text records after : List ℕ} {r : Lexed} → record { answer = r; buffer = after } ≡ lex_outcome text records → r.refusal ≡ 0 → r.records ≤ max_records → Readable text records after r.base r.records
readable {text} {records} {after} {r} e z h =
    record {
      place = r.place;
      lexed = ap (λ (n : ℕ). record { answer = record { refusal = n; place = r.place; base = r.base; records = r.records }; buffer = after }) (sym z) ∙ e;
      few = h;
    }

-- by the case that it is
module _ (text records after : List ℕ) {b : Result (ℕ × ℕ) TextAnswer} (x : BeginsText text records after b) where
  pub text_not_read : {r : TextAnswer} → b ≡ Err r → (options : Options) (events errors : List ℕ) → TextAnswers options text records events errors after events errors r
  text_not_read e = subst (BeginsText text records after) e x

  pub text_to_read : {base count : ℕ} → b ≡ Ok (base, count) → Readable text records after base count
  text_to_read e = subst (BeginsText text records after) e x

module _ (text records after : List ℕ) {b : Result (ℕ × ℕ) Verdict} (x : BeginsVerdict text records after b) where
  pub text_not_judged : {v : Verdict} → b ≡ Err v → (events : List ℕ) → JudgesText text records events after events v
  text_not_judged e = subst (BeginsVerdict text records after) e x

  pub text_to_judge : {base count : ℕ} → b ≡ Ok (base, count) → Readable text records after base count
  text_to_judge e = subst (BeginsVerdict text records after) e x
