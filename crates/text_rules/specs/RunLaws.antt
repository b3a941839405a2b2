-- Laws of the run over a text: refused as the lexer refused it, else the document entry's run on the records that the lexer left. Proved;
-- nothing here needs to be believed.
use Rattle.std.specs.Prelude.{◌≡◌, Bool, true, false, List, ℕ, ◌*◌, ◌≤◌, length, take, eqb, Ok}
use Rattle.std.proofs.Math.Path.{ap}
use Rattle.std.proofs.Common.{sym, subst, ◌∙◌, arith, eq-eqb, ne_eqb}
use Rattle.token.specs.Limits.{max_records}
use Rattle.token.specs.Tokens.{all_tokens}
use Rattle.token.specs.Check.{checked}
use Rattle.rules.specs.Answer.{Outcome}
use Rattle.fitting.specs.Quiet.{QuietRun}
use Rattle.rules.specs.declared.options.Options.{Options}
use Rattle.fitting.specs.Premises.{Regular, document_run}
use Rattle.lex.specs.declared.Lexed.{Lexed}
use Rattle.scan.specs.Lexer.{tokens_of}
use Rattle.lex.specs.Lexed.{LexOutcome, lex_outcome}
use Rattle.text_rules.specs.TextOutcome.{text_outcome, text_run, records_left, reading, reading_by}
use Rattle.text_rules.specs.TextPremises.{WithinLimits, RecordRoom}
use Rattle.text_rules.specs.LexedLaws.{lexed_when, lexed_count, lexed_tokens, lexed_passes}
use Rattle.text_rules.specs.RegularLaws.{text_regular}

-- what the lexer answered, with the record buffer after it
module _ (text records events errors : List ℕ) (r : Lexed) (after : List ℕ) (e : record { answer = r; buffer = after } ≡ lex_outcome text records) where
  run_by : (options : Options) (b : Bool) → eqb r.refusal 0 ≡ b → text_run options text records events errors ≡ reading_by options b (record { answer = r; buffer = after }) events errors
  unfolding text_outcome
  run_by options b q =
      ap (λ (x : LexOutcome). reading options x events errors) (sym e)
      ∙ ap (λ (x : Bool). reading_by options x (record { answer = r; buffer = after }) events errors) q

  pub base_is : (options : Options) → r.base ≡ (text_outcome options text records events errors).answer.base
  unfolding text_outcome
  base_is options = ap (λ (x : LexOutcome). x.answer.base) e

  pub buffer_is : (options : Options) → after ≡ (text_outcome options text records events errors).records
  unfolding text_outcome
  buffer_is options = ap (λ (x : LexOutcome). x.buffer) e

  -- a text that was refused
  module _ (h : r.refusal ≡ 0 → ⊥) where
    pub run_refused : (options : Options) → text_run options text records events errors ≡ record { answer = record { refusal = r.refusal; place = r.place; events = 0; errors = 0 }; events = events; errors = errors }
    run_refused options = run_by options false (ne_eqb _ _ h)

    pub refused_loud : (options : Options) → QuietRun (text_run options text records events errors) → ⊥
    refused_loud options q = h (ap (λ (o : Outcome). o.answer.refusal) (sym (run_refused options)) ∙ q.accepted)

    pub refused_beyond : WithinLimits text → RecordRoom text records → ⊥
    refused_beyond x room = h (ap (λ (y : LexOutcome). y.answer.refusal) (e ∙ lexed_when text records x.short x.formed room))

  -- a text that was lexed
  module _ (z : r.refusal ≡ 0) where
    abbrev bytes : List ℕ
    bytes = take (6 * r.records) after

    pub refusal_none : (lex_outcome text records).answer.refusal ≡ 0
    refusal_none = ap (λ (x : LexOutcome). x.answer.refusal) (sym e) ∙ z

    pub run_is : (options : Options) → text_run options text records events errors ≡ document_run options bytes r.base events errors
    run_is options = run_by options true (eq-eqb _ _ z)

    pub tokens_are : all_tokens bytes r.base ≡ tokens_of text
    tokens_are = ap (λ (x : LexOutcome). all_tokens (records_left x) x.answer.base) e ∙ lexed_tokens text records refusal_none

    pub regular_are : Regular (all_tokens bytes r.base)
    regular_are = subst Regular (sym tokens_are) (text_regular text)

    pub few_pass : length (tokens_of text) ≤ max_records → checked bytes r.base ≡ Ok tt
    few_pass few =
        let h : (lex_outcome text records).answer.records ≤ max_records = omega (arith, lexed_count text records refusal_none, few) in
        ap (λ (y : LexOutcome). checked (records_left y) y.answer.base) e ∙ lexed_passes text records refusal_none h
