-- Laws of the joined entry's outcome: by what the lexer left. Proved; nothing here needs to be believed.
use Rattle.std.specs.Prelude.{◌≡◌, refl, Bool, true, false, List, ℕ, ◌+◌, ◌*◌, ◌<◌, ◌≤◌, length, take, eqb, Ok}
use Rattle.std.proofs.Math.Path.{ap}
use Rattle.std.proofs.Common.{sym, subst, ◌∙◌, eq-eqb, ne_eqb}
use Rattle.token.specs.declared.refusal.Refusal.{Refusal}
use Rattle.token.specs.Limits.{max_records, max_end}
use Rattle.token.specs.Check.{checked, Checked, refused_for}
use Rattle.rules.specs.declared.answer.Answer.{Answer}
use Rattle.rules.specs.Entries.{document_entry}
use Rattle.rules.specs.declared.options.Options.{Options}
use Rattle.rules.specs.Answer.{Outcome, outcome, outcome_by}
use Rattle.lex.specs.declared.Lexed.{Lexed}
use Rattle.lex.specs.Lexed.{LexOutcome, lex_outcome}
use Rattle.text_rules.specs.TextOutcome.{text_outcome, records_left, reading_by, reading, lexed_and_read}
use Rattle.text_rules.specs.LexedLaws.{lexed_room, lexed_few, lexed_passes, lexed_many}

-- a list that has too many records is not read
too_many_lem : (options : Options) (s : List ℕ) (base : ℕ) (events errors : List ℕ) → checked s base ≡ refused_for Refusal.Records max_records
    → outcome options document_entry s base events errors ≡ record { answer = record { refusal = 2; place = max_records; events = 0; errors = 0 }; events = events; errors = errors }
unfolding outcome
too_many_lem options s base events errors e = ap (λ (c : Checked). outcome_by c options document_entry s base events errors) e

-- what the lexer answered, with the record buffer after it
module _ (text records events errors : List ℕ) (r : Lexed) (after : List ℕ) (e : record { answer = r; buffer = after } ≡ lex_outcome text records) where
  abbrev lexed : LexOutcome
  lexed = record { answer = r; buffer = after }

  as_read : (options : Options) (b : Bool) (o : Outcome) → eqb r.refusal 0 ≡ b → o ≡ reading_by options b lexed events errors → lexed_and_read lexed o ≡ text_outcome options text records events errors
  unfolding text_outcome
  as_read options b o q p =
      ap (lexed_and_read lexed) (p ∙ ap (λ (x : Bool). reading_by options x lexed events errors) (sym q))
      ∙ ap (λ (x : LexOutcome). lexed_and_read x (reading options x events errors)) e

  -- a text that was refused
  pub text_refused : (options : Options) → (r.refusal ≡ 0 → ⊥)
      → record { answer = record { refusal = r.refusal; place = r.place; base = r.base; records = r.records; events = 0; errors = 0 }; records = after; events = events; errors = errors }
      ≡ text_outcome options text records events errors
  text_refused options h = as_read options false _ (ne_eqb _ _ h) refl

  module _ (z : r.refusal ≡ 0) where
    zero_is : (lex_outcome text records).answer.refusal ≡ 0
    zero_is = ap (λ (x : LexOutcome). x.answer.refusal) (sym e) ∙ z

    -- its records are within the buffer
    pub text_room : 6 * r.records ≤ length after
    text_room = subst (λ (x : LexOutcome). 6 * x.answer.records ≤ length x.buffer) (sym e) (lexed_room text records zero_is)

    pub text_few : r.records ≤ max_end + 1
    text_few = subst (λ (x : LexOutcome). x.answer.records ≤ max_end + 1) (sym e) (lexed_few text records zero_is)

    -- and pass, unless they are too many
    pub text_passes : r.records ≤ max_records → checked (take (6 * r.records) after) r.base ≡ Ok tt
    text_passes few =
        subst (λ (x : LexOutcome). x.answer.records ≤ max_records → checked (records_left x) x.answer.base ≡ Ok tt) (sym e) (lexed_passes text records zero_is) few

    pub text_many : (options : Options) → max_records < r.records
        → record { answer = record { refusal = 2; place = max_records; base = r.base; records = r.records; events = 0; errors = 0 }; records = after; events = events; errors = errors }
        ≡ text_outcome options text records events errors
    text_many options many =
        let c = subst (λ (x : LexOutcome). max_records < x.answer.records → checked (records_left x) x.answer.base ≡ refused_for Refusal.Records max_records) (sym e) (lexed_many text records zero_is) many in
        as_read options true _ (eq-eqb _ _ z) (sym (too_many_lem options (take (6 * r.records) after) r.base events errors c))

    -- then the answer is the document entry's
    pub text_read : (options : Options) (a : Answer) (events' errors' : List ℕ) → record { answer = a; events = events'; errors = errors' } ≡ outcome options document_entry (take (6 * r.records) after) r.base events errors
        → record { answer = record { refusal = a.refusal; place = a.place; base = r.base; records = r.records; events = a.events; errors = a.errors }; records = after; events = events'; errors = errors' }
        ≡ text_outcome options text records events errors
    text_read options a events' errors' p = as_read options true _ (eq-eqb _ _ z) p
