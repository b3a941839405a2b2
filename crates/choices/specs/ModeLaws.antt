-- Laws of modes by their numbers. Proved; nothing here needs to be believed.
use Rattle.std.specs.Prelude.{◌≡◌, List, ℕ, Option, Some, None}
use Rattle.std.proofs.Common.{ap, sym, ◌∙◌}
use Rattle.rules.specs.declared.answer.Answer.{Answer}
use Rattle.rules.specs.declared.options.Options.{Options}
use Rattle.rules.specs.Entries.{Entry}
use Rattle.rules.specs.Answer.{outcome}
use Rattle.choices.specs.Modes.{chosen_by, unknown_mode, outcome_of, AnswersIn}

-- by what was chosen
module _ (mode : ℕ) (entry : Entry) (s : List ℕ) (base : ℕ) (events errors : List ℕ) (x : Option Options) (c : x ≡ chosen_by mode) where
  pub known_answers : (options : Options) (a b : List ℕ) (r : Answer) → x ≡ Some options → record { answer = r; events = a; errors = b } ≡ outcome options entry s base events errors → AnswersIn mode entry s base events errors a b r
  known_answers options a b r e q = q ∙ ap (λ (y : Option Options). outcome_of y entry s base events errors) (sym e ∙ c)

  pub unknown_answers : (r : Answer) → x ≡ None → r ≡ unknown_mode → AnswersIn mode entry s base events errors events errors r
  unknown_answers r e q = ap (λ (z : Answer). record { answer = z; events = events; errors = errors }) q ∙ ap (λ (y : Option Options). outcome_of y entry s base events errors) (sym e ∙ c)
