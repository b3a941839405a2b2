-- Modes by their numbers, and what an entry does with one. Assumes nothing.
use Rattle.std.specs.Prelude.{◌≡◌, cond, List, ℕ, Option, Some, None, eqb}
use Rattle.rules.specs.declared.answer.Answer.{Answer}
use Rattle.rules.specs.declared.options.Mode.{Mode}
use Rattle.rules.specs.declared.options.Options.{Options}
use Rattle.rules.specs.Entries.{Entry}
use Rattle.rules.specs.Answer.{Outcome, outcome}

-- 0 is crate mode, 1 brace mode, and any other number none
abbrev pub chosen_by : ℕ → Option Options
chosen_by mode = cond (eqb mode 0) (Some (record { mode = Mode.Crate })) (cond (eqb mode 1) (Some (record { mode = Mode.Brace })) None)

-- the answer to an unknown mode
abbrev pub unknown_mode : Answer
unknown_mode = record { refusal = 15; place = 0; events = 0; errors = 0 }

-- an unknown mode is refused before all else, and nothing is written
abbrev pub outcome_of : Option Options → Entry → List ℕ → ℕ → List ℕ → List ℕ → Outcome
outcome_of (Some options) entry s base events errors = outcome options entry s base events errors
outcome_of None entry s base events errors = record { answer = unknown_mode; events = events; errors = errors }

-- the answer r, with the buffers a and b after it, is that for the mode's number
abbrev pub AnswersIn : ℕ → Entry → List ℕ → ℕ → List ℕ → List ℕ → List ℕ → List ℕ → Answer → Type 0
AnswersIn mode entry s base events errors a b r = record { answer = r; events = a; errors = b } ≡ outcome_of (chosen_by mode) entry s base events errors
