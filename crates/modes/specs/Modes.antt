-- Two outcomes of the same input, one in each mode: what may differ. Assumes nothing.
use Rattle.std.specs.Prelude.{◌≡◌, List, [], ◌∷◌, ℕ}
use Rattle.rules.specs.declared.options.Mode.{Mode}
use Rattle.rules.specs.declared.options.Options.{Options}
use Rattle.rules.specs.Messages as message
use Rattle.rules.specs.Answer.{error_size, Outcome, filled}

abbrev pub as_brace : Options
as_brace = record { mode = Mode.Brace }

-- two lists of errors: an error is the same in both, or it is message 19, and then only its unexpected span and its line may differ
pub data AlikeErrors : List (List ℕ) → List (List ℕ) → Type 0 where
  no_error : AlikeErrors [] []
  same_error : {error : List ℕ} {es fs : List (List ℕ)} → AlikeErrors es fs → AlikeErrors (error ∷ es) (error ∷ fs)
  other_comma : {expected from to start end line start' end' line' : ℕ} {es fs : List (List ℕ)} → AlikeErrors es fs
      → AlikeErrors ((message.trailing_comma ∷ expected ∷ from ∷ to ∷ start ∷ end ∷ line ∷ []) ∷ es) ((message.trailing_comma ∷ expected ∷ from ∷ to ∷ start' ∷ end' ∷ line' ∷ []) ∷ fs)

-- two outcomes whose error buffer was `errors` before: the answer and the events are the same, and in the error buffer stand two such lists
pub record Alike (errors : List ℕ) (x y : Outcome) : Type 0 where
  pub answer : x.answer ≡ y.answer
  pub events : x.events ≡ y.events
  pub first : List (List ℕ)
  pub second : List (List ℕ)
  pub in_first : x.errors ≡ filled error_size first errors
  pub in_second : y.errors ≡ filled error_size second errors
  pub alike : AlikeErrors first second
