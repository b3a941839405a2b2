-- The two modes make the same words of all items but of a trailing comma's report. Proved; nothing here needs to be believed.
use mathlib.Core.Path.{◌≡◌, refl, ap, sym}
use mathlib.Core.List.{List, [], ◌∷◌}
use Prim.Native.Nat.{ℕ, suc, ◌/◌}
use lib.ListN.{length}
use lib.Seq.{take-nil}
use lib.Dec.{ltb}
use Rattle.std.specs.Prelude.{Ok, Err}
use Rattle.token.specs.Tokens.{Tok, all_tokens}
use Rattle.token.specs.Check.{checked, Checked}
use Rattle.rules.specs.declared.options.Mode.{Mode}
use Rattle.rules.specs.Out.{Item, event, event_after, report, trailing_comma, stop}
use Rattle.rules.specs.Words.{events_of, errors_of, halt_of}
use Rattle.rules.specs.Entries.{Entry, parse}
use Rattle.rules.specs.Answer.{event_size, error_size, written, filled, refusal_by, place_by, walked, outcome_by, outcome, as_crate}
use Rattle.modes.specs.Modes.{as_brace, AlikeErrors, no_error, same_error, other_comma, Alike}

errors_alike : (all : List Tok) (is : List Item) → AlikeErrors (errors_of Mode.Crate all is) (errors_of Mode.Brace all is)
errors_alike all [] = no_error
errors_alike all (event g a b ∷ is) = errors_alike all is
errors_alike all (event_after g l ∷ is) = errors_alike all is
errors_alike all (report m x c u ∷ is) = same_error (errors_alike all is)
errors_alike all (trailing_comma head opened left start ∷ is) = other_comma (errors_alike all is)
errors_alike all (stop n ∷ is) = no_error

as_many : {es fs : List (List ℕ)} → AlikeErrors es fs → length es ≡ length fs
as_many no_error = refl
as_many (same_error x) = ap suc (as_many x)
as_many (other_comma x) = ap suc (as_many x)

walked_alike : (all : List Tok) (is : List Item) (events errors : List ℕ) → Alike errors (walked Mode.Crate all is events errors) (walked Mode.Brace all is events errors)
unfolding walked
walked_alike all is events errors =
    let x = errors_alike all is in
    record {
      answer = ap (λ (n : ℕ). record {
        refusal = refusal_by (halt_of is) (ltb (length events / event_size) (length (events_of all is))) (ltb (length errors / error_size) n);
        place = place_by (halt_of is) (length all);
        events = length (events_of all is);
        errors = n;
      }) (as_many x);
      events = refl;
      first = errors_of Mode.Crate all is;
      second = errors_of Mode.Brace all is;
      in_first = refl;
      in_second = refl;
      alike = x;
    }

none_filled : (errors : List ℕ) → errors ≡ filled error_size [] errors
unfolding filled
none_filled errors = ap (λ (es : List (List ℕ)). written es errors) (sym (take-nil (length errors / error_size)))

by_check : (c : Checked) (entry : Entry) (s : List ℕ) (base : ℕ) (events errors : List ℕ) → Alike errors (outcome_by c as_crate entry s base events errors) (outcome_by c as_brace entry s base events errors)
by_check (Ok u) entry s base events errors = walked_alike (all_tokens s base) (parse entry (all_tokens s base)).items events errors
by_check (Err r) entry s base events errors =
    record { answer = refl; events = refl; first = []; second = []; in_first = none_filled errors; in_second = none_filled errors; alike = no_error }

pub modes_alike : (entry : Entry) (s : List ℕ) (base : ℕ) (events errors : List ℕ) → Alike errors (outcome as_crate entry s base events errors) (outcome as_brace entry s base events errors)
unfolding outcome
modes_alike entry s base events errors = by_check (checked s base) entry s base events errors
