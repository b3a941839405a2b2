-- What is said of the list of mistakes. Assumes nothing.
use Rattle.std.specs.Prelude.{ℕ, ◌+◌, ◌*◌, ◌/◌, ◌≤◌, ◌≡◌, false, ◌↔◌, List, [], ◌∷◌, length}
use Rattle.token.specs.Records.{count}
use Rattle.token.specs.Tokens.{all_tokens}
use Rattle.rules.specs.Limits.{max_depth}
use Rattle.rules.specs.Answer.{error_size, Outcome}
use Rattle.fitting.specs.Grammar.{FitsWithin}
use Rattle.fitting.specs.Premises.{Regular}
use Rattle.pieces.specs.declared.pieces.Piece.{Piece}
use Rattle.pieces.specs.Messages.{multi_line_string}
use Rattle.pieces.specs.Pieces.{events_from, pieces}
use Rattle.mistake_rules.specs.Mistakes.{start_of, errors_from, Mistake, reported, silent, mistakes_in}
use Rattle.mistake_rules.specs.Outcome.{no_room_for_mistakes, listing}

-- the mistakes of a run
abbrev pub mistakes_of : Outcome → List Mistake
mistakes_of run = mistakes_in run.answer.events run.events run.answer.errors run.errors

-- the error records of a run, and its pieces
abbrev pub records_of : Outcome → List (List ℕ)
records_of run = errors_from run.answer.errors 0 run.errors

-- those among the mistakes that are error records, in order; and those that are not
abbrev pub reported_in : List Mistake → List (List ℕ)
reported_in [] = []
reported_in (reported words ∷ ms) = words ∷ reported_in ms
reported_in (silent p ∷ ms) = reported_in ms

abbrev pub silent_in : List Mistake → List Piece
silent_in [] = []
silent_in (reported words ∷ ms) = silent_in ms
silent_in (silent p ∷ ms) = p ∷ silent_in ms

-- one of the records has this unexpected start
pub data StartsIn (start : ℕ) : List (List ℕ) → Type 0 where
  here : {words : List ℕ} {es : List (List ℕ)} → start_of words ≡ start → StartsIn start (words ∷ es)
  later : {words : List ℕ} {es : List (List ℕ)} → StartsIn start es → StartsIn start (words ∷ es)

-- the second pieces are the first, in order, without some that are no multi-line string as a key and start where one of the records starts
pub data Unaccounted (es : List (List ℕ)) : List Piece → List Piece → Type 0 where
  no_piece : Unaccounted es [] []
  kept : {p : Piece} {ps qs : List Piece} → Unaccounted es ps qs → Unaccounted es (p ∷ ps) (p ∷ qs)
  left : {p : Piece} {ps qs : List Piece} → (p.message ≡ multi_line_string → ⊥) → StartsIn p.start es → Unaccounted es ps qs → Unaccounted es (p ∷ ps) qs

-- of any run: every error record is in the list, once, as it is and in order; so is every piece, but those that a record accounts for; and there
-- are at most as many mistakes as events and errors
pub record Complete (run : Outcome) : Type 0 where
  pub records : reported_in (mistakes_of run) ≡ records_of run
  pub others : Unaccounted (records_of run) (pieces (events_from run.answer.events 0 run.events) false) (silent_in (mistakes_of run))
  pub few : length (mistakes_of run) ≤ run.answer.events + run.answer.errors

-- of a run over the record bytes s: if it was not refused, and the list has one Eof, the last, and no adjacent Whitespace, then there is no
-- mistake exactly when the tokens fit the grammar with at most 64 arrays and inline tables open
abbrev pub EmptyExactlyWhenFits : List ℕ → ℕ → Outcome → Type 0
EmptyExactlyWhenFits s base run = Regular (all_tokens s base) → run.answer.refusal ≡ 0 → (mistakes_of run ≡ []) ↔ FitsWithin max_depth (all_tokens s base)

-- the same of the answer of `mistakes`
abbrev pub NoneExactlyWhenFits : List ℕ → ℕ → Outcome → List ℕ → Type 0
NoneExactlyWhenFits s base run buffer =
    Regular (all_tokens s base) → (listing s base run buffer).answer.refusal ≡ 0 → ((listing s base run buffer).answer.mistakes ≡ 0) ↔ FitsWithin max_depth (all_tokens s base)

-- n records give at most 5 n + 1 mistakes, and with room for so many 14 does not come
pub record Bounded (s : List ℕ) (base : ℕ) (run : Outcome) (buffer : List ℕ) : Type 0 where
  pub most : (listing s base run buffer).answer.mistakes ≤ 5 * count s + 1
  pub enough : 5 * count s + 1 ≤ length buffer / error_size → (listing s base run buffer).answer.refusal ≡ no_room_for_mistakes → ⊥
