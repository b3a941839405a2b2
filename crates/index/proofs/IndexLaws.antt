-- Each way out of `index`. Proved; nothing here needs to be believed.
use mathlib.Core.Path.{◌≡◌, refl, ap, sym, subst, ◌∙◌}
use mathlib.Core.Bool.{Bool, true, false}
use mathlib.Core.Logic.{◌↔◌}
use mathlib.Core.List.{List, ◌++◌}
use Prim.Native.Nat.{ℕ, ◌*◌, ◌<◌, ◌≤◌}
use lib.ListN.{length, drop}
use lib.Dec.{ltb}
use borrow.Author.Tests.{lt-ltb, le-ltb}
use Rattle.rules.specs.declared.answer.Answer.{Answer}
use Rattle.index.specs.declared.Indexed.{Indexed}
use Rattle.headers.specs.Headers.{headers_in, index_bytes, entry_size}
use Rattle.index.specs.Refusals.{not_quiet, no_room_for_index}
use Rattle.index.specs.Outcome.{IndexOutcome, index_outcome, IndexDetermined}

abbrev left : Indexed → List ℕ → IndexOutcome
left r index = record { answer = r; buffer = index }

pub not_quiet_lem : (answer : Answer) (events index : List ℕ) (quiet : Bool) (r : Indexed) → quiet ≡ false → r ≡ record { refusal = not_quiet; headers = 0; bytes = 0 } → left r index ≡ index_outcome quiet answer events index
unfolding index_outcome
not_quiet_lem answer events index quiet r q e = rw q (ap (λ (r' : Indexed). left r' index) e)

module _ (answer : Answer) (events index : List ℕ) (quiet : Bool) (headers : ℕ) (r : Indexed) (q : quiet ≡ true) (counted : headers ≡ length (headers_in answer.events events)) where
  pub no_room : length index < entry_size * headers → r ≡ record { refusal = no_room_for_index; headers = headers; bytes = entry_size * headers } → left r index ≡ index_outcome quiet answer events index
  unfolding index_outcome
  no_room less e =
      let t : ltb (length index) (entry_size * length (headers_in answer.events events)) ≡ true = lt-ltb (length index) _ (subst (λ (n : ℕ). length index < entry_size * n) counted less) in
      rw (q, t) (ap (λ (r' : Indexed). left r' index) e ∙ ap (λ (n : ℕ). left (record { refusal = no_room_for_index; headers = n; bytes = entry_size * n }) index) counted)

  pub written : (out : List ℕ) → entry_size * headers ≤ length index → out ≡ index_bytes (headers_in answer.events events) ++ drop (entry_size * length (headers_in answer.events events)) index
      → r ≡ record { refusal = 0; headers = headers; bytes = entry_size * headers } → left r out ≡ index_outcome quiet answer events index
  unfolding index_outcome
  written out fits o e =
      let t : ltb (length index) (entry_size * length (headers_in answer.events events)) ≡ false = le-ltb (length index) _ (subst (λ (n : ℕ). entry_size * n ≤ length index) counted fits) in
      rw (q, t)
      (ap (λ (r' : Indexed). left r' out) e
      ∙ ap (λ (n : ℕ). left (record { refusal = 0; headers = n; bytes = entry_size * n }) out) counted
      ∙ ap (λ (l : List ℕ). left (record { refusal = 0; headers = length (headers_in answer.events events); bytes = entry_size * length (headers_in answer.events events) }) l) o)

-- two tests that are true exactly when the same holds are equal
decided : {P : Type 0} (x y : Bool) → (x ≡ true) ↔ P → (y ≡ true) ↔ P → x ≡ y
decided true y p q = sym (q.1 (p.0 refl))
decided false true p q = p.1 (q.0 refl)
decided false false p q = refl

pub determined : (answer : Answer) (events index : List ℕ) → IndexDetermined answer events index
determined answer events index x y p q =
    p.same ∙ ap (λ (quiet : Bool). index_outcome quiet answer events index) (decided p.quiet q.quiet p.tells q.tells) ∙ sym q.same
