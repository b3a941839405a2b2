-- How many headers there are, event by event. Proved; nothing here needs to be believed.
use mathlib.Core.Path.{◌≡◌, refl, ap}
use mathlib.Core.Bool.{Bool, true, false}
use mathlib.Core.List.{List, [], ◌∷◌}
use Prim.Native.Nat.{ℕ, zero, suc, ◌+◌, ◌-◌, ◌*◌, ◌/◌, ◌<◌, ◌≤◌}
use native.Mathlib.Omega.{arith}
use native.Mathlib.Numerals.{add-one}
use lib.ListN.{length, get_or, take}
use lib.Seq.{length-take-le}
use Rattle.std.proofs.lemmas.List.{get_or-take}
use Rattle.rules.specs.Answer.{event_size}
use Rattle.headers.specs.Headers.{opens_header, headers_from, kinds_from, headers_in}

-- how many headers the events from event i on have
pub headers_left : List ℕ → ℕ → ℕ
headers_left events i = length (headers_from i (kinds_from (length events / event_size - i) i events))

module _ (events : List ℕ) (i : ℕ) (h : i < length events / event_size) where
  pub at_header : opens_header (get_or events (i * event_size) 0) ≡ true → headers_left events i ≡ 1 + headers_left events (i + 1)
  unfolding headers_left
  at_header e =
      let m : length events / event_size - i ≡ suc (length events / event_size - (i + 1)) = omega arith in
      rw (m, add-one) (simp e (omega arith))

  pub at_other : opens_header (get_or events (i * event_size) 0) ≡ false → headers_left events i ≡ headers_left events (i + 1)
  unfolding headers_left
  at_other e =
      let m : length events / event_size - i ≡ suc (length events / event_size - (i + 1)) = omega arith in
      rw (m, add-one) (simp e (omega arith))

pub headers_end : (events : List ℕ) (i : ℕ) → length events / event_size ≤ i → headers_left events i ≡ 0
unfolding headers_left
headers_end events i h = let m : length events / event_size - i ≡ 0 = omega arith in rw m

pub headers_start : (events : List ℕ) → headers_left events 0 ≡ length (headers_in (length events / event_size) events)
unfolding headers_left headers_in
headers_start events = let m : length events / event_size - 0 ≡ length events / event_size = omega arith in rw m

pub kinds_length : (n i : ℕ) (buffer : List ℕ) → length (kinds_from n i buffer) ≡ n
kinds_length zero i buffer = refl
kinds_length (suc n) i buffer = ap suc (kinds_length n (suc i) buffer)

few_by : (b : Bool) (n kind : ℕ) (kinds : List ℕ) → opens_header kind ≡ b → length (headers_from (suc n) kinds) ≤ length kinds → length (headers_from n (kind ∷ kinds)) ≤ suc (length kinds)
few_by true n kind kinds e h = simp e (omega arith)
few_by false n kind kinds e h = simp e (omega arith)

few_from : (n : ℕ) (kinds : List ℕ) → length (headers_from n kinds) ≤ length kinds
few_from n [] = omega arith
few_from n (kind ∷ kinds) = few_by (opens_header kind) n kind kinds refl (few_from (suc n) kinds)

-- there are no more headers than events
pub headers_few : (n : ℕ) (buffer : List ℕ) → length (headers_in n buffer) ≤ n
unfolding headers_in
headers_few n buffer = omega (arith, few_from 0 (kinds_from n 0 buffer), kinds_length n 0 buffer)

kinds_taken : (m n i : ℕ) (buffer : List ℕ) → (i + n) * event_size ≤ m → kinds_from n i (take m buffer) ≡ kinds_from n i buffer
kinds_taken m zero i buffer h = refl
kinds_taken m (suc n) i buffer h = rw (get_or-take m buffer (i * event_size) 0 (omega arith), kinds_taken m n (suc i) buffer (omega arith))

-- the headers of the first n events, by their words alone
pub headers_taken : (n : ℕ) (buffer : List ℕ) → n * event_size ≤ length buffer → headers_in (length (take (n * event_size) buffer) / event_size) (take (n * event_size) buffer) ≡ headers_in n buffer
unfolding headers_in
headers_taken n buffer held =
    let whole : length (take (n * event_size) buffer) / event_size ≡ n = omega (arith, length-take-le (n * event_size) buffer held) in
    rw whole (ap (λ (kinds : List ℕ). headers_from 0 kinds) (kinds_taken (n * event_size) n 0 buffer (omega arith)))
