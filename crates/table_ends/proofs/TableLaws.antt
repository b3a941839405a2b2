-- Laws of tables, by whether they are array tables and whether the key is valid. Assumes nothing.
use mathlib.Core.Path.{◌≡◌, refl, ap, sym, ◌∙◌}
use mathlib.Core.Bool.{Bool, true, false}
use mathlib.Core.Logic.{◌⊎◌, inl, inr}
use mathlib.Core.List.{List}
use Prim.Native.Nat.{ℕ}
use Rattle.token.specs.Tokens.{Tok, all_tokens}
use Rattle.token.specs.declared.cursor.Cursor.{Cursor}
use Rattle.rules.specs.Out.{span, after, after_found, up_to_found, report, Item, Out, ◌▹◌}
use Rattle.rules.specs.Messages as message
use Rattle.rules.specs.Expected as expected
use Rattle.rules.specs.Receiver as receiver
use Rattle.rules.specs.Skipping.{ignore_to_newline, ws_comment_newline}
use Rattle.rules.specs.Table.{last_key_token, closed, unclosed}
use Rattle.output.specs.declared.emitting.Walk.{Walk}
use Rattle.output.specs.Pour.{Bufs, put}
use Rattle.output.specs.Walks.{Goes}
use Rattle.output.specs.WalkLaws.{first_item}

-- behind the first `]` of an array table: the second one, or that there is none
abbrev pub second_closed : ℕ → ℕ → ℕ → List Tok → Out
second_closed c e f us = receiver.array_table_close c f ▹ ws_comment_newline us

abbrev pub second_missing : ℕ → ℕ → ℕ → List Tok → Out
second_missing a c d us = report message.unclosed_array_table expected.close_square (span a d) (after c d) ▹ ignore_to_newline us

-- a table that is or is not an array table, a key that is or is not valid
pub closed_by : (x y : Bool) (a c d : ℕ) (ts : List Tok) → x ≡ y → closed x a c d ts ≡ closed y a c d ts
closed_by x y a c d ts e = ap (λ (z : Bool). closed z a c d ts) e

pub unclosed_by : (x x' y y' : Bool) (a b : ℕ) (ts : List Tok) → x ≡ x' → y ≡ y' → unclosed x y a b ts ≡ unclosed x' y' a b ts
unclosed_by x x' y y' a b ts p q = ap (λ (z : Bool). unclosed z y a b ts) p ∙ ap (λ (z : Bool). unclosed x' z a b ts) q

pub skipped_invalid : (x : Bool) (a b : ℕ) (ts : List Tok) → unclosed x false a b ts ≡ ignore_to_newline ts
skipped_invalid true a b ts = refl
skipped_invalid false a b ts = refl

-- no close: what is reported of an array table, and what of a table; A and B are what the branches tell
module _ {A B : Type 0} (x : Bool) (m e a b : ℕ) (ts : List Tok) (array : A → x ≡ true) (table : B → x ≡ false) where
  abbrev Reported : Type 0
  Reported = unclosed x true a b ts ≡ report m e (up_to_found a (last_key_token a b ts)) (after_found (last_key_token a b ts)) ▹ ignore_to_newline ts

  pub reported : (A × (m ≡ message.unclosed_array_table) × (e ≡ expected.close_squares)) ⊎ (B × (m ≡ message.unclosed_table) × (e ≡ expected.close_square)) → Reported
  reported (inl u) = rw (array u.0, u.1, u.2) refl
  reported (inr u) = rw (table u.0, u.1, u.2) refl

-- a walk after one item whose places look back into the whole list
pub after_item_at : {s : List ℕ} {r : Out} {c : Cursor} {o₁ : Bufs} {a b : List ℕ} {w : Walk} (i : Item) (o : Bufs) → ((base : ℕ) → c.base ≡ base → o₁ ≡ put (all_tokens s base) i o) → Goes s r c o₁ a b w → Goes s (i ▹ r) c o a b w
after_item_at {r = r} {o₁ = o₁} i o p g = record { is = λ base q. g.is base q ∙ sym (first_item _ r i o o₁ (p base q)); good = g.good; on = g.on; base = g.base }
