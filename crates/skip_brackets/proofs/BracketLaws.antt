-- Skipping to a closing bracket, a token at a time. Assumes nothing.
use mathlib.Core.Path.{◌≡◌, refl, ap, sym, ◌∙◌}
use mathlib.Core.List.{List}
use mathlib.Core.Logic.{◌⊎◌, ⊎_elim}
use Prim.Native.Nat.{ℕ, zero, suc, ◌+◌, ◌-◌, ◌≤◌}
use native.Mathlib.Omega.{arith}
use native.Mathlib.Numerals.{add-one}
use Rattle.token.specs.Tokens.{Tok, tokens_at, Took}
use Rattle.token.specs.declared.cursor.Token.{Token}
use Rattle.token.specs.declared.cursor.Cursor.{Cursor}
use Rattle.rules.specs.declared.skipping.InClose.{InClose}
use Rattle.rules.specs.declared.skipping.Bracket.{Bracket}
use Rattle.rules.specs.declared.skipping.Opened.{Opened}
use Rattle.rules.specs.Out.{Out, done, ◌▹◌}
use Rattle.rules.specs.Receiver as receiver
use Rattle.rules.specs.Skipping.{in_close, on_comment, opened, close_square, close_curly, value_close_step, value_close_turn}
use Rattle.output.specs.declared.emitting.Walk.{Walk}
use Rattle.output.specs.Pour.{Bufs, bufs}
use Rattle.output.specs.Walks.{run, end_of}
use Rattle.output.specs.WalkLaws.{at_token, then_on}

-- a turn of ignore_to_value_close, with m arrays and n tables opened, and f what it goes on to do
square_less : (r : Bracket) (m : ℕ) (on : ℕ → Out) (a b : ℕ) (ts : List Tok) → (m ≡ 0 → ⊥) → close_square r m on a b ts ≡ receiver.error a b ▹ on (m - 1)
square_less Bracket.Square zero on a b ts h = absurd (h refl)
square_less Bracket.Square (suc m) on a b ts h = let e : suc m - 1 ≡ m = omega arith in rw e
square_less Bracket.Curly zero on a b ts h = absurd (h refl)
square_less Bracket.Curly (suc m) on a b ts h = let e : suc m - 1 ≡ m = omega arith in rw e

curly_less : (r : Bracket) (n : ℕ) (on : ℕ → Out) (a b : ℕ) (ts : List Tok) → (n ≡ 0 → ⊥) → close_curly r n on a b ts ≡ receiver.error a b ▹ on (n - 1)
curly_less Bracket.Curly zero on a b ts h = absurd (h refl)
curly_less Bracket.Curly (suc n) on a b ts h = let e : suc n - 1 ≡ n = omega arith in rw e
curly_less Bracket.Square zero on a b ts h = absurd (h refl)
curly_less Bracket.Square (suc n) on a b ts h = let e : suc n - 1 ≡ n = omega arith in rw e

module _ (s : List ℕ) (c d : Cursor) (t : Token) (k : Took s c t d) (x y : InClose) (p : x ≡ in_close t.kind) (q : x ≡ y) (closing : Bracket) (m n : ℕ) (all : List Tok) (f : Opened → List Tok → Out) (o : Bufs) where
  abbrev Now : Out
  Now = value_close_turn closing f (opened m n) (tokens_at s c)

  pub value_at : run all Now o ≡ run all (value_close_step y closing f (opened m n) t.start t.end (tokens_at s d)) o
  value_at = at_token all o s c d t (value_close_turn closing f (opened m n)) in_close (λ z. value_close_step z closing f (opened m n) t.start t.end (tokens_at s d)) x y k refl p q

  by_class : (z : InClose) → y ≡ z → run all Now o ≡ run all (value_close_step z closing f (opened m n) t.start t.end (tokens_at s d)) o
  by_class z e = value_at ∙ ap (λ (w : InClose). run all (value_close_step w closing f (opened m n) t.start t.end (tokens_at s d)) o) e

  open_square_lem : y ≡ InClose.OpenSquare → run all Now o ≡ run all (receiver.error t.start t.end ▹ f (opened (m + 1) n) (tokens_at s d)) o
  open_square_lem e = rw add-one (by_class InClose.OpenSquare e)

  open_curly_lem : y ≡ InClose.OpenCurly → run all Now o ≡ run all (receiver.error t.start t.end ▹ f (opened m (n + 1)) (tokens_at s d)) o
  open_curly_lem e = rw add-one (by_class InClose.OpenCurly e)

  pub square_close : y ≡ InClose.CloseSquare → m ≡ 0 → closing ≡ Bracket.Square → run all Now o ≡ run all (receiver.array_close t.start t.end ▹ done (tokens_at s d)) o
  square_close e z r = by_class InClose.CloseSquare e ∙ rw (z, r)

  square_skip : y ≡ InClose.CloseSquare → m ≡ 0 → closing ≡ Bracket.Curly → run all Now o ≡ run all (receiver.error t.start t.end ▹ f (opened m n) (tokens_at s d)) o
  square_skip e z r = by_class InClose.CloseSquare e ∙ rw (z, r)

  square_down : y ≡ InClose.CloseSquare → (m ≡ 0 → ⊥) → run all Now o ≡ run all (receiver.error t.start t.end ▹ f (opened (m - 1) n) (tokens_at s d)) o
  square_down e z = by_class InClose.CloseSquare e ∙ ap (λ (r : Out). run all r o) (square_less closing m (λ i. f (opened i n) (tokens_at s d)) t.start t.end (tokens_at s d) z)

  pub curly_close : y ≡ InClose.CloseCurly → n ≡ 0 → closing ≡ Bracket.Curly → run all Now o ≡ run all (receiver.inline_table_close t.start t.end ▹ done (tokens_at s d)) o
  curly_close e z r = by_class InClose.CloseCurly e ∙ rw (z, r)

  curly_skip : y ≡ InClose.CloseCurly → n ≡ 0 → closing ≡ Bracket.Square → run all Now o ≡ run all (receiver.error t.start t.end ▹ f (opened m n) (tokens_at s d)) o
  curly_skip e z r = by_class InClose.CloseCurly e ∙ rw (z, r)

  curly_down : y ≡ InClose.CloseCurly → (n ≡ 0 → ⊥) → run all Now o ≡ run all (receiver.error t.start t.end ▹ f (opened m (n - 1)) (tokens_at s d)) o
  curly_down e z = by_class InClose.CloseCurly e ∙ ap (λ (r : Out). run all r o) (curly_less closing n (λ i. f (opened m i) (tokens_at s d)) t.start t.end (tokens_at s d) z)

  -- a comment on the way, whose line was skipped
  pub comment_on : y ≡ InClose.Comment → (a b : List ℕ) (w : Walk) → end_of s a b w ≡ run all (on_comment t.start t.end (tokens_at s d)) o → run all Now o ≡ run all (f (opened m n) (tokens_at s w.cur)) (bufs a b w.n)
  comment_on e a b w h = by_class InClose.Comment e ∙ then_on all (on_comment t.start t.end (tokens_at s d)) (f (opened m n)) o s a b w h

-- what the arms have in common that meet: an error event, and on with a arrays and b tables opened
pub record Erred (s : List ℕ) (c d : Cursor) (t : Token) (closing : Bracket) (m n a b : ℕ) : Type 0 where
  pub is : (all : List Tok) (f : Opened → List Tok → Out) (o : Bufs) → run all (value_close_turn closing f (opened m n) (tokens_at s c)) o ≡ run all (receiver.error t.start t.end ▹ f (opened a b) (tokens_at s d)) o
  pub arrays : a ≤ d.at
  pub tables : b ≤ d.at

module _ {s : List ℕ} {c d : Cursor} {t : Token} (k : Took s c t d) {x : InClose} (p : x ≡ in_close t.kind) (closing : Bracket) (m n : ℕ) (h : m ≤ c.at) (i : n ≤ c.at) (a b : ℕ) where
  erred : (a' b' : ℕ) → a ≡ a' → b ≡ b' → a' ≤ m + 1 → b' ≤ n + 1 → ((all : List Tok) (f : Opened → List Tok → Out) (o : Bufs) → run all (value_close_turn closing f (opened m n) (tokens_at s c)) o ≡ run all (receiver.error t.start t.end ▹ f (opened a' b') (tokens_at s d)) o) → Erred s c d t closing m n a b
  erred a' b' u v g j e =
      record {
        is = λ all f o. e all f o ∙ ap (λ (z : ℕ). run all (receiver.error t.start t.end ▹ f (opened z b') (tokens_at s d)) o) (sym u) ∙ ap (λ (z : ℕ). run all (receiver.error t.start t.end ▹ f (opened a z) (tokens_at s d)) o) (sym v);
        arrays = omega (arith, k.on);
        tables = omega (arith, k.on);
      }

  pub at_other : x ≡ InClose.Other → a ≡ m → b ≡ n → Erred s c d t closing m n a b
  at_other q u v = erred m n u v (omega arith) (omega arith) (λ all f o. value_at s c d t k x InClose.Other p q closing m n all f o)

  pub at_open_square : x ≡ InClose.OpenSquare → a ≡ m + 1 → b ≡ n → Erred s c d t closing m n a b
  at_open_square q u v = erred (m + 1) n u v (omega arith) (omega arith) (λ all f o. open_square_lem s c d t k x InClose.OpenSquare p q closing m n all f o refl)

  pub at_open_curly : x ≡ InClose.OpenCurly → a ≡ m → b ≡ n + 1 → Erred s c d t closing m n a b
  at_open_curly q u v = erred m (n + 1) u v (omega arith) (omega arith) (λ all f o. open_curly_lem s c d t k x InClose.OpenCurly p q closing m n all f o refl)

  pub at_square_skip : x ≡ InClose.CloseSquare → m ≡ 0 → closing ≡ Bracket.Curly → a ≡ m → b ≡ n → Erred s c d t closing m n a b
  at_square_skip q z r u v = erred m n u v (omega arith) (omega arith) (λ all f o. square_skip s c d t k x InClose.CloseSquare p q closing m n all f o refl z r)

  pub at_square_down : x ≡ InClose.CloseSquare → (m ≡ 0 → ⊥) → a ≡ m - 1 → b ≡ n → Erred s c d t closing m n a b
  at_square_down q z u v = erred (m - 1) n u v (omega arith) (omega arith) (λ all f o. square_down s c d t k x InClose.CloseSquare p q closing m n all f o refl z)

  pub at_curly_skip : x ≡ InClose.CloseCurly → n ≡ 0 → closing ≡ Bracket.Square → a ≡ m → b ≡ n → Erred s c d t closing m n a b
  at_curly_skip q z r u v = erred m n u v (omega arith) (omega arith) (λ all f o. curly_skip s c d t k x InClose.CloseCurly p q closing m n all f o refl z r)

  pub at_curly_down : x ≡ InClose.CloseCurly → (n ≡ 0 → ⊥) → a ≡ m → b ≡ n - 1 → Erred s c d t closing m n a b
  at_curly_down q z u v = erred m (n - 1) u v (omega arith) (omega arith) (λ all f o. curly_down s c d t k x InClose.CloseCurly p q closing m n all f o refl z)

-- where the seven ways meet
pub any_of : {A B C D E F G : Type 0} (P : Type 0) → A ⊎ (B ⊎ (C ⊎ (D ⊎ (E ⊎ (F ⊎ G))))) → (A → P) → (B → P) → (C → P) → (D → P) → (E → P) → (F → P) → (G → P) → P
any_of P x a b c d e f g = ⊎_elim a (⊎_elim b (⊎_elim c (⊎_elim d (⊎_elim e (⊎_elim f g))))) x

-- what the first of two arms on such a way tells
module _ {A : Type 0} {B : A → Type 0} {C : (a : A) → B a → Type 0} {D : (a : A) (b : B a) → C a b → Type 0} {E : (a : A) (b : B a) (c : C a b) → D a b c → Type 0} {F G : (a : A) (b : B a) (c : C a b) (d : D a b c) → E a b c d → Type 0} where
  pub first_told : (w : (a : A) × (b : B a) × (c : C a b) × (d : D a b c) × (e : E a b c d) × F a b c d e × G a b c d e) → B w.0
  first_told w = w.1
