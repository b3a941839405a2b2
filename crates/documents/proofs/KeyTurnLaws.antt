-- Laws of a turn of the document loop that begins with a key: its first part was emitted, and the walk of the rest gives the turn's.
-- Assumes nothing.
use mathlib.Core.Path.{◌≡◌, refl, ap, sym, subst, ◌∙◌}
use mathlib.Core.List.{List, ◌∷◌}
use mathlib.Core.Logic.{◌⊎◌, ⊎_elim}
use Prim.Native.Nat.{ℕ, ◌+◌, ◌≤◌}
use native.Mathlib.Omega.{arith}
use lib.ListN.{length}
use Rattle.token.specs.Tokens.{Tok, tok, tokens_at, Good, Took, Back, starts_with}
use Rattle.token.specs.CursorLaws.{back_past}
use Rattle.token.specs.declared.kind.Kind.{Kind}
use Rattle.token.specs.declared.kind.Kind.TheVariants.{Dot, Equals}
use Rattle.token.specs.declared.cursor.Token.{Token}
use Rattle.token.specs.declared.cursor.Cursor.{Cursor}
use Rattle.rules.specs.declared.event.Encoding.{Encoding}
use Rattle.rules.specs.declared.document.InDocument.{InDocument}
use Rattle.rules.specs.Out.{Out, ◌▹◌, ◌then◌}
use Rattle.rules.specs.Messages as message
use Rattle.rules.specs.Receiver as receiver
use Rattle.rules.specs.Document.{document_step, document_turn, expression, on_expression_key, on_expression_dot, on_expression_key_val_sep}
use Rattle.output.specs.declared.emitting.Counts.{Counts}
use Rattle.output.specs.Pour.{Bufs, bufs, put}
use Rattle.output.specs.MeetLaws.{met_at}
use Rattle.nest.specs.Nested.{NestWalk, walk_of, Nested}
use Rattle.nest.specs.NestedLaws.{nested_item, nested_as, nested_past}
use Rattle.expressions.specs.Expressed.{Expressed}

-- from c and the buffers o on, the first part of a key was emitted, which gave o'; any walk of the rest of the expression from the cursor
-- d on, by the message, is a walk by the turn's answer g
pub record Begun (levels : ℕ) (s : List ℕ) (c : Cursor) (o : Bufs) (d : Cursor) (o' : Bufs) (m : ℕ) : Type 0 where
  pub g : Out
  pub turn : (loop : Unit {0} → List Tok → Out) → document_turn levels loop tt (tokens_at s c) ≡ (g then loop tt)
  pub good : Good s d
  pub walk : (a b : List ℕ) (v : NestWalk) → Expressed s (expression m levels (tokens_at s d)) d o' a b v → Nested s g c o a b v
  pub further : (a b : List ℕ) (v : NestWalk) → Expressed s (expression m levels (tokens_at s d)) d o' a b v → c.at + 1 ≤ (walk_of v).cur.at

seen_as : {s : List ℕ} {c d : Cursor} {t : Token} → Took s c t d → (j : Kind) → t.kind ≡ j → tokens_at s c ≡ tok j t.start t.end ∷ tokens_at s d
seen_as {s} {d = d} {t} k j q = k.seen ∙ ap (λ (i : Kind). tok i t.start t.end ∷ tokens_at s d) q

-- at `=` the expression is what follows it, whatever the message
at_equals : (levels m a b : ℕ) (ts : List Tok) → expression m levels (tok Equals a b ∷ ts) ≡ on_expression_key_val_sep levels a b ts
at_equals levels m a b ts = refl

module _ (levels : ℕ) {s : List ℕ} {c d : Cursor} {t : Token} {o o' : Bufs} (k : Took s c t d) where
  -- a token that is a key
  pub begun_key : (e : Encoding) → ((loop : Unit {0} → List Tok → Out) → document_turn levels loop tt (tokens_at s c) ≡ document_step (InDocument.Key e) levels (loop tt) t.start t.end (tokens_at s d))
      → ((all : List Tok) → o' ≡ put all (receiver.simple_key e t.start t.end) o) → Begun levels s c o d o' message.key_with_no_value
  begun_key e r p =
      record {
        g = on_expression_key levels e t.start t.end (tokens_at s d);
        turn = r;
        good = k.good;
        walk = λ a b v x. nested_past k (nested_item _ _ p x.nested);
        further = λ a b v x. omega (arith, k.on, x.nested.on);
      }

  module _ (good : Good s c) {u : Cursor} (back : Back s d u) where
    -- a dot or `=`, to which the cursor goes back
    from_back : (m : ℕ) → Begun levels s c o c o' m → Begun levels s c o u o' m
    from_back m x = subst (λ (y : Cursor). Begun levels s c o y o' m) (sym (back_past s c t d u good k back)) x

    pub begun_dot : t.kind ≡ Dot → ((loop : Unit {0} → List Tok → Out) → document_turn levels loop tt (tokens_at s c) ≡ document_step InDocument.Dot levels (loop tt) t.start t.end (tokens_at s d))
        → ((all : List Tok) → o' ≡ put all (receiver.simple_key Encoding.None t.start t.start) o) → Begun levels s c o u o' message.missing_value_for_key
    begun_dot q r p =
        from_back message.missing_value_for_key (record {
          g = on_expression_dot levels t.start t.end (tokens_at s d);
          turn = r;
          good = good;
          walk = λ a b v x. nested_item _ _ p (nested_as (ap (expression message.missing_value_for_key levels) (seen_as k Dot q)) x.nested);
          further = λ a b v x. x.dotted (ap (starts_with Dot) (seen_as k Dot q));
        })

    pub begun_equals : (m : ℕ) → t.kind ≡ Equals → ((loop : Unit {0} → List Tok → Out) → document_turn levels loop tt (tokens_at s c) ≡ document_step InDocument.Equals levels (loop tt) t.start t.end (tokens_at s d))
        → ((all : List Tok) → o' ≡ put all (receiver.simple_key Encoding.None t.start t.start) o) → Begun levels s c o u o' m
    begun_equals m q r p =
        from_back m (record {
          g = receiver.simple_key Encoding.None t.start t.start ▹ on_expression_key_val_sep levels t.start t.end (tokens_at s d);
          turn = r;
          good = good;
          walk = λ a b v x. nested_item _ _ p (nested_as (ap (expression m levels) (seen_as k Equals q) ∙ at_equals levels m t.start t.end (tokens_at s d)) x.nested);
          further = λ a b v x. x.equalled (ap (starts_with Equals) (seen_as k Equals q));
        })

-- where the three ways meet; the events' buffer is as long as it was
abbrev pub Met : ℕ → List ℕ → Cursor → Bufs → Cursor → List ℕ → List ℕ → Counts → ℕ → ℕ → Type 0
Met levels s c o d a b n m l = Begun levels s c o d (bufs a b n) m × (length a ≡ l)

pub meet : {levels : ℕ} {s : List ℕ} {c d d' : Cursor} {o : Bufs} {a a' : List ℕ} {n n' : Counts} {m m' l : ℕ} (b : List ℕ) → a' ≡ a → d' ≡ d → n' ≡ n → m' ≡ m → Met levels s c o d a b n m l → Met levels s c o d' a' b n' m' l
meet {levels} {s} {c} {o = o} {l = l} b p q u v x = met_at (λ (a : List ℕ) (d : Cursor) (n : Counts) (m : ℕ). Met levels s c o d a b n m l) p q u v x

pub any_of : {A B C : Type 0} (P : Type 0) → A ⊎ (B ⊎ C) → (A → P) → (B → P) → (C → P) → P
any_of P x f g h = ⊎_elim f (⊎_elim g h) x
