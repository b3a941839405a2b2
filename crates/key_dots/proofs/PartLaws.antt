-- The rules of dots and parts, a token at a time. Assumes nothing.
use mathlib.Core.Path.{◌≡◌, refl, ap, sym, subst, ◌∙◌}
use mathlib.Core.Bool.{true, false, false≢true}
use mathlib.Core.List.{List, [], ◌∷◌}
use Prim.Native.Nat.{ℕ, ◌≤◌}
use native.Mathlib.Omega.{arith}
use Rattle.token.specs.Tokens.{Tok, tok, all_tokens, tokens_at, Took, starts_with}
use Rattle.token.specs.declared.kind.Kind.{Kind}
use Rattle.token.specs.declared.kind.Kind.TheVariants.{Dot, Equals, Comma, LeftSquareBracket, RightSquareBracket, LeftCurlyBracket, RightCurlyBracket, Whitespace, Comment, Newline, LiteralString, BasicString, MlLiteralString, MlBasicString, Atom, Eof}
use Rattle.token.specs.declared.cursor.Token.{Token}
use Rattle.token.specs.declared.cursor.Cursor.{Cursor}
use Rattle.rules.specs.declared.event.Encoding.{Encoding}
use Rattle.rules.specs.declared.keys.InKey.{InKey}
use Rattle.rules.specs.Out.{Out, done, ◌▹◌}
use Rattle.rules.specs.Receiver as receiver
use Rattle.rules.specs.Keys.{in_key, opt_whitespace, part_step, part_valid, opt_dot_keys, dot_keys, after_dot, opt_dot_keys_valid, dot_keys_valid, after_dot_valid}
use Rattle.output.specs.declared.emitting.Walk.{Walk}
use Rattle.output.specs.Pour.{Bufs, bufs}
use Rattle.output.specs.Walks.{run, end_of, Goes}
use Rattle.output.specs.WalkLaws.{Looped, at_token, then_on, goes_rest}
use Rattle.key_dots.specs.SpaceLaws.{dots_split}

-- no dot at the start of the list
no_dot_lem : (k : Kind) (a b : ℕ) (ts : List Tok) → starts_with Dot (tok k a b ∷ ts) ≡ false → (dot_keys (tok k a b ∷ ts) ≡ done (tok k a b ∷ ts)) × (dot_keys_valid (tok k a b ∷ ts) ≡ true)
no_dot_lem Dot a b ts e = absurd (false≢true (sym e))
no_dot_lem Equals a b ts e = (refl, refl)
no_dot_lem Comma a b ts e = (refl, refl)
no_dot_lem LeftSquareBracket a b ts e = (refl, refl)
no_dot_lem RightSquareBracket a b ts e = (refl, refl)
no_dot_lem LeftCurlyBracket a b ts e = (refl, refl)
no_dot_lem RightCurlyBracket a b ts e = (refl, refl)
no_dot_lem Whitespace a b ts e = (refl, refl)
no_dot_lem Comment a b ts e = (refl, refl)
no_dot_lem Newline a b ts e = (refl, refl)
no_dot_lem LiteralString a b ts e = (refl, refl)
no_dot_lem BasicString a b ts e = (refl, refl)
no_dot_lem MlLiteralString a b ts e = (refl, refl)
no_dot_lem MlBasicString a b ts e = (refl, refl)
no_dot_lem Atom a b ts e = (refl, refl)
no_dot_lem Eof a b ts e = (refl, refl)

dots_none : (ts : List Tok) → starts_with Dot ts ≡ false → (dot_keys ts ≡ done ts) × (dot_keys_valid ts ≡ true)
dots_none [] e = (refl, refl)
dots_none (tok k a b ∷ ts) e = no_dot_lem k a b ts e

module _ (s : List ℕ) (c : Cursor) (all : List Tok) (o : Bufs) where
  pub dot_out_lem : starts_with Dot (tokens_at s c) ≡ false → run all (dot_keys (tokens_at s c)) o ≡ run all (done (tokens_at s c)) o
  dot_out_lem e = ap (λ (r : Out). run all r o) (dots_none (tokens_at s c) e).0

  -- after opt_whitespace the loop over dots goes on
  pub space_on : (a b : List ℕ) (w : Walk) → end_of s a b w ≡ run all (opt_whitespace (tokens_at s c)) o → run all (opt_dot_keys (tokens_at s c)) o ≡ run all (dot_keys (tokens_at s w.cur)) (bufs a b w.n)
  space_on a b w e = ap (λ (r : Out). run all r o) (sym (dots_split (tokens_at s c)).0) ∙ then_on all (opt_whitespace (tokens_at s c)) dot_keys o s a b w e

pub dot_valid_lem : (s : List ℕ) (c : Cursor) → starts_with Dot (tokens_at s c) ≡ false → dot_keys_valid (tokens_at s c) ≡ true
dot_valid_lem s c e = (dots_none (tokens_at s c) e).1

-- a token of the kind that was asked for
module _ (s : List ℕ) (c d : Cursor) (t : Token) where
  pub dot_at : (t.kind ≡ Dot) × Took s c t d → (all : List Tok) (o : Bufs) → run all (dot_keys (tokens_at s c)) o ≡ run all (receiver.key_sep t.start t.end ▹ after_dot (tokens_at s d) t.end) o
  dot_at k all o =
      ap (λ (ts : List Tok). run all (dot_keys ts) o) k.1.seen
      ∙ ap (λ (j : Kind). run all (dot_keys (tok j t.start t.end ∷ tokens_at s d)) o) k.0

  pub dot_valid_at : (t.kind ≡ Dot) × Took s c t d → dot_keys_valid (tokens_at s c) ≡ after_dot_valid (tokens_at s d)
  dot_valid_at k = ap dot_keys_valid k.1.seen ∙ ap (λ (j : Kind). dot_keys_valid (tok j t.start t.end ∷ tokens_at s d)) k.0

  -- a token where a part is wanted, by what its kind is to a key
  module _ (k : Took s c t d) (x y : InKey) (p : x ≡ in_key t.kind) (q : x ≡ y) where
    pub part_at : (all : List Tok) (o : Bufs) (e : ℕ) → run all (after_dot (tokens_at s c) e) o ≡ run all (part_step y t.start t.end (done (tokens_at s c)) (after_dot (tokens_at s d) e) (opt_dot_keys (tokens_at s d))) o
    part_at all o e =
        at_token all o s c d t (λ ts. after_dot ts e) in_key (λ z. part_step z t.start t.end (done (tok t.kind t.start t.end ∷ tokens_at s d)) (after_dot (tokens_at s d) e) (opt_dot_keys (tokens_at s d))) x y k refl p q
        ∙ ap (λ (ts : List Tok). run all (part_step y t.start t.end (done ts) (after_dot (tokens_at s d) e) (opt_dot_keys (tokens_at s d))) o) (sym k.seen)

    pub part_valid_lem : after_dot_valid (tokens_at s c) ≡ part_valid y (after_dot_valid (tokens_at s d)) (opt_dot_keys_valid (tokens_at s d))
    part_valid_lem = ap after_dot_valid k.seen ∙ ap (λ (z : InKey). part_valid z (after_dot_valid (tokens_at s d)) (opt_dot_keys_valid (tokens_at s d))) (sym p ∙ q)

-- the list ends behind a dot that ended at e
pub part_none : (s : List ℕ) (c : Cursor) → tokens_at s c ≡ [] → (all : List Tok) (o : Bufs) (e : ℕ) → run all (after_dot (tokens_at s c) e) o ≡ run all (receiver.simple_key Encoding.None e e ▹ dot_keys (tokens_at s c)) o
part_none s c h all o e =
    ap (λ (ts : List Tok). run all (after_dot ts e) o) h
    ∙ ap (λ (ts : List Tok). run all (receiver.simple_key Encoding.None e e ▹ dot_keys ts) o) (sym h)

pub part_none_valid : (s : List ℕ) (c : Cursor) → tokens_at s c ≡ [] → after_dot_valid (tokens_at s c) ≡ dot_keys_valid (tokens_at s c)
part_none_valid s c h = ap after_dot_valid h ∙ sym (ap dot_keys_valid h)

-- a loop within a loop: what the inner one has done, from where the outer one's turn began
pub nested : {s : List ℕ} {now now' start mid : Out} {o o₀ o₁ o' : Bufs} {cur cur₀ cur₁ cur' : Cursor} (out : Looped s now start o o₀ cur cur₀) → run (all_tokens s cur₀.base) now o ≡ run (all_tokens s cur₀.base) mid o₁ → cur.at ≤ cur₁.at → cur₁.base ≡ cur.base → Looped s now' mid o' o₁ cur' cur₁ → Looped s now' start o' o₀ cur' cur₀
nested {s} {now' = now'} {mid = mid} {o₁ = o₁} {o' = o'} out e h b inn =
    record { same = subst (λ (x : ℕ). run (all_tokens s x) now' o' ≡ run (all_tokens s x) mid o₁) (b ∙ out.base) inn.same ∙ (sym e ∙ out.same); good = inn.good; on = omega (arith, out.on, inn.on); base = inn.base ∙ (b ∙ out.base) }

-- whether opt_dot_keys is valid, behind its whitespace
pub space_valid : {s : List ℕ} {c : Cursor} {o : Bufs} {a b : List ℕ} {w : Walk} → Goes s (opt_whitespace (tokens_at s c)) c o a b w → dot_keys_valid (tokens_at s w.cur) ≡ opt_dot_keys_valid (tokens_at s c)
space_valid {s} {c} g = ap dot_keys_valid (goes_rest g) ∙ (dots_split (tokens_at s c)).1
