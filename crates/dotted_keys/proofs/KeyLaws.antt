-- The rule of keys, a token at a time. Assumes nothing.
use mathlib.Core.Path.{◌≡◌, refl, ap, sym, ◌∙◌}
use mathlib.Core.List.{List, ◌∷◌}
use Prim.Native.Nat.{ℕ}
use Rattle.token.specs.Tokens.{Tok, tok, tokens_at, Took}
use Rattle.token.specs.declared.cursor.Token.{Token}
use Rattle.token.specs.declared.cursor.Cursor.{Cursor}
use Rattle.rules.specs.declared.keys.InKey.{InKey}
use Rattle.rules.specs.Out.{done}
use Rattle.rules.specs.Keys.{in_key, part_step, part_valid, opt_dot_keys, opt_dot_keys_valid, key, key_valid}
use Rattle.output.specs.Pour.{Bufs}
use Rattle.output.specs.Walks.{run}
use Rattle.output.specs.WalkLaws.{at_token}

-- a token where a key is wanted, by what its kind is to a key
module _ (s : List ℕ) (c d : Cursor) (t : Token) (k : Took s c t d) (x y : InKey) (p : x ≡ in_key t.kind) (q : x ≡ y) where
  pub key_at : (all : List Tok) (o : Bufs) (m : ℕ) → run all (key m (tokens_at s c)) o ≡ run all (part_step y t.start t.end (done (tokens_at s c)) (key m (tokens_at s d)) (opt_dot_keys (tokens_at s d))) o
  key_at all o m =
      at_token all o s c d t (key m) in_key (λ z. part_step z t.start t.end (done (tok t.kind t.start t.end ∷ tokens_at s d)) (key m (tokens_at s d)) (opt_dot_keys (tokens_at s d))) x y k refl p q
      ∙ ap (λ (ts : List Tok). run all (part_step y t.start t.end (done ts) (key m (tokens_at s d)) (opt_dot_keys (tokens_at s d))) o) (sym k.seen)

  pub key_valid_lem : key_valid (tokens_at s c) ≡ part_valid y (key_valid (tokens_at s d)) (opt_dot_keys_valid (tokens_at s d))
  key_valid_lem = ap key_valid k.seen ∙ ap (λ (z : InKey). part_valid z (key_valid (tokens_at s d)) (opt_dot_keys_valid (tokens_at s d))) (sym p ∙ q)
