-- From the grammar to the rules, keys: where the tokens have a key, the rules of keys read it. Nothing here needs to be believed.
use mathlib.Core.List.{List, ◌∷◌}
use Prim.Native.Nat.{ℕ}
use Rattle.token.specs.declared.kind.Kind.{Kind}
use Rattle.token.specs.declared.kind.Kind.TheVariants.{Dot, Equals, RightSquareBracket}
use Rattle.token.specs.Tokens.{Tok, tok}
use Rattle.rules.specs.Keys.{opt_dot_keys, after_dot, key}
use Rattle.fitting.specs.Grammar.{OptWhitespace, no_whitespace, a_whitespace, literal, basic, multi_line_literal, multi_line_basic, Parts, KeyPart, atom_part, string_part, Dots, no_dot, a_dot, Key, a_key}
use Rattle.fitting.specs.Premises.{OpenBracket}
use Rattle.fitting.proofs.Reading.{reads_dot, reads_whitespace, reads_key, Walk, walk_done, walk_one}

-- what may follow a key and its whitespace
pub data AfterKey : Kind → Type 0 where
  equals_after_key : AfterKey Equals
  close_after_key : AfterKey RightSquareBracket

part_after_dot : {P : Parts} {σ : List OpenBracket} {k : Kind} {a b : ℕ} (d : ℕ) {ts rest : List Tok} → KeyPart P k → Walk P (opt_dot_keys ts) ts rest σ σ → Walk P (after_dot (tok k a b ∷ ts) d) (tok k a b ∷ ts) rest σ σ
part_after_dot d (atom_part l) w = walk_one (reads_key (atom_part l)) w
part_after_dot d (string_part literal l) w = walk_one (reads_key (string_part literal l)) w
part_after_dot d (string_part basic l) w = walk_one (reads_key (string_part basic l)) w
part_after_dot d (string_part multi_line_literal l) w = walk_one (reads_key (string_part multi_line_literal l)) w
part_after_dot d (string_part multi_line_basic l) w = walk_one (reads_key (string_part multi_line_basic l)) w

whitespace_after_dot : {P : Parts} {σ : List OpenBracket} (d : ℕ) {ts us rest : List Tok} → OptWhitespace ts us → Walk P (after_dot us d) us rest σ σ → Walk P (after_dot ts d) ts rest σ σ
whitespace_after_dot d no_whitespace w = w
whitespace_after_dot d a_whitespace w = walk_one reads_whitespace w

dot_walk : {P : Parts} {σ : List OpenBracket} {a b : ℕ} {ts us rest : List Tok} → OptWhitespace ts (tok Dot a b ∷ us) → Walk P (after_dot us b) us rest σ σ → Walk P (opt_dot_keys ts) ts rest σ σ
dot_walk no_whitespace w = walk_one reads_dot w
dot_walk a_whitespace w = walk_one reads_whitespace (walk_one reads_dot w)

end_walk : {P : Parts} {σ : List OpenBracket} {k : Kind} {a b : ℕ} {ts us : List Tok} → OptWhitespace ts (tok k a b ∷ us) → AfterKey k → Walk P (opt_dot_keys ts) ts (tok k a b ∷ us) σ σ
end_walk no_whitespace equals_after_key = walk_done _
end_walk no_whitespace close_after_key = walk_done _
end_walk a_whitespace equals_after_key = walk_one reads_whitespace (walk_done _)
end_walk a_whitespace close_after_key = walk_one reads_whitespace (walk_done _)

-- the dots behind a part, and the whitespace behind the key
pub dots_walk : {P : Parts} {σ : List OpenBracket} {ts mid us : List Tok} {k : Kind} {a b : ℕ} → Dots P ts mid → OptWhitespace mid (tok k a b ∷ us) → AfterKey k → Walk P (opt_dot_keys ts) ts (tok k a b ∷ us) σ σ
dots_walk no_dot w h = end_walk w h
dots_walk (a_dot v w p d) z h = dot_walk v (whitespace_after_dot _ w (part_after_dot _ p (dots_walk d z h)))

first_part : {P : Parts} {σ : List OpenBracket} (m : ℕ) {k : Kind} {a b : ℕ} {ts rest : List Tok} → KeyPart P k → Walk P (opt_dot_keys ts) ts rest σ σ → Walk P (key m (tok k a b ∷ ts)) (tok k a b ∷ ts) rest σ σ
first_part m (atom_part l) w = walk_one (reads_key (atom_part l)) w
first_part m (string_part literal l) w = walk_one (reads_key (string_part literal l)) w
first_part m (string_part basic l) w = walk_one (reads_key (string_part basic l)) w
first_part m (string_part multi_line_literal l) w = walk_one (reads_key (string_part multi_line_literal l)) w
first_part m (string_part multi_line_basic l) w = walk_one (reads_key (string_part multi_line_basic l)) w

-- a whole key, and the whitespace behind it
pub key_walk : {P : Parts} {σ : List OpenBracket} (m : ℕ) {ts mid us : List Tok} {k : Kind} {a b : ℕ} → Key P ts mid → OptWhitespace mid (tok k a b ∷ us) → AfterKey k → Walk P (key m ts) ts (tok k a b ∷ us) σ σ
key_walk m (a_key p d) w h = first_part m p (dots_walk d w h)
