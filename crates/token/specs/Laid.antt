-- Tokens that lie end to end, each as long as its kind allows: what the check of a list lets through. Assumes nothing.
use Rattle.std.specs.Prelude.{◌≡◌, List, [], ◌∷◌, ℕ, suc, ◌<◌}
use Rattle.token.specs.declared.kind.Kind.{Kind}
use Rattle.token.specs.Kinds.{Width, one_byte, no_byte, some_bytes, width_of}
use Rattle.token.specs.Tokens.{Tok, tok}

-- from a to b is as long as the width says
abbrev pub Spans : Width → ℕ → ℕ → Type 0
Spans one_byte a b = b ≡ suc a
Spans no_byte a b = b ≡ a
Spans some_bytes a b = a < b

-- the tokens lie end to end from p
pub data Laid : ℕ → List Tok → Type 0 where
  laid_none : {p : ℕ} → Laid p []
  laid_token : {k : Kind} {p e : ℕ} {ts : List Tok} → Spans (width_of k) p e → Laid e ts → Laid p (tok k p e ∷ ts)

-- where tokens end that lie end to end from p
abbrev pub end_of : ℕ → List Tok → ℕ
end_of p [] = p
end_of p (tok k a b ∷ ts) = end_of b ts
