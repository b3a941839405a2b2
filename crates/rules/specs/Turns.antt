-- Loops in which each turn takes at least one token, or is the last. Assumes nothing.
use Rattle.std.specs.Prelude.{ℕ, zero, suc, List, length}
use Rattle.token.specs.Tokens.{Tok}
use Rattle.rules.specs.Out.{Out, done}

-- at most n turns and one more; a turn is told what the loop goes on to do, in a state and with tokens that are left
unfoldable pub turns : {S : Type 0} → ((S → List Tok → Out) → S → List Tok → Out) → ℕ → S → List Tok → Out
turns turn zero s ts = turn (λ s' us. done us) s ts
turns turn (suc n) s ts = turn (turns turn n) s ts

-- as many turns as there are tokens are enough: the law turns-enough says that more change nothing
abbrev pub looping : {S : Type 0} → ((S → List Tok → Out) → S → List Tok → Out) → S → List Tok → Out
looping turn s ts = turns turn (length ts) s ts
