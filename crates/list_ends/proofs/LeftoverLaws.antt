-- What is left behind the end, at a token that is no Eof. Proved; nothing here needs to be believed.
use Rattle.std.proofs.Common.{◌≡◌, refl, ap, ◌∙◌, ℕ, List}
use Rattle.token.specs.declared.kind.Kind.{Kind}
use Rattle.token.specs.KindLaws.{every_kind}
use Rattle.token.specs.Tokens.{tokens_at, Took}
use Rattle.token.specs.declared.cursor.Token.{Token}
use Rattle.token.specs.declared.cursor.Cursor.{Cursor}
use Rattle.rules.specs.Out.{Out, ◌▹◌}
use Rattle.rules.specs.Receiver as receiver
use Rattle.rules.specs.Skipping.{in_line, leftover, leftover_step}

error_left : (a b : ℕ) (on : Out) (k : Kind) → (k ≡ Kind.Eof → ⊥) → leftover_step (in_line k) a b on ≡ receiver.error a b ▹ on
error_left a b on = every_kind (λ k. (k ≡ Kind.Eof → ⊥) → leftover_step (in_line k) a b on ≡ receiver.error a b ▹ on) (λ h. refl) (λ h. refl) (λ h. refl) (λ h. refl) (λ h. refl) (λ h. refl) (λ h. refl) (λ h. refl) (λ h. refl) (λ h. refl) (λ h. refl) (λ h. refl) (λ h. refl) (λ h. refl) (λ h. refl) (λ h. absurd (h refl))

pub leftover_error : (s : List ℕ) (c d : Cursor) (t : Token) → Took s c t d → (t.kind ≡ Kind.Eof → ⊥) → leftover (tokens_at s c) ≡ receiver.error t.start t.end ▹ leftover (tokens_at s d)
leftover_error s c d t k h = ap leftover k.seen ∙ error_left t.start t.end (leftover (tokens_at s d)) t.kind h
