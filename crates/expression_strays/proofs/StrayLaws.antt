-- No `=` at a token. Assumes nothing.
use mathlib.Core.Path.{◌≡◌, ap, sym, ◌∙◌}
use mathlib.Core.List.{List}
use Prim.Native.Nat.{ℕ}
use Rattle.token.specs.Tokens.{Tok, tokens_at, Took}
use Rattle.token.specs.declared.cursor.Token.{Token}
use Rattle.token.specs.declared.cursor.Cursor.{Cursor}
use Rattle.rules.specs.Out.{before, report, ◌▹◌}
use Rattle.rules.specs.Expected as expected
use Rattle.rules.specs.Document.{no_equals}
use Rattle.rules.specs.Skipping.{ignore_to_newline}

-- no `=` at a token that was seen
pub equals_missing : (s : List ℕ) (c d : Cursor) (t : Token) (m : ℕ) → Took s c t d → (report m expected.equals (before t.start t.end) (before t.start t.end) ▹ ignore_to_newline (tokens_at s c)) ≡ no_equals m (tokens_at s c)
equals_missing s c d t m k = ap (λ (ts : List Tok). report m expected.equals (before t.start t.end) (before t.start t.end) ▹ ignore_to_newline ts) k.seen ∙ sym (ap (no_equals m) k.seen)
