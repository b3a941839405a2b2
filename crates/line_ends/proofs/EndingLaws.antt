-- The rule of the ends of lines, a token at a time. Assumes nothing.
use mathlib.Core.Path.{◌≡◌, refl, ap, sym, ◌∙◌}
use mathlib.Core.List.{List, ◌∷◌}
use Prim.Native.Nat.{ℕ}
use Rattle.token.specs.Tokens.{Tok, tok, tokens_at, Took}
use Rattle.token.specs.declared.kind.Kind.{Kind}
use Rattle.token.specs.declared.kind.Kind.TheVariants.{Newline}
use Rattle.token.specs.declared.cursor.Token.{Token}
use Rattle.token.specs.declared.cursor.Cursor.{Cursor}
use Rattle.rules.specs.declared.skipping.InLine.{InLine}
use Rattle.rules.specs.Out.{done, ◌▹◌}
use Rattle.rules.specs.Receiver as receiver
use Rattle.rules.specs.Skipping.{in_line, ending, ending_step, ws_comment_newline}
use Rattle.output.specs.Pour.{Bufs}
use Rattle.output.specs.Walks.{run}
use Rattle.output.specs.WalkLaws.{at_token}

module _ (s : List ℕ) (c d : Cursor) (t : Token) (k : Took s c t d) where
  -- the end of a line begins at its first token
  pub ending_start : ending (tokens_at s c) t.start ≡ ws_comment_newline (tokens_at s c)
  ending_start = ap (λ (ts : List Tok). ending ts t.start) k.seen ∙ sym (ap ws_comment_newline k.seen)

  -- a newline at once is the whole end of a line
  pub newline_ends : t.kind ≡ Newline → ws_comment_newline (tokens_at s c) ≡ (receiver.newline t.start t.end ▹ done (tokens_at s d))
  newline_ends q = ap ws_comment_newline k.seen ∙ ap (λ (j : Kind). ws_comment_newline (tok j t.start t.end ∷ tokens_at s d)) q

  module _ (x y : InLine) (p : x ≡ in_line t.kind) (q : x ≡ y) where
    module _ (all : List Tok) (o : Bufs) where
      pub ending_at : (first : ℕ) → run all (ending (tokens_at s c) first) o ≡ run all (ending_step y first t.start t.end (tokens_at s d) (ending (tokens_at s d) first)) o
      ending_at first = at_token all o s c d t (λ ts. ending ts first) in_line (λ z. ending_step z first t.start t.end (tokens_at s d) (ending (tokens_at s d) first)) x y k refl p q
