-- The document's loop: a turn goes on only with fewer tokens, so that as many turns as there are tokens are enough, and more change nothing.
-- Nothing here needs to be believed.
use mathlib.Core.Path.{◌≡◌, refl, ap}
use mathlib.Core.List.{List}
use Prim.Native.Nat.{ℕ, ◌≤◌}
use native.Mathlib.Nat.{le_refl}
use lib.ListN.{length}
use Rattle.token.specs.declared.kind.Kind.TheVariants.{Dot, Equals, Whitespace, Comment, Newline, Eof}
use Rattle.token.specs.Tokens.{Tok, tok}
use Rattle.rules.specs.declared.event.Encoding.{Encoding}
use Rattle.rules.specs.declared.document.InDocument.{InDocument}
use Rattle.rules.specs.Out.{Out, ◌▹◌, ◌then◌}
use Rattle.rules.specs.Turns.{turns}
use Rattle.rules.specs.Skipping.{on_comment}
use Rattle.rules.specs.Keys.{simple_key}
use Rattle.rules.specs.Table.{on_table}
use Rattle.rules.specs.Document.{in_document, on_expression_key_val_sep, on_expression_key, on_expression_dot, on_missing_expression_key, on_missing_std_table, document_step, document_turn}
use Rattle.bounds.proofs.TurnsLaws.{Local, turns_enough}
use Rattle.bounds.proofs.NotBack.{same_then, ignore_short, comment_short, table_short, equals_short, key_expression_short, dot_expression_short}
use Rattle.rules.specs.Receiver as receiver

line_same : (x : InDocument) (levels : ℕ) (f g : List Tok → Out) (a b : ℕ) (ts : List Tok) → ((us : List Tok) → length us ≤ length ts → f us ≡ g us) → document_step x levels f a b ts ≡ document_step x levels g a b ts
line_same InDocument.OpenSquare levels f g a b ts e = same_then (on_table a b ts) f g (length ts) (table_short a b ts) e
line_same InDocument.CloseSquare levels f g a b ts e = same_then (on_missing_std_table a b ts) f g (length ts) (ignore_short ts) e
line_same (InDocument.Key k) levels f g a b ts e = same_then (on_expression_key levels k a b ts) f g (length ts) (key_expression_short levels ts) e
line_same InDocument.Equals levels f g a b ts e = same_then (receiver.simple_key Encoding.None a a ▹ on_expression_key_val_sep levels a b ts) f g (length ts) (equals_short levels a b ts) e
line_same InDocument.Dot levels f g a b ts e = same_then (on_expression_dot levels a b ts) f g (length ts) (dot_expression_short levels a b ts) e
line_same InDocument.Stray levels f g a b ts e = same_then (on_missing_expression_key a b ts) f g (length ts) (ignore_short ts) e
line_same InDocument.Whitespace levels f g a b ts e = ap (λ x. receiver.whitespace a b ▹ x) (e ts (le_refl _))
line_same InDocument.Newline levels f g a b ts e = ap (λ x. receiver.newline a b ▹ x) (e ts (le_refl _))
line_same InDocument.Comment levels f g a b ts e = same_then (on_comment a b ts) f g (length ts) (comment_short a b ts) e
line_same InDocument.Eof levels f g a b ts e = refl

pub document_local : (levels : ℕ) → Local (document_turn levels)
document_local levels f g u (tok k a b) ts e = line_same (in_document k) levels (f u) (g u) a b ts (e u)

-- more turns than tokens change nothing
pub document_enough : (levels n m : ℕ) (ts : List Tok) → length ts ≤ n → length ts ≤ m → turns (document_turn levels) n tt ts ≡ turns (document_turn levels) m tt ts
document_enough levels n m ts = turns_enough (document_turn levels) (λ f g u. refl) (document_local levels) n m tt ts
