-- What next_token_if and a step back tell a rule. Proved; nothing here needs to be believed.
use Rattle.std.specs.Prelude.{◌≡◌, refl, Bool, false, List, [], ◌∷◌, ℕ}
use Rattle.std.proofs.Common.{ap, sym, ◌∙◌, eq-eqb}
use Rattle.token.specs.Kinds.{number_of}
use Rattle.token.specs.Tokens.{Tok, tok, tokens_at, Good, Took, Back, starts_with}
use Rattle.token.specs.CursorLaws.{back_past}
use Rattle.token.specs.declared.kind.Kind.{Kind}
use Rattle.token.specs.declared.cursor.Token.{Token}
use Rattle.token.specs.declared.cursor.Cursor.{Cursor}
use Rattle.rules.specs.Out.{Out, done}
use Rattle.rules.specs.Table.{next_by, next_token_if}
use Rattle.output.specs.Pour.{Bufs}
use Rattle.output.specs.Walks.{run}

-- next_token_if: a token of the kind was read, or the list starts with none
pub next_got : (s : List ℕ) (c d : Cursor) (t : Token) (kind : Kind) (got : ℕ → ℕ → List Tok → Out) (missing : List Tok → Out) → (t.kind ≡ kind) × Took s c t d → next_token_if kind got missing (tokens_at s c) ≡ got t.start t.end (tokens_at s d)
next_got s c d t kind got missing k =
    ap (next_token_if kind got missing) k.1.seen
    ∙ ap (λ (b : Bool). next_by b got missing t.kind t.start t.end (tokens_at s d)) (eq-eqb _ _ (ap number_of k.0))

none_at : (ts : List Tok) (kind : Kind) (got : ℕ → ℕ → List Tok → Out) (missing : List Tok → Out) → starts_with kind ts ≡ false → next_token_if kind got missing ts ≡ missing ts
none_at [] kind got missing e = refl
none_at (tok k a b ∷ ts) kind got missing e = ap (λ (z : Bool). next_by z got missing k a b ts) e

pub next_none : (s : List ℕ) (c : Cursor) (kind : Kind) (got : ℕ → ℕ → List Tok → Out) (missing : List Tok → Out) → starts_with kind (tokens_at s c) ≡ false → next_token_if kind got missing (tokens_at s c) ≡ missing (tokens_at s c)
next_none s c kind got missing e = none_at (tokens_at s c) kind got missing e

-- the end at a token that is left unread, by a cursor that went back to it
pub back_at : (all : List Tok) (o : Bufs) (s : List ℕ) (c : Cursor) (t : Token) (d e : Cursor) → Good s c → Took s c t d → Back s d e → run all (done (tokens_at s c)) o ≡ run all (done (tokens_at s e)) o
back_at all o s c t d e g k b = ap (λ (x : Cursor). run all (done (tokens_at s x)) o) (sym (back_past s c t d e g k b))
