-- Turns in inline tables, a token at a time. Assumes nothing.
use mathlib.Core.Path.{◌≡◌, refl, ap, sym, subst, ◌∙◌}
use mathlib.Core.List.{List, [], ◌∷◌, ◌++◌}
use Prim.Native.Nat.{ℕ, suc, ◌-◌, ◌≤◌}
use native.Mathlib.Omega.{arith}
use lib.ListN.{length}
use denote.Enum.Declared.{tag_of}
use types.Run.{OneOf, miss}
use Rattle.token.specs.Records.{count}
use Rattle.token.specs.KindLaws.{every_kind}
use Rattle.token.specs.Tokens.{Tok, all_tokens, tokens_at, Took}
use Rattle.token.specs.CursorLaws.{all_length, left_length}
use Rattle.token.specs.declared.kind.Kind.{Kind}
use Rattle.token.specs.declared.kind.Kind.TheVariants.{Dot}
use Rattle.token.specs.declared.cursor.Token.{Token}
use Rattle.token.specs.declared.cursor.Cursor.{Cursor}
use Rattle.rules.specs.declared.inline_table.Action.{Action}
use Rattle.rules.specs.declared.inline_table.Action.TheVariants as A
use Rattle.rules.specs.declared.inline_table.State.{State}
use Rattle.rules.specs.declared.inline_table.Progress.{Progress}
use Rattle.rules.specs.contracts.inline_table.Action as action
use Rattle.rules.specs.Out.{Place, Item, Out, done, ◌▹◌, ◌▸◌}
use Rattle.rules.specs.Scalar.{starting_of}
use Rattle.rules.specs.Array.{Nest}
use Rattle.rules.specs.InlineTable.{action_of, inline_table_step, inline_table_turn}
use Rattle.output.specs.Pour.{Bufs, pour}
use Rattle.output.specs.Walks.{run}
use Rattle.output.specs.WalkLaws.{at_token}
use Rattle.scalars.specs.ScalarWalks.{Starts}
use Rattle.array_parts.specs.Turning.{Turned}
use Rattle.inline_turns.specs.Irregular.{irregular, Irregular}
use Rattle.array_parts.specs.declared.turn.StateTurn.{StateTurn}
use Rattle.array_parts.specs.declared.turn.Turn.{Turn}

-- inline tables: the token that was read, by the action of the state at its kind
pub table_at : (s : List ℕ) (c d : Cursor) (t : Token) → Took s c t d → (x y : Action) (p : Progress) → x ≡ action_of p.state t.kind → x ≡ y → (all : List Tok) (o : Bufs) (head : Place) (opened : ℕ) (nest : Nest) (loop : Progress → List Tok → Out)
    → run all (inline_table_turn head opened nest loop p (tokens_at s c)) o ≡ run all (inline_table_step y t.kind head opened nest loop p.state p.empty t.start t.end (tokens_at s d)) o
table_at s c d t k x y p e q all o head opened nest loop =
    at_token all o s c d t (inline_table_turn head opened nest loop p) (action_of p.state) (λ z. inline_table_step z t.kind head opened nest loop p.state p.empty t.start t.end (tokens_at s d)) x y k refl e q

-- what an action tells of the kind: a scalar starts one, a dot is one
abbrev Tells : Action → Kind → Type 0
Tells A.Whitespace k = Unit {0}
Tells A.Comment k = Unit {0}
Tells A.Newline k = Unit {0}
Tells A.Eof k = Unit {0}
Tells A.ValueSep k = Unit {0}
Tells A.ExtraComma k = Unit {0}
Tells A.EmptyKey k = Unit {0}
Tells A.KeyValSep k = Unit {0}
Tells A.ExtraAssignment k = Unit {0}
Tells A.KeylessArray k = Unit {0}
Tells A.KeylessTable k = Unit {0}
Tells A.UnassignedArray k = Unit {0}
Tells A.UnassignedTable k = Unit {0}
Tells A.UnassignedScalar k = Starts (starting_of k)
Tells A.Array k = Unit {0}
Tells A.Table k = Unit {0}
Tells A.Scalar k = Starts (starting_of k)
Tells A.Close k = Unit {0}
Tells A.InvalidElement k = Unit {0}
Tells A.ArrayWithoutOpen k = Unit {0}
Tells A.Key k = Unit {0}
Tells A.DotKey k = k ≡ Dot
Tells A.KeyWithoutComma k = Unit {0}
Tells A.DotKeyWithoutComma k = k ≡ Dot

-- the table, a state a line
tells : (st : State) (k : Kind) → Tells (action_of st k) k
tells State.NeedsKey = every_kind (λ (k : Kind). Tells (action_of State.NeedsKey k) k) refl tt tt tt tt tt tt tt tt tt tt tt tt tt tt tt
tells State.NeedsEquals = every_kind (λ (k : Kind). Tells (action_of State.NeedsEquals k) k) tt tt tt tt tt tt tt tt tt tt tt tt tt tt tt tt
tells State.NeedsValue = every_kind (λ (k : Kind). Tells (action_of State.NeedsValue k) k) tt tt tt tt tt tt tt tt tt tt tt tt tt tt tt tt
tells State.NeedsComma = every_kind (λ (k : Kind). Tells (action_of State.NeedsComma k) k) refl tt tt tt tt tt tt tt tt tt tt tt tt tt tt tt

pub action_tells : (st : State) (k : Kind) (x y : Action) → x ≡ action_of st k → x ≡ y → Tells y k
action_tells st k x y p q = subst (λ (z : Action). Tells z k) (sym p ∙ q) (tells st k)

-- the arm behind all other actions that report something
abbrev behind : List ℕ
behind = 0 ∷ 1 ∷ 2 ∷ 4 ∷ 7 ∷ 14 ∷ 15 ∷ 16 ∷ 17 ∷ 20 ∷ 21 ∷ 23 ∷ []

pub last_irregular : (x : Action) → Irregular x → OneOf behind (tag_of action.the_type x) → x ≡ A.DotKeyWithoutComma
last_irregular A.Whitespace i w = absurd (miss irregular 0 tt i)
last_irregular A.Comment i w = absurd (miss irregular 1 tt i)
last_irregular A.Newline i w = absurd (miss irregular 2 tt i)
last_irregular A.Eof i w = absurd (miss behind 3 tt w)
last_irregular A.ValueSep i w = absurd (miss irregular 4 tt i)
last_irregular A.ExtraComma i w = absurd (miss behind 5 tt w)
last_irregular A.EmptyKey i w = absurd (miss behind 6 tt w)
last_irregular A.KeyValSep i w = absurd (miss irregular 7 tt i)
last_irregular A.ExtraAssignment i w = absurd (miss behind 8 tt w)
last_irregular A.KeylessArray i w = absurd (miss behind 9 tt w)
last_irregular A.KeylessTable i w = absurd (miss behind 10 tt w)
last_irregular A.UnassignedArray i w = absurd (miss behind 11 tt w)
last_irregular A.UnassignedTable i w = absurd (miss behind 12 tt w)
last_irregular A.UnassignedScalar i w = absurd (miss behind 13 tt w)
last_irregular A.Array i w = absurd (miss irregular 14 tt i)
last_irregular A.Table i w = absurd (miss irregular 15 tt i)
last_irregular A.Scalar i w = absurd (miss irregular 16 tt i)
last_irregular A.Close i w = absurd (miss irregular 17 tt i)
last_irregular A.InvalidElement i w = absurd (miss behind 18 tt w)
last_irregular A.ArrayWithoutOpen i w = absurd (miss behind 19 tt w)
last_irregular A.Key i w = absurd (miss irregular 20 tt i)
last_irregular A.DotKey i w = absurd (miss irregular 21 tt i)
last_irregular A.KeyWithoutComma i w = absurd (miss behind 22 tt w)
last_irregular A.DotKeyWithoutComma i w = refl

-- the records of the `{` and of the `}`, by the tokens that are left
pub opened_left : (s : List ℕ) (base opened : ℕ) → opened ≤ count s → opened ≡ length (all_tokens s base) - (count s - opened)
opened_left s base opened h = omega (arith, h, all_length s base)

pub brace_left : {s : List ℕ} {c d : Cursor} {t : Token} (base : ℕ) → Took s c t d → c.at ≡ length (all_tokens s base) - suc (length (tokens_at s d))
brace_left {s} {d = d} base k = omega (arith, k.left, k.on, all_length s base, left_length s d)

-- the end of the table: what is said of its `}`, and its close
pub closes : (all : List Tok) (is : List Item) (i : Item) (ts : List Tok) (o o₁ : Bufs) → o₁ ≡ pour all (is ++ (i ∷ [])) o → run all (is ▸ (i ▹ done ts)) o ≡ run all (done ts) o₁
unfolding run
closes all is i ts o o₁ p = ap (λ (b : Bufs). record { out = b; rest = ts }) (sym p)

-- an answer that is made by a function
module _ {s : List ℕ} {c : Cursor} {o : Bufs} {a b : List ℕ} where
  pub table_as : {rule : Nest → (Progress → List Tok → Out) → Out} {r : StateTurn Progress} {t : Turn} {p : Progress} → r ≡ record { turn = t; state = p } → Turned Progress s rule c o a b t.cur t.n p t.next
      → Turned Progress s rule c o a b r.turn.cur r.turn.n r.state r.turn.next
  table_as {rule} e x = subst (λ (z : StateTurn Progress). Turned Progress s rule c o a b z.turn.cur z.turn.n z.state z.turn.next) (sym e) x
