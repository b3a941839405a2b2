-- What the events of a quiet run are to its tokens: each event reads one token, or two, or the tokens of an unquoted scalar. A walk reads
-- tokens in this sense and leaves others. Nothing here needs to be believed.
use mathlib.Core.Path.{◌≡◌, refl, sym, subst}
use mathlib.Core.List.{List, [], ◌∷◌, ◌++◌}
use Prim.Native.Nat.{ℕ}
use Rattle.token.specs.declared.kind.Kind.{Kind}
use Rattle.token.specs.declared.kind.Kind.TheVariants.{Dot, Equals, Comma, LeftSquareBracket, RightSquareBracket, LeftCurlyBracket, RightCurlyBracket, Whitespace, Comment, Newline}
use Rattle.token.specs.Tokens.{Tok, tok}
use Rattle.rules.specs.declared.event.Encoding.{Encoding}
use Rattle.rules.specs.declared.event.Event.{Event}
use Rattle.rules.specs.Out.{Item, event, event_after, report, trailing_comma, stop, Out, done, ◌▹◌, ◌▸◌, ◌then◌}
use Rattle.rules.specs.InlineTable.{encoding_at}
use Rattle.fitting.specs.Quiet.{Quiet}
use Rattle.fitting.specs.Grammar.{AnyString, Parts, KeyPart, DotOrAtom, UnquotedRest, Scalar}
use Rattle.fitting.specs.Premises.{OpenBracket, open_table, open_array_table, open_array, open_inline_table, scalar_end}

-- the event of one token of the kind, and the brackets open before and after it
pub data ReadsOne (P : Parts) : Kind → Event → List OpenBracket → List OpenBracket → Type 0 where
  reads_dot : {σ : List OpenBracket} → ReadsOne P Dot Event.KeySep σ σ
  reads_equals : {σ : List OpenBracket} → ReadsOne P Equals Event.KeyValSep σ σ
  reads_comma : {σ : List OpenBracket} → ReadsOne P Comma Event.ValueSep σ σ
  reads_table_open : {σ : List OpenBracket} → ReadsOne P LeftSquareBracket Event.StdTableOpen σ (open_table ∷ σ)
  reads_table_close : {σ : List OpenBracket} → ReadsOne P RightSquareBracket Event.StdTableClose (open_table ∷ σ) σ
  reads_array_open : {σ : List OpenBracket} → ReadsOne P LeftSquareBracket Event.ArrayOpen σ (open_array ∷ σ)
  reads_array_close : {σ : List OpenBracket} → ReadsOne P RightSquareBracket Event.ArrayClose (open_array ∷ σ) σ
  reads_inline_table_open : {σ : List OpenBracket} → ReadsOne P LeftCurlyBracket Event.InlineTableOpen σ (open_inline_table ∷ σ)
  reads_inline_table_close : {σ : List OpenBracket} → ReadsOne P RightCurlyBracket Event.InlineTableClose (open_inline_table ∷ σ) σ
  reads_whitespace : {σ : List OpenBracket} → ReadsOne P Whitespace Event.Whitespace σ σ
  reads_newline : {σ : List OpenBracket} → ReadsOne P Newline Event.Newline σ σ
  reads_comment : {σ : List OpenBracket} → ReadsOne P Comment Event.Comment σ σ
  reads_key : {k : Kind} {σ : List OpenBracket} → KeyPart P k → ReadsOne P k (Event.SimpleKey (encoding_at k)) σ σ
  reads_string : {k : Kind} {σ : List OpenBracket} → AnyString k → ReadsOne P k (Event.Scalar (encoding_at k)) σ σ

-- the event of two adjacent tokens of the kind
pub data ReadsTwo : Kind → Event → List OpenBracket → List OpenBracket → Type 0 where
  reads_array_table_open : {σ : List OpenBracket} → ReadsTwo LeftSquareBracket Event.ArrayTableOpen σ (open_array_table ∷ σ)
  reads_array_table_close : {σ : List OpenBracket} → ReadsTwo RightSquareBracket Event.ArrayTableClose (open_array_table ∷ σ) σ

-- the items are events that read the tokens from the first list up to the second; the brackets open before and after them
pub data Reads (P : Parts) : List Item → List Tok → List Tok → List OpenBracket → List OpenBracket → Type 0 where
  read_none : {ts : List Tok} {σ : List OpenBracket} → Reads P [] ts ts σ σ
  read_one : {k : Kind} {g : Event} {a b : ℕ} {is : List Item} {ts rest : List Tok} {σ τ υ : List OpenBracket} → ReadsOne P k g σ τ → Reads P is ts rest τ υ → Reads P (event g a b ∷ is) (tok k a b ∷ ts) rest σ υ
  read_two : {k : Kind} {g : Event} {a b c d : ℕ} {is : List Item} {ts rest : List Tok} {σ τ υ : List OpenBracket} → ReadsTwo k g σ τ → Reads P is ts rest τ υ → Reads P (event g a d ∷ is) (tok k a b ∷ tok k c d ∷ ts) rest σ υ
  read_unquoted : {k : Kind} {a b e : ℕ} {is : List Item} {ts us rest : List Tok} {σ τ : List OpenBracket} → DotOrAtom k → (r : UnquotedRest ts us) → scalar_end b r ≡ e → Reads P is us rest σ τ → Reads P (event (Event.Scalar Encoding.None) a e ∷ is) (tok k a b ∷ ts) rest σ τ

-- a walk whose events read the tokens from ts up to mid, and that leaves rest
abbrev pub WalkTo : Parts → Out → List Tok → List Tok → List Tok → List OpenBracket → List OpenBracket → Type 0
WalkTo P o ts mid rest σ τ = Reads P o.items ts mid σ τ × (o.rest ≡ rest)

-- it leaves what its events do not read
abbrev pub Walk : Parts → Out → List Tok → List Tok → List OpenBracket → List OpenBracket → Type 0
Walk P o ts rest σ τ = WalkTo P o ts rest rest σ τ

pub walk_done : {P : Parts} {σ : List OpenBracket} (ts : List Tok) → Walk P (done ts) ts ts σ σ
walk_done ts = (read_none, refl)

pub walk_one : {P : Parts} {k : Kind} {g : Event} {a b : ℕ} {o : Out} {ts mid rest : List Tok} {σ τ υ : List OpenBracket} → ReadsOne P k g σ τ → WalkTo P o ts mid rest τ υ → WalkTo P (event g a b ▹ o) (tok k a b ∷ ts) mid rest σ υ
walk_one f w = (read_one f w.0, w.1)

pub walk_two : {P : Parts} {k : Kind} {g : Event} {a b c d : ℕ} {o : Out} {ts mid rest : List Tok} {σ τ υ : List OpenBracket} → ReadsTwo k g σ τ → WalkTo P o ts mid rest τ υ → WalkTo P (event g a d ▹ o) (tok k a b ∷ tok k c d ∷ ts) mid rest σ υ
walk_two f w = (read_two f w.0, w.1)

pub reads_append : {P : Parts} {is js : List Item} {ts us rest : List Tok} {σ τ υ : List OpenBracket} → Reads P is ts us σ τ → Reads P js us rest τ υ → Reads P (is ++ js) ts rest σ υ
reads_append read_none t = t
reads_append (read_one f r) t = read_one f (reads_append r t)
reads_append (read_two f r) t = read_two f (reads_append r t)
reads_append (read_unquoted d u e r) t = read_unquoted d u e (reads_append r t)

-- one walk, then another on what it leaves
pub walk_then : {P : Parts} {o : Out} (f : List Tok → Out) {ts us mid rest : List Tok} {σ τ υ : List OpenBracket} → Walk P o ts us σ τ → WalkTo P (f us) us mid rest τ υ → WalkTo P (o then f) ts mid rest σ υ
walk_then {P} {o} f {ts} {us} {mid} {rest} {σ} {τ} {υ} w v = subst (λ x. WalkTo P (o.items ▸ f x) ts mid rest σ υ) (sym w.1) (reads_append w.0 v.0, v.1)

-- the parts of a quiet run are quiet
pub quiet_left : (P : Parts) (is js : List Item) → Quiet P (is ++ js) → Quiet P is
quiet_left P [] js q = tt
quiet_left P (event g a b ∷ is) js q = (q.0, quiet_left P is js q.1)
quiet_left P (event_after g l ∷ is) js q = q
quiet_left P (report m x c u ∷ is) js q = q
quiet_left P (trailing_comma head opened left start ∷ is) js q = q
quiet_left P (stop n ∷ is) js q = q

pub quiet_right : (P : Parts) (is js : List Item) → Quiet P (is ++ js) → Quiet P js
quiet_right P [] js q = q
quiet_right P (event g a b ∷ is) js q = quiet_right P is js q.1
quiet_right P (event_after g l ∷ is) js q = absurd q
quiet_right P (report m x c u ∷ is) js q = absurd q
quiet_right P (trailing_comma head opened left start ∷ is) js q = absurd q
quiet_right P (stop n ∷ is) js q = absurd q

pub quiet_then : (P : Parts) (o : Out) (f : List Tok → Out) → Quiet P (o then f).items → Quiet P o.items × Quiet P (f o.rest).items
quiet_then P o f q = (quiet_left P o.items (f o.rest).items q, quiet_right P o.items (f o.rest).items q)
