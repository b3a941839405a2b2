-- Two lists that are read by the same events from the same place on are the same but for how an unquoted scalar was cut; and the words of the
-- events of a quiet run tell its events. Nothing here needs to be believed.
use mathlib.Core.Path.{◌≡◌, refl, ap, sym, subst, subst₂, ◌∙◌}
use mathlib.Core.Bool.{cond}
use mathlib.Core.List.{List, [], ◌∷◌}
use Prim.Native.Nat.{ℕ}
use native.Mathlib.Omega.{arith}
use lib.Dec.{eqb}
use Rattle.token.specs.declared.kind.Kind.{Kind}
use Rattle.token.specs.declared.kind.Kind.TheVariants.{Dot, Equals, Comma, LeftSquareBracket, RightSquareBracket, LeftCurlyBracket, RightCurlyBracket, Whitespace, Comment, Newline, LiteralString, BasicString, MlLiteralString, MlBasicString, Eof}
use Rattle.token.specs.Tokens.{Tok, tok}
use Rattle.token.specs.Laid.{Laid, laid_token}
use Rattle.rules.specs.declared.event.Encoding.{Encoding}
use Rattle.rules.specs.declared.event.Event.{Event}
use Rattle.rules.specs.Out.{Item, event, event_after, report, trailing_comma, stop}
use Rattle.rules.specs.InlineTable.{encoding_at}
use Rattle.rules.specs.Words.{event_number, encoding_of, events_of}
use Rattle.fitting.specs.Quiet.{kind_by_encoding, Quiet}
use Rattle.fitting.specs.Grammar.{AnyString, literal, basic, multi_line_literal, multi_line_basic, Parts, KeyPart, atom_part, string_part, Scalar}
use Rattle.fitting.specs.Premises.{OpenBracket, SameButForCuts, same_token, same_two_tokens, cut_otherwise}
use Rattle.fitting.proofs.Reading.{ReadsOne, reads_dot, reads_equals, reads_comma, reads_table_open, reads_table_close, reads_array_open, reads_array_close, reads_inline_table_open, reads_inline_table_close, reads_whitespace, reads_newline, reads_comment, reads_key, reads_string, ReadsTwo, reads_array_table_open, reads_array_table_close, Reads, read_none, read_one, read_two, read_unquoted}
use Rattle.fitting.proofs.WellRead.{two_wide, unquoted_laid}

-- the kind of the token that an event reads
kind_read : Event → Kind
kind_read Event.StdTableOpen = LeftSquareBracket
kind_read Event.StdTableClose = RightSquareBracket
kind_read Event.ArrayTableOpen = LeftSquareBracket
kind_read Event.ArrayTableClose = RightSquareBracket
kind_read (Event.SimpleKey e) = kind_by_encoding e
kind_read Event.KeySep = Dot
kind_read Event.KeyValSep = Equals
kind_read (Event.Scalar e) = kind_by_encoding e
kind_read Event.ValueSep = Comma
kind_read Event.ArrayOpen = LeftSquareBracket
kind_read Event.ArrayClose = RightSquareBracket
kind_read Event.InlineTableOpen = LeftCurlyBracket
kind_read Event.InlineTableClose = RightCurlyBracket
kind_read Event.Whitespace = Whitespace
kind_read Event.Comment = Comment
kind_read Event.Newline = Newline
kind_read Event.Error = Eof

string_kind : {k : Kind} → AnyString k → kind_by_encoding (encoding_at k) ≡ k
string_kind literal = refl
string_kind basic = refl
string_kind multi_line_literal = refl
string_kind multi_line_basic = refl

part_kind : {P : Parts} {k : Kind} → KeyPart P k → kind_by_encoding (encoding_at k) ≡ k
part_kind (atom_part l) = refl
part_kind (string_part s l) = string_kind s

one_kind : {P : Parts} {k : Kind} {g : Event} {σ τ : List OpenBracket} → ReadsOne P k g σ τ → kind_read g ≡ k
unfolding kind_read
one_kind reads_dot = refl
one_kind reads_equals = refl
one_kind reads_comma = refl
one_kind reads_table_open = refl
one_kind reads_table_close = refl
one_kind reads_array_open = refl
one_kind reads_array_close = refl
one_kind reads_inline_table_open = refl
one_kind reads_inline_table_close = refl
one_kind reads_whitespace = refl
one_kind reads_newline = refl
one_kind reads_comment = refl
one_kind (reads_key p) = part_kind p
one_kind (reads_string s) = string_kind s

two_kind : {k : Kind} {g : Event} {σ τ : List OpenBracket} → ReadsTwo k g σ τ → kind_read g ≡ k
unfolding kind_read
two_kind reads_array_table_open = refl
two_kind reads_array_table_close = refl

-- how many tokens an event reads: one, two, or an unquoted scalar's
data Reading : Type 0 where
  by_one by_two by_scalar : Reading

by_encoding : Encoding → Reading
by_encoding Encoding.None = by_scalar
by_encoding Encoding.LiteralString = by_one
by_encoding Encoding.BasicString = by_one
by_encoding Encoding.MlLiteralString = by_one
by_encoding Encoding.MlBasicString = by_one

reading : Event → Reading
unfolding by_encoding
reading Event.StdTableOpen = by_one
reading Event.StdTableClose = by_one
reading Event.ArrayTableOpen = by_two
reading Event.ArrayTableClose = by_two
reading (Event.SimpleKey e) = by_one
reading Event.KeySep = by_one
reading Event.KeyValSep = by_one
reading (Event.Scalar e) = by_encoding e
reading Event.ValueSep = by_one
reading Event.ArrayOpen = by_one
reading Event.ArrayClose = by_one
reading Event.InlineTableOpen = by_one
reading Event.InlineTableClose = by_one
reading Event.Whitespace = by_one
reading Event.Comment = by_one
reading Event.Newline = by_one
reading Event.Error = by_one

one_reading : {P : Parts} {k : Kind} {g : Event} {σ τ : List OpenBracket} → ReadsOne P k g σ τ → reading g ≡ by_one
unfolding reading by_encoding
one_reading reads_dot = refl
one_reading reads_equals = refl
one_reading reads_comma = refl
one_reading reads_table_open = refl
one_reading reads_table_close = refl
one_reading reads_array_open = refl
one_reading reads_array_close = refl
one_reading reads_inline_table_open = refl
one_reading reads_inline_table_close = refl
one_reading reads_whitespace = refl
one_reading reads_newline = refl
one_reading reads_comment = refl
one_reading (reads_key p) = refl
one_reading (reads_string literal) = refl
one_reading (reads_string basic) = refl
one_reading (reads_string multi_line_literal) = refl
one_reading (reads_string multi_line_basic) = refl

two_reading : {k : Kind} {g : Event} {σ τ : List OpenBracket} → ReadsTwo k g σ τ → reading g ≡ by_two
unfolding reading
two_reading reads_array_table_open = refl
two_reading reads_array_table_close = refl

scalar_reading : reading (Event.Scalar Encoding.None) ≡ by_scalar
unfolding reading by_encoding
scalar_reading = refl

differ : (r : Reading) → r ≡ by_one → r ≡ by_two → ⊥
differ r p q = let z : ◌≡◌ {A = ℕ} 0 1 = cc in omega arith

differ_scalar : (r : Reading) → r ≡ by_one → r ≡ by_scalar → ⊥
differ_scalar r p q = let z : ◌≡◌ {A = ℕ} 0 1 = cc in omega arith

one_two : {P : Parts} {k l : Kind} {g : Event} {σ τ σ' τ' : List OpenBracket} → ReadsOne P k g σ τ → ReadsTwo l g σ' τ' → ⊥
one_two {g = g} o p = differ (reading g) (one_reading o) (two_reading p)

one_scalar : {P : Parts} {k : Kind} {σ τ : List OpenBracket} → ReadsOne P k (Event.Scalar Encoding.None) σ τ → ⊥
one_scalar o = differ_scalar (reading (Event.Scalar Encoding.None)) (one_reading o) scalar_reading

two_same : {kind encoding : ℕ} {es : List (List ℕ)} {k l : Kind} {a b c d : ℕ} {ts us : List Tok} → k ≡ l → b ≡ c → SameButForCuts es ts us
    → SameButForCuts ((kind ∷ encoding ∷ a ∷ d ∷ []) ∷ es) (tok k a b ∷ tok k b d ∷ ts) (tok l a c ∷ tok l c d ∷ us)
two_same {kind} {encoding} {es} {k} {l} {a} {b} {c} {d} {ts} {us} e f h =
    subst₂ (λ x y. SameButForCuts ((kind ∷ encoding ∷ a ∷ d ∷ []) ∷ es) (tok k a b ∷ tok k b d ∷ ts) (tok x a y ∷ tok x y d ∷ us)) e f (same_two_tokens h)

pub reads_same : {P : Parts} (all : List Tok) {is : List Item} {ts vs us ws : List Tok} {p p' : ℕ} {σ τ σ' τ' : List OpenBracket} → Reads P is ts vs σ τ → Reads P is us ws σ' τ' → Laid p ts → Laid p' us → SameButForCuts [] vs ws → SameButForCuts (events_of all is) ts us
reads_same all read_none read_none l m h = h
reads_same all (read_one {g = g} {is = is} {ts = ts} o r) (read_one {k = k} {a = a} {b = b} {ts = us} o' r') (laid_token w l) (laid_token w' m) h =
    subst (λ x. SameButForCuts (events_of all (event g a b ∷ is)) (tok x a b ∷ ts) (tok k a b ∷ us)) (sym (one_kind o') ∙ one_kind o) (same_token (reads_same all r r' l m h))
reads_same all (read_one o r) (read_two o' r') l m h = absurd (one_two o o')
reads_same all (read_one o r) (read_unquoted d u e r') l m h = absurd (one_scalar o)
reads_same all (read_two o r) (read_one o' r') l m h = absurd (one_two o' o)
reads_same all (read_two o r) (read_two o' r') (laid_token w (laid_token x l)) (laid_token w' (laid_token x' m)) h = two_same (sym (two_kind o) ∙ two_kind o') (two_wide o w ∙ sym (two_wide o' w')) (reads_same all r r' l m h)
reads_same all (read_two o r) (read_unquoted d u e r') l m h = elim o [ ]
reads_same all (read_unquoted d u e r) (read_two o' r') l m h = elim o' [ ]
reads_same all (read_unquoted d u e r) (read_one o' r') l m h = absurd (one_scalar o')
reads_same all (read_unquoted {b = b} {ts = ts} {us = vs} d u e r) (read_unquoted {b = c} {ts = us} {us = ws} d' u' e' r') (laid_token w l) (laid_token w' m) h =
    cut_otherwise d d' u u' e e' (reads_same all r r' (subst (λ x. Laid x vs) e (unquoted_laid b u l).laid) (subst (λ x. Laid x ws) e' (unquoted_laid c u' m).laid) h)

-- from words back to events
encoding_from : ℕ → Encoding
encoding_from n = cond (eqb n 0) Encoding.None (cond (eqb n 1) Encoding.LiteralString (cond (eqb n 2) Encoding.BasicString (cond (eqb n 3) Encoding.MlLiteralString Encoding.MlBasicString)))

event_from : ℕ → ℕ → Event
unfolding encoding_from
event_from k e =
    cond (eqb k 1) Event.StdTableOpen (cond (eqb k 2) Event.StdTableClose (cond (eqb k 3) Event.ArrayTableOpen (cond (eqb k 4) Event.ArrayTableClose
    (cond (eqb k 5) (Event.SimpleKey (encoding_from e)) (cond (eqb k 6) Event.KeySep (cond (eqb k 7) Event.KeyValSep (cond (eqb k 8) (Event.Scalar (encoding_from e))
    (cond (eqb k 9) Event.ValueSep (cond (eqb k 10) Event.ArrayOpen (cond (eqb k 11) Event.ArrayClose (cond (eqb k 12) Event.InlineTableOpen
    (cond (eqb k 13) Event.InlineTableClose (cond (eqb k 14) Event.Whitespace (cond (eqb k 15) Event.Comment (cond (eqb k 16) Event.Newline Event.Error)))))))))))))))

item_from : List ℕ → Item
item_from [] = stop 0
item_from (k ∷ []) = stop 0
item_from (k ∷ e ∷ []) = stop 0
item_from (k ∷ e ∷ a ∷ []) = stop 0
item_from (k ∷ e ∷ a ∷ b ∷ r) = event (event_from k e) a b

items_from : List (List ℕ) → List Item
items_from [] = []
items_from (w ∷ ws) = item_from w ∷ items_from ws

event_back : (g : Event) → event_from (event_number g) (encoding_of g) ≡ g
unfolding event_from encoding_from
event_back Event.StdTableOpen = refl
event_back Event.StdTableClose = refl
event_back Event.ArrayTableOpen = refl
event_back Event.ArrayTableClose = refl
event_back (Event.SimpleKey Encoding.None) = refl
event_back (Event.SimpleKey Encoding.LiteralString) = refl
event_back (Event.SimpleKey Encoding.BasicString) = refl
event_back (Event.SimpleKey Encoding.MlLiteralString) = refl
event_back (Event.SimpleKey Encoding.MlBasicString) = refl
event_back Event.KeySep = refl
event_back Event.KeyValSep = refl
event_back (Event.Scalar Encoding.None) = refl
event_back (Event.Scalar Encoding.LiteralString) = refl
event_back (Event.Scalar Encoding.BasicString) = refl
event_back (Event.Scalar Encoding.MlLiteralString) = refl
event_back (Event.Scalar Encoding.MlBasicString) = refl
event_back Event.ValueSep = refl
event_back Event.ArrayOpen = refl
event_back Event.ArrayClose = refl
event_back Event.InlineTableOpen = refl
event_back Event.InlineTableClose = refl
event_back Event.Whitespace = refl
event_back Event.Comment = refl
event_back Event.Newline = refl
event_back Event.Error = refl

items_back : (P : Parts) (all : List Tok) (is : List Item) → Quiet P is → items_from (events_of all is) ≡ is
unfolding items_from item_from
items_back P all [] q = refl
items_back P all (event g a b ∷ is) q = λ i. event (event_back g i) a b ∷ items_back P all is q.1 i
items_back P all (event_after g l ∷ is) q = absurd q
items_back P all (report m x c u ∷ is) q = absurd q
items_back P all (trailing_comma head opened left start ∷ is) q = absurd q
items_back P all (stop n ∷ is) q = absurd q

-- quiet runs with the same event words have the same items
pub words_tell : (P : Parts) (all all' : List Tok) (is js : List Item) → Quiet P is → Quiet P js → events_of all is ≡ events_of all' js → is ≡ js
words_tell P all all' is js q r e = sym (items_back P all is q) ∙ ap items_from e ∙ items_back P all' js r
