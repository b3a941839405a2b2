-- From the rules to the grammar, lines and documents: a list on which the document rule is quiet fits. Nothing here needs to be believed.
use mathlib.Core.Path.{◌≡◌, refl}
use mathlib.Core.Bool.{Bool, true, false, false≢true}
use mathlib.Core.List.{List, [], ◌∷◌}
use Prim.Native.Nat.{ℕ, zero, suc, ◌≤◌}
use native.Mathlib.Nat.{le_refl, le_trans, le_step, le_of_suc-le-suc, not-suc-le-zero}
use lib.ListN.{length}
use Rattle.token.specs.declared.kind.Kind.{Kind}
use Rattle.token.specs.declared.kind.Kind.TheVariants.{Equals, LeftSquareBracket, RightSquareBracket, Whitespace, Comment, Eof}
use Rattle.token.specs.Tokens.{Tok, tok}
use Rattle.rules.specs.declared.skipping.Bracket.{Bracket}
use Rattle.rules.specs.declared.skipping.InLine.{InLine}
use Rattle.rules.specs.declared.value.InValue.{InValue}
use Rattle.rules.specs.declared.document.InDocument.{InDocument}
use Rattle.rules.specs.Out.{span, after, report, Out, done, ◌▹◌, ◌then◌}
use Rattle.rules.specs.Turns.{turns}
use Rattle.rules.specs.Skipping.{behind_comment, ignore_to_newline, after_comment, on_comment, close_square, ending_step, ending, ws_comment_newline, eof}
use Rattle.rules.specs.Keys.{whitespace_step, opt_whitespace, opt_dot_keys, key, key_valid}
use Rattle.rules.specs.Value.{value_step, value}
use Rattle.rules.specs.Table.{next_by, next_token_if, unclosed, closed, header, on_table}
use Rattle.rules.specs.Document.{on_expression_key_val_sep, no_equals, expression, document_step, document_turn, document}
use Rattle.fitting.specs.Quiet.{Quiet}
use Rattle.fitting.specs.Grammar.{OptWhitespace, no_whitespace, a_whitespace, Parts, KeyPart, Key, a_key, Inside, Value, a_scalar, an_array, an_inline_table, Pair, a_pair, Header, table_header, array_table_header, Expression, no_expression, pair_expression, header_expression, no_comment, a_comment, a_line, Document, line_and_more, last_line, Nested, FitsBy}
use Rattle.fitting.specs.Premises.{OneEofLast, only_eof, before_eof, Regular}
use Rattle.fitting.proofs.Reading.{quiet_then}
use Rattle.fitting.proofs.Suffixes.{whole, later, suffix_trans, suffix_length, regular_tail, suffix_regular, not_empty, widen, whitespace_merge, part_not_eof, suffix_whitespace, suffix_comment, suffix_dots, suffix_key, suffix_header, NestSuffix, suffix_value, suffix_pair, suffix_nested}
use Rattle.fitting.proofs.Views.{InLineView, line_whitespace, line_comment, line_newline, line_eof, line_other, in_line_view, InValueView, value_nothing, value_equals, value_open_curly, value_close_curly, value_open_square, value_close_square, value_scalar, in_value_view, InDocumentView, document_open_square, document_close_square, document_key, document_equals, document_dot, document_stray, document_whitespace, document_newline, document_comment, document_eof, in_document_view, SameView, same_kinds, other_kinds, same_view}
use Rattle.fitting.proofs.FitsQuietDocument.{LineEnd, at_newline, at_eof, line_end_length}
use Rattle.fitting.proofs.QuietFitsKeys.{keys_fit, key_fits, key_valid_lem}
use Rattle.fitting.proofs.QuietFitsArrays.{scalar_fits}
use Rattle.fitting.proofs.QuietFitsTables.{open_fits}
use Rattle.rules.specs.Messages as message
use Rattle.rules.specs.Expected as expected
use Rattle.rules.specs.Receiver as receiver

value_step_lem : (P : Parts) (levels : ℕ) {k : Kind} {x : InValue} → InValueView k x → (a b : ℕ) (ts : List Tok) (again : Out) → Regular (tok k a b ∷ ts) → Quiet P (value_step x levels k a b ts (done (tok k a b ∷ ts)) again).items → Value (Nested P levels) (tok k a b ∷ ts) (value_step x levels k a b ts (done (tok k a b ∷ ts)) again).rest
value_step_lem P levels value_nothing a b ts again g q = absurd (q.0.0 refl)
value_step_lem P levels value_equals a b ts again g q = absurd q
value_step_lem P levels value_open_curly a b ts again g q = an_inline_table (open_fits P levels Bracket.Curly a b ts (regular_tail tt g) q)
value_step_lem P levels value_close_curly a b ts again g q = absurd q
value_step_lem P levels value_open_square a b ts again g q = an_array (open_fits P levels Bracket.Square a b ts (regular_tail tt g) q)
value_step_lem P levels value_close_square a b ts again g q = absurd q
value_step_lem P levels (value_scalar v) a b ts again g q = a_scalar (scalar_fits v a b ts)

value_fits : (P : Parts) (levels : ℕ) (ts : List Tok) → Regular ts → Quiet P (value levels ts).items → Value (Nested P levels) ts (value levels ts).rest
value_fits P levels [] g q = absurd q
value_fits P levels (tok k a b ∷ ts) g q = value_step_lem P levels (in_value_view k) a b ts (value levels ts) g q

whitespace_step_lem : {k : Kind} {x : InLine} → InLineView k x → (a b : ℕ) (ts : List Tok) → OptWhitespace (tok k a b ∷ ts) (whitespace_step x a b ts (done (tok k a b ∷ ts))).rest
whitespace_step_lem line_whitespace a b ts = a_whitespace
whitespace_step_lem line_comment a b ts = no_whitespace
whitespace_step_lem line_newline a b ts = no_whitespace
whitespace_step_lem line_eof a b ts = no_whitespace
whitespace_step_lem line_other a b ts = no_whitespace

whitespace_fits : (ts : List Tok) → OptWhitespace ts (opt_whitespace ts).rest
whitespace_fits [] = no_whitespace
whitespace_fits (tok k a b ∷ ts) = whitespace_step_lem (in_line_view k) a b ts

-- the end of a line
abbrev EndsLine : List Tok → List Tok → Type 0
EndsLine ts rest = (mid : List Tok) × LineEnd ts mid rest

comment_step : (P : Parts) {k : Kind} {x : InLine} → InLineView k x → (a e c d : ℕ) (ts : List Tok) → Regular (tok k c d ∷ ts) → Quiet P (behind_comment x a c d ts (ignore_to_newline ts)).items → EndsLine (tok Comment a e ∷ tok k c d ∷ ts) (behind_comment x a c d ts (ignore_to_newline ts)).rest
comment_step P line_newline a e c d ts g q = (_, at_newline no_whitespace a_comment)
comment_step P line_eof a e c d ts g q = eof_comment g.ends
  where
    eof_comment : {a e c d : ℕ} {ts : List Tok} → OneEofLast (tok Eof c d ∷ ts) → EndsLine (tok Comment a e ∷ tok Eof c d ∷ ts) ts
    eof_comment only_eof = (_, at_eof no_whitespace a_comment)
    eof_comment (before_eof n h) = absurd (n refl)
comment_step P line_other a e c d ts g q = absurd q
comment_step P line_comment a e c d ts g q = absurd q
comment_step P line_whitespace a e c d ts g q = absurd q

comment_fits : (P : Parts) (a e : ℕ) (ts : List Tok) → Regular ts → Quiet P (after_comment ts a).items → EndsLine (tok Comment a e ∷ ts) (after_comment ts a).rest
comment_fits P a e [] g q = absurd (not_empty g)
comment_fits P a e (tok k c d ∷ ts) g q = comment_step P (in_line_view k) a e c d ts g q

eof_ends : {a b : ℕ} {ts : List Tok} → OneEofLast (tok Eof a b ∷ ts) → EndsLine (tok Eof a b ∷ ts) ts
eof_ends only_eof = (_, at_eof no_whitespace no_comment)
eof_ends (before_eof n h) = absurd (n refl)

widen_end : {a b : ℕ} {ts mid rest : List Tok} → Regular (tok Whitespace a b ∷ ts) → LineEnd ts mid rest → LineEnd (tok Whitespace a b ∷ ts) mid rest
widen_end g (at_newline w c) = at_newline (widen g w) c
widen_end g (at_eof w c) = at_eof (widen g w) c

ending_step_lem : (P : Parts) {k : Kind} {x : InLine} → InLineView k x → (first a b : ℕ) (ts : List Tok) → (Regular ts → Quiet P (ending ts first).items → EndsLine ts (ending ts first).rest) → Regular (tok k a b ∷ ts) → Quiet P (ending_step x first a b ts (ending ts first)).items → EndsLine (tok k a b ∷ ts) (ending_step x first a b ts (ending ts first)).rest
ending_step_lem P line_whitespace first a b ts ih g q = let h = ih (regular_tail tt g) q.1 in (h.0, widen_end g h.1)
ending_step_lem P line_comment first a b ts ih g q = comment_fits P a b ts (regular_tail tt g) q.1
ending_step_lem P line_newline first a b ts ih g q = (_, at_newline no_whitespace no_comment)
ending_step_lem P line_eof first a b ts ih g q = eof_ends g.ends
ending_step_lem P line_other first a b ts ih g q = absurd q

ending_fits : (P : Parts) (ts : List Tok) (first : ℕ) → Regular ts → Quiet P (ending ts first).items → EndsLine ts (ending ts first).rest
ending_fits P [] first g q = absurd (not_empty g)
ending_fits P (tok k a b ∷ ts) first g q = ending_step_lem P (in_line_view k) first a b ts (ending_fits P ts first) g q

line_end_fits : (P : Parts) (ts : List Tok) → Regular ts → Quiet P (ws_comment_newline ts).items → EndsLine ts (ws_comment_newline ts).rest
line_end_fits P [] g q = absurd (not_empty g)
line_end_fits P (tok k a b ∷ ts) g q = ending_fits P (tok k a b ∷ ts) a g q

-- a key-value pair
equals_fits : (P : Parts) (levels a b : ℕ) (ts : List Tok) → Regular ts → Quiet P (on_expression_key_val_sep levels a b ts).items → (us : List Tok) × (vs : List Tok) × OptWhitespace ts us × Value (Nested P levels) us vs × EndsLine vs (on_expression_key_val_sep levels a b ts).rest
equals_fits P levels a b ts g q =
    let s = quiet_then P (opt_whitespace ts then value levels) ws_comment_newline q.1 in
    let r = quiet_then P (opt_whitespace ts) (value levels) s.0 in
    let w = whitespace_fits ts in
    let g₁ = suffix_regular (suffix_whitespace w) g in
    let v = value_fits P levels (opt_whitespace ts).rest g₁ r.1 in
    (_, _, w, v, line_end_fits P _ (suffix_regular (suffix_value (suffix_nested P levels) v) g₁) s.1)

-- a pair, and the end of its line
abbrev PairLine : Parts → ℕ → List Tok → List Tok → Type 0
PairLine P levels ts rest = (vs : List Tok) × Pair P (Nested P levels) ts vs × EndsLine vs rest

next_equals : (P : Parts) (m levels : ℕ) {k : Kind} {t : Bool} → SameView k Equals t → (a b : ℕ) {ks ts : List Tok} (us : List Tok) → Key P ks ts → OptWhitespace ts (tok k a b ∷ us) → Regular (tok k a b ∷ us)
    → Quiet P (next_by t (on_expression_key_val_sep levels) (no_equals m) k a b us).items → PairLine P levels ks (next_by t (on_expression_key_val_sep levels) (no_equals m) k a b us).rest
next_equals P m levels same_kinds a b us k w g q = let r = equals_fits P levels a b us (regular_tail tt g) q in (r.1, a_pair k w r.2 r.3, r.4)
next_equals P m levels other_kinds a b us k w g q = absurd q

equals_or_not : (P : Parts) (m levels : ℕ) {ks ts : List Tok} (us : List Tok) → Key P ks ts → OptWhitespace ts us → Regular us → Quiet P (next_token_if Equals (on_expression_key_val_sep levels) (no_equals m) us).items → PairLine P levels ks (next_token_if Equals (on_expression_key_val_sep levels) (no_equals m) us).rest
equals_or_not P m levels [] k w g q = absurd (not_empty g)
equals_or_not P m levels (tok j a b ∷ us) k w g q = next_equals P m levels (same_view j Equals) a b us k w g q

expression_fits : (P : Parts) (m levels : ℕ) {k : Kind} (a b : ℕ) → KeyPart P k → (ts : List Tok) → Regular ts → Quiet P (expression m levels ts).items → PairLine P levels (tok k a b ∷ ts) (expression m levels ts).rest
expression_fits P m levels a b p ts g q =
    let s = quiet_then P (opt_dot_keys ts then opt_whitespace) (next_token_if Equals (on_expression_key_val_sep levels) (no_equals m)) q in
    let r = quiet_then P (opt_dot_keys ts) opt_whitespace s.0 in
    let d = (keys_fit P ts).opt g r.0 in
    let g₁ = suffix_regular (suffix_dots d.1) g in
    let w = whitespace_merge d.2 (whitespace_fits (opt_dot_keys ts).rest) g₁ in
    equals_or_not P m levels _ (a_key p d.1) w (suffix_regular (suffix_whitespace w) g₁) s.1

-- the close of a header, and the end of its line
data Closes : Bool → List Tok → List Tok → Type 0 where
  closes_table : {a b : ℕ} {ts rest : List Tok} → EndsLine ts rest → Closes false (tok RightSquareBracket a b ∷ ts) rest
  closes_array_table : {a b c d : ℕ} {ts rest : List Tok} → EndsLine ts rest → Closes true (tok RightSquareBracket a b ∷ tok RightSquareBracket c d ∷ ts) rest

-- the second `]` of an array table
abbrev second : ℕ → ℕ → ℕ → List Tok → Out
second c e f us = receiver.array_table_close c f ▹ ws_comment_newline us

abbrev single : ℕ → ℕ → ℕ → List Tok → Out
single a c d us = report message.unclosed_array_table expected.close_square (span a d) (after c d) ▹ ignore_to_newline us

second_step : (P : Parts) {k : Kind} {t : Bool} → SameView k RightSquareBracket t → (a c d e f : ℕ) (ts : List Tok) → Regular (tok k e f ∷ ts) → Quiet P (next_by t (second c) (single a c d) k e f ts).items → Closes true (tok RightSquareBracket c d ∷ tok k e f ∷ ts) (next_by t (second c) (single a c d) k e f ts).rest
second_step P same_kinds a c d e f ts g q = closes_array_table (line_end_fits P ts (regular_tail tt g) q.1)
second_step P other_kinds a c d e f ts g q = absurd q

closed_fits : (P : Parts) (array : Bool) (a c d : ℕ) (ts : List Tok) → Regular ts → Quiet P (closed array a c d ts).items → Closes array (tok RightSquareBracket c d ∷ ts) (closed array a c d ts).rest
closed_fits P false a c d ts g q = closes_table (line_end_fits P ts g q.1)
closed_fits P true a c d [] g q = absurd (not_empty g)
closed_fits P true a c d (tok k e f ∷ ts) g q = second_step P (same_view k RightSquareBracket) a c d e f ts g q

unclosed_loud : (P : Parts) (array valid : Bool) (a b : ℕ) (ts : List Tok) → valid ≡ true → Quiet P (unclosed array valid a b ts).items → ⊥
unclosed_loud P true true a b ts h q = q
unclosed_loud P false true a b ts h q = q
unclosed_loud P array false a b ts h q = false≢true h

close_step : (P : Parts) (array valid : Bool) {k : Kind} {t : Bool} → SameView k RightSquareBracket t → (a b c d : ℕ) (ts : List Tok) → valid ≡ true → Regular (tok k c d ∷ ts) → Quiet P (next_by t (closed array a) (unclosed array valid a b) k c d ts).items → Closes array (tok k c d ∷ ts) (next_by t (closed array a) (unclosed array valid a b) k c d ts).rest
close_step P array valid same_kinds a b c d ts h g q = closed_fits P array a c d ts (regular_tail tt g) q
close_step P array valid {k} other_kinds a b c d ts h g q = absurd (unclosed_loud P array valid a b (tok k c d ∷ ts) h q)

close_fits : (P : Parts) (array valid : Bool) (a b : ℕ) (ts : List Tok) → valid ≡ true → Regular ts → Quiet P (next_token_if RightSquareBracket (closed array a) (unclosed array valid a b) ts).items → Closes array ts (next_token_if RightSquareBracket (closed array a) (unclosed array valid a b) ts).rest
close_fits P array valid a b [] h g q = absurd (not_empty g)
close_fits P array valid a b (tok k c d ∷ ts) h g q = close_step P array valid (same_view k RightSquareBracket) a b c d ts h g q

abbrev HeaderFits : Parts → Bool → List Tok → List Tok → Type 0
HeaderFits P array ts rest = (us : List Tok) × (vs : List Tok) × (ws : List Tok) × OptWhitespace ts us × Key P us vs × OptWhitespace vs ws × Closes array ws rest

header_fits : (P : Parts) (array : Bool) (a b : ℕ) (ts : List Tok) → Regular ts → Quiet P (header array a b ts).items → HeaderFits P array ts (header array a b ts).rest
header_fits P array a b ts g q =
    let us = (opt_whitespace ts).rest in
    let s = quiet_then P (opt_whitespace ts) (λ us. key message.invalid_table us then opt_whitespace then next_token_if RightSquareBracket (closed array a) (unclosed array (key_valid us) a b)) q in
    let r = quiet_then P (key message.invalid_table us then opt_whitespace) (next_token_if RightSquareBracket (closed array a) (unclosed array (key_valid us) a b)) s.1 in
    let p = quiet_then P (key message.invalid_table us) opt_whitespace r.0 in
    let w = whitespace_fits ts in
    let k = key_fits P message.invalid_table us (suffix_regular (suffix_whitespace w) g) p.0 in
    let v = whitespace_merge w k.2 g in
    let g₁ = suffix_regular (suffix_key k.3) (suffix_regular (suffix_whitespace v) g) in
    let x = whitespace_merge k.4 (whitespace_fits (key message.invalid_table us).rest) g₁ in
    (_, _, _, v, k.3, x, close_fits P array (key_valid us) a b _ (key_valid_lem P message.invalid_table us p.0) (suffix_regular (suffix_whitespace x) g₁) r.1)

-- a header, and the end of its line
abbrev HeaderLine : Parts → List Tok → List Tok → Type 0
HeaderLine P ts rest = (vs : List Tok) × Header P ts vs × EndsLine vs rest

table_line : {P : Parts} {a b : ℕ} {ts us vs ws rest : List Tok} → OptWhitespace ts us → Key P us vs → OptWhitespace vs ws → Closes false ws rest → HeaderLine P (tok LeftSquareBracket a b ∷ ts) rest
table_line w k x (closes_table l) = (_, table_header w k x, l)

array_table_line : {P : Parts} {a b c d : ℕ} {ts us vs ws rest : List Tok} → OptWhitespace ts us → Key P us vs → OptWhitespace vs ws → Closes true ws rest → HeaderLine P (tok LeftSquareBracket a b ∷ tok LeftSquareBracket c d ∷ ts) rest
array_table_line w k x (closes_array_table l) = (_, array_table_header w k x, l)

abbrev array_table : ℕ → ℕ → ℕ → ℕ → List Tok → Out
array_table a b c d us = receiver.array_table_open a d ▹ header true a b us

abbrev std_table : ℕ → ℕ → List Tok → Out
std_table a b us = receiver.std_table_open a b ▹ header false a b us

table_step : (P : Parts) {k : Kind} {t : Bool} → SameView k LeftSquareBracket t → (a b c d : ℕ) (ts : List Tok) → Regular (tok k c d ∷ ts) → Quiet P (next_by t (array_table a b) (std_table a b) k c d ts).items → HeaderLine P (tok LeftSquareBracket a b ∷ tok k c d ∷ ts) (next_by t (array_table a b) (std_table a b) k c d ts).rest
table_step P same_kinds a b c d ts g q = let h = header_fits P true a b ts (regular_tail tt g) q.1 in array_table_line h.3 h.4 h.5 h.6
table_step P other_kinds a b c d ts g q = let h = header_fits P false a b _ g q.1 in table_line h.3 h.4 h.5 h.6

table_fits : (P : Parts) (a b : ℕ) (ts : List Tok) → Regular ts → Quiet P (on_table a b ts).items → HeaderLine P (tok LeftSquareBracket a b ∷ ts) (on_table a b ts).rest
table_fits P a b [] g q = absurd (not_empty g)
table_fits P a b (tok k c d ∷ ts) g q = table_step P (same_view k LeftSquareBracket) a b c d ts g q

widen_document : {P : Parts} {N : Inside} {a b : ℕ} {ts : List Tok} → Regular (tok Whitespace a b ∷ ts) → Document P N ts → Document P N (tok Whitespace a b ∷ ts)
widen_document g (line_and_more (a_line w e x c) d) = line_and_more (a_line (widen g w) e x c) d
widen_document g (last_line (a_line w e x c)) = last_line (a_line (widen g w) e x c)

pair_shorter : {P : Parts} {N : Inside} → NestSuffix N → {t : Tok} {ts rest : List Tok} → Pair P N (t ∷ ts) rest → length rest ≤ length ts
pair_shorter nested (a_pair (a_key p d) w x v) = suffix_length (suffix_trans (suffix_dots d) (suffix_trans (suffix_whitespace w) (later tt (suffix_trans (suffix_whitespace x) (suffix_value nested v)))))

header_shorter : {P : Parts} {t : Tok} {ts rest : List Tok} → Header P (t ∷ ts) rest → length rest ≤ length ts
header_shorter (table_header w k x) = suffix_length (suffix_trans (suffix_whitespace w) (suffix_trans (suffix_key k) (suffix_trans (suffix_whitespace x) (later tt whole))))
header_shorter (array_table_header w k x) = suffix_length (later {k = LeftSquareBracket} {a = 0} {b = 0} tt (suffix_trans (suffix_whitespace w) (suffix_trans (suffix_key k) (suffix_trans (suffix_whitespace x) (later tt (later tt whole))))))

module _ (P : Parts) (levels : ℕ) where
  abbrev loop : ℕ → List Tok → Out
  loop n = turns (document_turn levels) n tt

  abbrev LinesFit : ℕ → Type 0
  LinesFit n = (ts : List Tok) → length ts ≤ n → Regular ts → Quiet P (loop n ts).items → FitsBy P levels ts

  -- a line, then the rest
  line_fits : (n : ℕ) → LinesFit n → {us vs mid rest : List Tok} → Expression P (Nested P levels) us vs → LineEnd vs mid rest → length vs ≤ n → Regular vs → Quiet P (loop n rest).items → FitsBy P levels us
  line_fits n ih {rest = rest} e (at_newline w c) h g q = line_and_more (a_line no_whitespace e w c) (ih rest (le_trans (line_end_length (at_newline w c)) h) (suffix_regular (suffix_trans (suffix_whitespace w) (suffix_trans (suffix_comment c) (later tt whole))) g) q)
  line_fits n ih e (at_eof w c) h g q = last_line (a_line no_whitespace e w c)

  eof_fits : {a b : ℕ} {ts : List Tok} → OneEofLast (tok Eof a b ∷ ts) → FitsBy P levels (tok Eof a b ∷ ts)
  eof_fits only_eof = last_line (a_line no_whitespace no_expression no_whitespace no_comment)
  eof_fits (before_eof n h) = absurd (n refl)

  line_step : (n : ℕ) → LinesFit n → {k : Kind} {x : InDocument} → InDocumentView P k x → (a b : ℕ) (ts : List Tok) → length ts ≤ n → Regular (tok k a b ∷ ts) → Quiet P (document_step x levels (loop n) a b ts).items → FitsBy P levels (tok k a b ∷ ts)
  line_step n ih document_open_square a b ts h g q =
      let s = quiet_then P (on_table a b ts) (loop n) q in
      let r = table_fits P a b ts (regular_tail tt g) s.0 in
      line_fits n ih (header_expression r.1) r.2.1 (le_trans (header_shorter r.1) h) (suffix_regular (suffix_header r.1) g) s.1
  line_step n ih document_close_square a b ts h g q = absurd q
  line_step n ih (document_key p) a b ts h g q =
      let s = quiet_then P (expression message.key_with_no_value levels ts) (loop n) q.1 in
      let r = expression_fits P message.key_with_no_value levels a b (p q.0.1) ts (regular_tail (part_not_eof (p q.0.1)) g) s.0 in
      line_fits n ih (pair_expression r.1) r.2.1 (le_trans (pair_shorter (suffix_nested P levels) r.1) h) (suffix_regular (suffix_pair (suffix_nested P levels) r.1) g) s.1
  line_step n ih document_equals a b ts h g q = absurd (q.0.0 refl)
  line_step n ih document_dot a b ts h g q = absurd (q.0.0 refl)
  line_step n ih document_stray a b ts h g q = absurd q
  line_step n ih document_whitespace a b ts h g q = widen_document g (ih ts h (regular_tail tt g) q.1)
  line_step n ih document_newline a b ts h g q = line_and_more (a_line no_whitespace no_expression no_whitespace no_comment) (ih ts h (regular_tail tt g) q.1)
  line_step n ih document_comment a b ts h g q =
      let s = quiet_then P (on_comment a b ts) (loop n) q in
      let r = comment_fits P a b ts (regular_tail tt g) s.0.1 in
      comment_line n ih r.1 h g s.1
    where
      comment_line : (n : ℕ) → LinesFit n → {a b : ℕ} {ts mid rest : List Tok} → LineEnd (tok Comment a b ∷ ts) mid rest → length ts ≤ n → Regular (tok Comment a b ∷ ts) → Quiet P (loop n rest).items → FitsBy P levels (tok Comment a b ∷ ts)
      comment_line n ih (at_newline no_whitespace a_comment) h g q = line_and_more (a_line no_whitespace no_expression no_whitespace a_comment) (ih _ (le_trans (le_step (le_refl _)) h) (regular_tail tt (regular_tail tt g)) q)
      comment_line n ih (at_eof no_whitespace a_comment) h g q = last_line (a_line no_whitespace no_expression no_whitespace a_comment)
  line_step n ih document_eof a b ts h g q = eof_fits g.ends

  lines_fit : (n : ℕ) → LinesFit n
  unfolding turns
  lines_fit zero [] h g q = absurd (not_empty g)
  lines_fit zero (t ∷ ts) h g q = absurd (not-suc-le-zero h)
  lines_fit (suc n) [] h g q = absurd (not_empty g)
  lines_fit (suc n) (tok k a b ∷ ts) h g q = line_step n (lines_fit n) (in_document_view P k) a b ts (le_of_suc-le-suc h) g q

  pub document_fits : (ts : List Tok) → Regular ts → Quiet P (document levels ts then eof).items → FitsBy P levels ts
  document_fits ts g q = lines_fit (length ts) ts (le_refl _) g (quiet_then P (document levels ts) eof q).0
