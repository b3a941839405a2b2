-- From the grammar to the rules, lines and documents: where the list fits, the events of the document rule read all but its Eof.
-- Nothing here needs to be believed.
use mathlib.Core.Path.{◌≡◌, refl, sym, subst}
use mathlib.Core.Bool.{Bool, true, false}
use mathlib.Core.List.{List, [], ◌∷◌}
use Prim.Native.Nat.{ℕ, zero, suc, ◌≤◌, zero-le}
use native.Mathlib.Nat.{le_refl, le_trans, le_step, le_of_suc-le-suc, not-suc-le-zero}
use lib.ListN.{length}
use Rattle.token.specs.declared.kind.Kind.{Kind}
use Rattle.token.specs.declared.kind.Kind.TheVariants.{Equals, LeftSquareBracket, RightSquareBracket, Whitespace, Comment, Newline, Eof}
use Rattle.token.specs.Tokens.{Tok, tok}
use Rattle.rules.specs.declared.event.Event.{Event}
use Rattle.rules.specs.declared.skipping.Bracket.{Bracket}
use Rattle.rules.specs.declared.skipping.InLine.{InLine}
use Rattle.rules.specs.declared.document.InDocument.{InDocument}
use Rattle.rules.specs.Out.{event, Out, done, ◌▹◌, ◌▸◌, ◌then◌}
use Rattle.rules.specs.Turns.{turns}
use Rattle.rules.specs.Skipping.{in_line, ws_comment_newline, eof}
use Rattle.rules.specs.Keys.{whitespace_step, opt_whitespace, key, key_valid}
use Rattle.rules.specs.InlineTable.{encoding_at}
use Rattle.rules.specs.Value.{value}
use Rattle.rules.specs.Table.{next_token_if, unclosed, closed, header, on_table}
use Rattle.rules.specs.Document.{in_document, on_expression_key_val_sep, no_equals, expression, document_step, document_turn, document}
use Rattle.fitting.specs.Grammar.{OptWhitespace, no_whitespace, a_whitespace, AnyString, literal, basic, multi_line_literal, multi_line_basic, Parts, KeyPart, atom_part, string_part, Dots, Key, a_key, it_is_dot, it_is_atom, a_string, unquoted_scalar, Inside, Value, a_scalar, an_array, an_inline_table, a_pair, Header, table_header, array_table_header, Expression, no_expression, pair_expression, header_expression, OptComment, no_comment, a_comment, a_line, line_and_more, last_line, Nested, FitsBy}
use Rattle.fitting.specs.Premises.{OpenBracket}
use Rattle.fitting.proofs.Reading.{ReadsOne, reads_equals, reads_table_open, reads_table_close, reads_whitespace, reads_newline, reads_comment, reads_key, reads_string, reads_array_table_open, reads_array_table_close, read_none, WalkTo, Walk, walk_done, walk_one, walk_two, reads_append, walk_then}
use Rattle.fitting.proofs.Suffixes.{whole, later, suffix_trans, suffix_length, suffix_whitespace, suffix_comment, suffix_dots, suffix_key, suffix_value, suffix_nested}
use Rattle.fitting.proofs.FitsQuietKeys.{equals_after_key, close_after_key, dots_walk, key_walk}
use Rattle.fitting.proofs.FitsQuietScalars.{ScalarStops, stops_before, stops_before_space, unquoted_walk}
use Rattle.fitting.proofs.FitsQuietTables.{open_walk}
use Rattle.rules.specs.Messages as message
use Rattle.rules.specs.Receiver as receiver

-- a kind that optional whitespace stops before
abbrev pub Solid : InLine → Type 0
Solid InLine.Other = Unit {0}
Solid InLine.Comment = Unit {0}
Solid InLine.Whitespace = ⊥
Solid InLine.Newline = Unit {0}
Solid InLine.Eof = Unit {0}

solid_step : (x : InLine) (a b : ℕ) (ts : List Tok) (here : Out) → Solid x → whitespace_step x a b ts here ≡ here
solid_step InLine.Other a b ts here h = refl
solid_step InLine.Comment a b ts here h = refl
solid_step InLine.Whitespace a b ts here h = absurd h
solid_step InLine.Newline a b ts here h = refl
solid_step InLine.Eof a b ts here h = refl

string_solid : {k : Kind} → AnyString k → Solid (in_line k)
string_solid literal = tt
string_solid basic = tt
string_solid multi_line_literal = tt
string_solid multi_line_basic = tt

part_solid : {P : Parts} {k : Kind} → KeyPart P k → Solid (in_line k)
part_solid (atom_part l) = tt
part_solid (string_part s l) = string_solid s

whitespace_walk : {P : Parts} {σ : List OpenBracket} {k : Kind} {a b : ℕ} {ts us : List Tok} → OptWhitespace ts (tok k a b ∷ us) → Solid (in_line k) → Walk P (opt_whitespace ts) ts (tok k a b ∷ us) σ σ
whitespace_walk {P} {σ} {k} {a} {b} {us = us} no_whitespace h = subst (λ o. Walk P o (tok k a b ∷ us) (tok k a b ∷ us) σ σ) (sym (solid_step (in_line k) a b us (done (tok k a b ∷ us)) h)) (walk_done _)
whitespace_walk a_whitespace h = walk_one reads_whitespace (walk_done _)

before_value : {P : Parts} {σ : List OpenBracket} {N : Inside} {ts us vs : List Tok} → OptWhitespace ts us → Value N us vs → Walk P (opt_whitespace ts) ts us σ σ
before_value w (a_scalar (a_string s)) = whitespace_walk w (string_solid s)
before_value w (a_scalar (unquoted_scalar it_is_dot r)) = whitespace_walk w tt
before_value w (a_scalar (unquoted_scalar it_is_atom r)) = whitespace_walk w tt
before_value w (an_array m) = whitespace_walk w tt
before_value w (an_inline_table m) = whitespace_walk w tt

value_walk : (P : Parts) {σ : List OpenBracket} (levels : ℕ) {ts rest : List Tok} → Value (Nested P levels) ts rest → ScalarStops rest → Walk P (value levels ts) ts rest σ σ
value_walk P levels (a_scalar (a_string literal)) h = walk_one (reads_string literal) (walk_done _)
value_walk P levels (a_scalar (a_string basic)) h = walk_one (reads_string basic) (walk_done _)
value_walk P levels (a_scalar (a_string multi_line_literal)) h = walk_one (reads_string multi_line_literal) (walk_done _)
value_walk P levels (a_scalar (a_string multi_line_basic)) h = walk_one (reads_string multi_line_basic) (walk_done _)
value_walk P levels (a_scalar (unquoted_scalar it_is_dot r)) h = unquoted_walk it_is_dot r h
value_walk P levels (a_scalar (unquoted_scalar it_is_atom r)) h = unquoted_walk it_is_atom r h
value_walk P levels (an_array {a = a} {b = b} m) h = open_walk P levels _ Bracket.Square a b _ _ m
value_walk P levels (an_inline_table {a = a} {b = b} m) h = open_walk P levels _ Bracket.Curly a b _ _ m

-- the end of a line: its events read up to mid, the next line begins at rest
pub data LineEnd : List Tok → List Tok → List Tok → Type 0 where
  at_newline : {ts us rest : List Tok} {a b : ℕ} → OptWhitespace ts us → OptComment us (tok Newline a b ∷ rest) → LineEnd ts rest rest
  at_eof : {ts us : List Tok} {a b : ℕ} → OptWhitespace ts us → OptComment us (tok Eof a b ∷ []) → LineEnd ts (tok Eof a b ∷ []) []

line_end_walk : {P : Parts} {σ : List OpenBracket} {ts mid rest : List Tok} → LineEnd ts mid rest → WalkTo P (ws_comment_newline ts) ts mid rest σ σ
line_end_walk (at_newline no_whitespace no_comment) = walk_one reads_newline (walk_done _)
line_end_walk (at_newline no_whitespace a_comment) = walk_one reads_comment (walk_one reads_newline (walk_done _))
line_end_walk (at_newline a_whitespace no_comment) = walk_one reads_whitespace (walk_one reads_newline (walk_done _))
line_end_walk (at_newline a_whitespace a_comment) = walk_one reads_whitespace (walk_one reads_comment (walk_one reads_newline (walk_done _)))
line_end_walk (at_eof no_whitespace no_comment) = (read_none, refl)
line_end_walk (at_eof no_whitespace a_comment) = walk_one reads_comment (read_none, refl)
line_end_walk (at_eof a_whitespace no_comment) = walk_one reads_whitespace (read_none, refl)
line_end_walk (at_eof a_whitespace a_comment) = walk_one reads_whitespace (walk_one reads_comment (read_none, refl))

line_end_stops : {ts mid rest : List Tok} → LineEnd ts mid rest → ScalarStops ts
line_end_stops (at_newline no_whitespace no_comment) = stops_before refl
line_end_stops (at_newline no_whitespace a_comment) = stops_before refl
line_end_stops (at_newline a_whitespace no_comment) = stops_before_space tt
line_end_stops (at_newline a_whitespace a_comment) = stops_before_space tt
line_end_stops (at_eof no_whitespace no_comment) = stops_before refl
line_end_stops (at_eof no_whitespace a_comment) = stops_before refl
line_end_stops (at_eof a_whitespace no_comment) = stops_before_space tt
line_end_stops (at_eof a_whitespace a_comment) = stops_before_space tt

pub line_end_length : {ts mid rest : List Tok} → LineEnd ts mid rest → length rest ≤ length ts
line_end_length (at_newline w c) = suffix_length (suffix_trans (suffix_whitespace w) (suffix_trans (suffix_comment c) (later tt whole)))
line_end_length (at_eof w c) = zero-le

equals_walk : (P : Parts) {σ : List OpenBracket} (levels : ℕ) {a b : ℕ} {ts us vs mid rest : List Tok} → OptWhitespace ts us → Value (Nested P levels) us vs → LineEnd vs mid rest → WalkTo P (on_expression_key_val_sep levels a b ts) (tok Equals a b ∷ ts) mid rest σ σ
equals_walk P levels w v l = walk_one reads_equals (walk_then ws_comment_newline (walk_then (value levels) (before_value w v) (value_walk P levels v (line_end_stops l))) (line_end_walk l))

expression_walk : (P : Parts) {σ : List OpenBracket} (m levels : ℕ) {a b : ℕ} {ts ks us vs ws mid rest : List Tok} → Dots P ts ks → OptWhitespace ks (tok Equals a b ∷ us) → OptWhitespace us vs → Value (Nested P levels) vs ws → LineEnd ws mid rest → WalkTo P (expression m levels ts) ts mid rest σ σ
expression_walk P m levels d w x v l = walk_then (next_token_if Equals (on_expression_key_val_sep levels) (no_equals m)) (walk_then opt_whitespace (dots_walk d w equals_after_key) (walk_done _)) (equals_walk P levels x v l)

header_walk : {P : Parts} {σ : List OpenBracket} {o : OpenBracket} (array : Bool) (a b : ℕ) {ts us vs ws mid rest : List Tok} {c d : ℕ} → OptWhitespace ts us → Key P us vs → OptWhitespace vs (tok RightSquareBracket c d ∷ ws) → WalkTo P (closed array a c d ws) (tok RightSquareBracket c d ∷ ws) mid rest (o ∷ σ) σ → WalkTo P (header array a b ts) ts mid rest (o ∷ σ) σ
header_walk array a b w (a_key {ts = ts} {a = e} {b = f} {k = k} p d) x h =
    walk_then (λ us. key message.invalid_table us then opt_whitespace then next_token_if RightSquareBracket (closed array a) (unclosed array (key_valid us) a b)) (whitespace_walk w (part_solid p))
    (walk_then (next_token_if RightSquareBracket (closed array a) (unclosed array (key_valid (tok k e f ∷ ts)) a b)) (walk_then opt_whitespace (key_walk message.invalid_table (a_key p d) x close_after_key) (walk_done _)) h)

part_no_bracket : {P : Parts} {k : Kind} (p : KeyPart P k) (a b c d : ℕ) (ts : List Tok) → on_table a b (tok k c d ∷ ts) ≡ receiver.std_table_open a b ▹ header false a b (tok k c d ∷ ts)
part_no_bracket (atom_part l) a b c d ts = refl
part_no_bracket (string_part literal l) a b c d ts = refl
part_no_bracket (string_part basic l) a b c d ts = refl
part_no_bracket (string_part multi_line_literal l) a b c d ts = refl
part_no_bracket (string_part multi_line_basic l) a b c d ts = refl

one_bracket : {P : Parts} {ts us vs : List Tok} (a b : ℕ) → OptWhitespace ts us → Key P us vs → on_table a b ts ≡ receiver.std_table_open a b ▹ header false a b ts
one_bracket a b no_whitespace (a_key p d) = part_no_bracket p a b _ _ _
one_bracket a b a_whitespace k = refl

table_walk_line : {P : Parts} {σ : List OpenBracket} {a b : ℕ} {ts vs mid rest : List Tok} → Header P (tok LeftSquareBracket a b ∷ ts) vs → LineEnd vs mid rest → WalkTo P (on_table a b ts) (tok LeftSquareBracket a b ∷ ts) mid rest σ σ
table_walk_line {P} {σ} {a} {b} {ts} {vs} {mid} {rest} (table_header w k x) l = subst (λ o. WalkTo P o (tok LeftSquareBracket a b ∷ ts) mid rest σ σ) (sym (one_bracket a b w k)) (walk_one reads_table_open (header_walk false a b w k x (walk_one reads_table_close (line_end_walk l))))
table_walk_line {a = a} {b = b} (array_table_header w k x) l = walk_two reads_array_table_open (header_walk true a b w k x (walk_two reads_array_table_close (line_end_walk l)))

-- events that read all but the final Eof, by a walk that leaves nothing
abbrev pub Whole : Parts → Out → List Tok → Type 0
Whole P o ts = (a : ℕ) × (b : ℕ) × WalkTo P o ts (tok Eof a b ∷ []) [] [] []

whole_one : {P : Parts} {k : Kind} {g : Event} {a b : ℕ} {o : Out} {ts : List Tok} → ReadsOne P k g [] [] → Whole P o ts → Whole P (event g a b ▹ o) (tok k a b ∷ ts)
whole_one f w = (w.0, w.1, walk_one f w.2)

whole_then : {P : Parts} {o : Out} (f : List Tok → Out) {ts mid rest : List Tok} → WalkTo P o ts mid rest [] [] → Whole P (f rest) mid → Whole P (o then f) ts
whole_then {P} {o} f {ts} {mid} {rest} w v = subst (λ x. Whole P (o.items ▸ f x) ts) (sym w.1) (v.0, v.1, (reads_append w.0 v.2.0, v.2.1))

part_begins : {P : Parts} {k : Kind} → KeyPart P k → in_document k ≡ InDocument.Key (encoding_at k)
part_begins (atom_part l) = refl
part_begins (string_part literal l) = refl
part_begins (string_part basic l) = refl
part_begins (string_part multi_line_literal l) = refl
part_begins (string_part multi_line_basic l) = refl

module _ (P : Parts) (levels : ℕ) where
  abbrev loop : ℕ → List Tok → Out
  loop n = turns (document_turn levels) n tt

  -- the loop, given rest, reads ts, whatever turns are left if they are enough
  abbrev LinesWalk : List Tok → List Tok → Type 0
  LinesWalk ts rest = (n : ℕ) → length rest ≤ n → Whole P (loop n rest) ts

  turn : (k : Kind) {a b : ℕ} {ts : List Tok} → ((n : ℕ) → length ts ≤ n → Whole P (document_step (in_document k) levels (loop n) a b ts) (tok k a b ∷ ts)) → LinesWalk (tok k a b ∷ ts) (tok k a b ∷ ts)
  unfolding turns
  turn k f zero h = absurd (not-suc-le-zero h)
  turn k f (suc n) h = f n (le_of_suc-le-suc h)

  space_walk : {ts us : List Tok} → OptWhitespace ts us → LinesWalk us us → LinesWalk ts ts
  space_walk no_whitespace w = w
  space_walk a_whitespace w = turn Whitespace (λ n h. whole_one reads_whitespace (w n h))

  -- a line with no expression
  bare_comment : {ts mid rest : List Tok} → LineEnd ts mid rest → LinesWalk mid rest → LinesWalk ts ts
  bare_comment (at_newline w no_comment) r = space_walk w (turn Newline (λ n h. whole_one reads_newline (r n h)))
  bare_comment (at_newline w a_comment) r = space_walk w (turn Comment (λ n h. whole_one reads_comment (whole_one reads_newline (r n (le_trans (le_step (le_refl _)) h)))))
  bare_comment (at_eof {a = a} {b = b} w no_comment) r = space_walk w (turn Eof (λ n h. (a, b, (read_none, refl))))
  bare_comment (at_eof w a_comment) r = space_walk w (turn Comment (λ n h. whole_one reads_comment (r n zero-le)))

  line_walk : {us vs mid rest : List Tok} → Expression P (Nested P levels) us vs → LineEnd vs mid rest → LinesWalk mid rest → LinesWalk us us
  line_walk no_expression l r = bare_comment l r
  line_walk (pair_expression (a_pair (a_key {ts = ts} {a = a} {b = b} {k = k} p d) w x v)) l r =
      turn k (λ n h. subst (λ y. Whole P (document_step y levels (loop n) a b ts) (tok k a b ∷ ts)) (sym (part_begins p))
      (whole_one (reads_key p) (whole_then (loop n) (expression_walk P message.key_with_no_value levels d w x v l)
      (r n (le_trans (le_trans (line_end_length l) (suffix_length (suffix_trans (suffix_dots d) (suffix_trans (suffix_whitespace w) (later tt (suffix_trans (suffix_whitespace x) (suffix_value (suffix_nested P levels) v))))))) h)))))
  line_walk (header_expression (table_header w k x)) l r =
      turn LeftSquareBracket (λ n h. whole_then (loop n) (table_walk_line (table_header w k x) l) (r n (le_trans (le_trans (line_end_length l) (suffix_length (suffix_trans (suffix_whitespace w) (suffix_trans (suffix_key k) (suffix_trans (suffix_whitespace x) (later tt whole)))))) h)))
  line_walk (header_expression (array_table_header w k x)) l r =
      turn LeftSquareBracket (λ n h. whole_then (loop n) (table_walk_line (array_table_header w k x) l) (r n (le_trans (le_trans (line_end_length l) (suffix_length (later {k = LeftSquareBracket} {a = 0} {b = 0} tt (suffix_trans (suffix_whitespace w) (suffix_trans (suffix_key k) (suffix_trans (suffix_whitespace x) (later tt (later tt whole)))))))) h)))

  at_end : {a b : ℕ} → LinesWalk (tok Eof a b ∷ []) []
  unfolding turns
  at_end {a} {b} zero h = (a, b, (read_none, refl))
  at_end {a} {b} (suc n) h = (a, b, (read_none, refl))

  lines_walk : {ts : List Tok} → FitsBy P levels ts → LinesWalk ts ts
  lines_walk (line_and_more (a_line w e x c) d) = space_walk w (line_walk e (at_newline x c) (lines_walk d))
  lines_walk (last_line (a_line w e x c)) = space_walk w (line_walk e (at_eof x c) at_end)

  -- the document rule, and the rule of the end, on a list that fits
  pub document_walk : (ts : List Tok) → FitsBy P levels ts → Whole P (document levels ts then eof) ts
  document_walk ts d = let w = lines_walk d (length ts) (le_refl _) in whole_then eof w.2 (w.0, w.1, (read_none, refl))
