-- What follows where events read tokens that lie end to end: the run is quiet, the events lie end to end, brackets nest, and there are no
-- more events than tokens. Nothing here needs to be believed.
use mathlib.Core.Path.{◌≡◌, refl, subst, ◌∙◌}
use mathlib.Core.List.{List}
use Prim.Native.Nat.{ℕ, suc, ◌+◌, ◌<◌, ◌≤◌}
use native.Mathlib.Nat.{le_refl, le_trans, le_of_lt}
use native.Mathlib.Omega.{arith}
use lib.ListN.{length}
use Rattle.token.specs.declared.kind.Kind.{Kind}
use Rattle.token.specs.declared.kind.Kind.TheVariants.{Dot, Equals, Comma, LeftSquareBracket, RightSquareBracket, LeftCurlyBracket, RightCurlyBracket, Whitespace, Comment, Newline, LiteralString, BasicString, MlLiteralString, MlBasicString, Atom, Eof}
use Rattle.token.specs.Kinds.{width_of}
use Rattle.token.specs.Tokens.{Tok}
use Rattle.token.specs.Laid.{Spans, Laid, laid_token}
use Rattle.rules.specs.declared.event.Event.{Event}
use Rattle.rules.specs.Out.{Item}
use Rattle.rules.specs.Words.{event_number, events_of}
use Rattle.fitting.specs.Quiet.{KeyIn, Quiet}
use Rattle.fitting.specs.Grammar.{literal, basic, multi_line_literal, multi_line_basic, Parts, atom_part, string_part, UnquotedRest, scalar_ends, dot_or_atom, whitespace_atom}
use Rattle.fitting.specs.Premises.{text_end, EndToEnd, no_event, an_event, OpenBracket, effect_of, Changes, opens_one, closes_last, leaves_all, Nests, nests_none, nests_event, scalar_end}
use Rattle.fitting.proofs.Reading.{ReadsOne, reads_dot, reads_equals, reads_comma, reads_table_open, reads_table_close, reads_array_open, reads_array_close, reads_inline_table_open, reads_inline_table_close, reads_whitespace, reads_newline, reads_comment, reads_key, reads_string, ReadsTwo, reads_array_table_open, reads_array_table_close, Reads, read_none, read_one, read_two, read_unquoted}
use Rattle.fitting.proofs.Suffixes.{NotEof, suffix_length, string_not_eof, part_not_eof, dot_or_atom_not_eof, suffix_unquoted}

wide : (k : Kind) {a b : ℕ} → NotEof k → Spans (width_of k) a b → a < b
wide Dot n w = omega (arith, w)
wide Equals n w = omega (arith, w)
wide Comma n w = omega (arith, w)
wide LeftSquareBracket n w = omega (arith, w)
wide RightSquareBracket n w = omega (arith, w)
wide LeftCurlyBracket n w = omega (arith, w)
wide RightCurlyBracket n w = omega (arith, w)
wide Whitespace n w = w
wide Comment n w = w
wide Newline n w = w
wide LiteralString n w = w
wide BasicString n w = w
wide MlLiteralString n w = w
wide MlBasicString n w = w
wide Atom n w = w
wide Eof n w = absurd n

one_not_eof : {P : Parts} {k : Kind} {g : Event} {σ τ : List OpenBracket} → ReadsOne P k g σ τ → NotEof k
one_not_eof reads_dot = tt
one_not_eof reads_equals = tt
one_not_eof reads_comma = tt
one_not_eof reads_table_open = tt
one_not_eof reads_table_close = tt
one_not_eof reads_array_open = tt
one_not_eof reads_array_close = tt
one_not_eof reads_inline_table_open = tt
one_not_eof reads_inline_table_close = tt
one_not_eof reads_whitespace = tt
one_not_eof reads_newline = tt
one_not_eof reads_comment = tt
one_not_eof (reads_key p) = part_not_eof p
one_not_eof (reads_string s) = string_not_eof s

-- its key, if it is one, is of a kind that P has
one_key : {P : Parts} {k : Kind} {g : Event} {σ τ : List OpenBracket} → ReadsOne P k g σ τ → KeyIn P g
one_key reads_dot = tt
one_key reads_equals = tt
one_key reads_comma = tt
one_key reads_table_open = tt
one_key reads_table_close = tt
one_key reads_array_open = tt
one_key reads_array_close = tt
one_key reads_inline_table_open = tt
one_key reads_inline_table_close = tt
one_key reads_whitespace = tt
one_key reads_newline = tt
one_key reads_comment = tt
one_key (reads_key (atom_part l)) = l
one_key (reads_key (string_part literal l)) = l
one_key (reads_key (string_part basic l)) = l
one_key (reads_key (string_part multi_line_literal l)) = l
one_key (reads_key (string_part multi_line_basic l)) = l
one_key (reads_string s) = tt

two_key : (P : Parts) {k : Kind} {g : Event} {σ τ : List OpenBracket} → ReadsTwo k g σ τ → KeyIn P g
two_key P reads_array_table_open = tt
two_key P reads_array_table_close = tt

pub two_wide : {k : Kind} {g : Event} {a b : ℕ} {σ τ : List OpenBracket} → ReadsTwo k g σ τ → Spans (width_of k) a b → b ≡ suc a
two_wide reads_array_table_open w = w
two_wide reads_array_table_close w = w

-- an unquoted scalar goes on, and what follows it lies where it ends
pub record Carried (b e : ℕ) (ts us : List Tok) : Type 0 where
  pub laid : Laid e us
  pub far : b ≤ e
  pub same : text_end b ts ≡ text_end e us

pub unquoted_laid : (b : ℕ) {ts us : List Tok} (r : UnquotedRest ts us) → Laid b ts → Carried b (scalar_end b r) ts us
unquoted_laid b scalar_ends l = record { laid = l; far = le_refl b; same = refl }
unquoted_laid b (dot_or_atom {k = k} d r) (laid_token w l) =
    let h = unquoted_laid _ r l in
    record { laid = h.laid; far = le_trans (le_of_lt (wide k (dot_or_atom_not_eof d) w)) h.far; same = h.same }
unquoted_laid b (whitespace_atom r) (laid_token w (laid_token x l)) =
    let h = unquoted_laid _ r l in
    record { laid = h.laid; far = le_trans (le_of_lt w) (le_trans (le_of_lt x) h.far); same = h.same }

less_differs : {a b : ℕ} → a < b → a ≡ b → ⊥
less_differs h e = omega (arith, h, e)

-- what is known of the events that read tokens from p on
pub record ReadsWell (P : Parts) (all : List Tok) (p : ℕ) (is : List Item) (ts rest : List Tok) : Type 0 where
  pub end : ℕ
  pub quiet : Quiet P is
  pub end_to_end : EndToEnd p (events_of all is) end
  pub laid : Laid end rest
  pub same : text_end p ts ≡ text_end end rest
  pub few : length (events_of all is) + length rest ≤ length ts

pub reads_well : {P : Parts} (all : List Tok) {is : List Item} {ts rest : List Tok} {p : ℕ} {σ τ : List OpenBracket} → Reads P is ts rest σ τ → Laid p ts → ReadsWell P all p is ts rest
reads_well all {p = p} read_none l = record { end = p; quiet = tt; end_to_end = no_event; laid = l; same = refl; few = omega arith }
reads_well all (read_one {k = k} o r) (laid_token w l) =
    let h = reads_well all r l in
    record { end = h.end; quiet = ((less_differs (wide k (one_not_eof o) w), one_key o), h.quiet); end_to_end = an_event h.end_to_end; laid = h.laid; same = h.same; few = omega arith }
reads_well {P} all (read_two o r) (laid_token w (laid_token x l)) =
    let h = reads_well all r l in
    let y = two_wide o w in
    let z = two_wide o x in
    record { end = h.end; quiet = ((λ e. omega (arith, y, z, e), two_key P o), h.quiet); end_to_end = an_event h.end_to_end; laid = h.laid; same = h.same; few = omega arith }
reads_well all {p = p} (read_unquoted {k = k} {b = b} {e = e} {ts = ts} {us = us} d u q r) (laid_token w l) =
    let m : Carried b e ts us = subst (λ x. Carried b x ts us) q (unquoted_laid b u l) in
    let y = wide k (dot_or_atom_not_eof d) w in
    let h = reads_well all r m.laid in
    let s = suffix_length (suffix_unquoted u) in
    record { end = h.end; quiet = ((less_differs (omega (arith, m.far, y)), tt), h.quiet); end_to_end = an_event h.end_to_end; laid = h.laid; same = m.same ∙ h.same; few = omega arith }

one_changes : {P : Parts} {k : Kind} {g : Event} {σ τ : List OpenBracket} → ReadsOne P k g σ τ → Changes σ (effect_of (event_number g)) τ
one_changes reads_dot = leaves_all
one_changes reads_equals = leaves_all
one_changes reads_comma = leaves_all
one_changes reads_table_open = opens_one
one_changes reads_table_close = closes_last
one_changes reads_array_open = opens_one
one_changes reads_array_close = closes_last
one_changes reads_inline_table_open = opens_one
one_changes reads_inline_table_close = closes_last
one_changes reads_whitespace = leaves_all
one_changes reads_newline = leaves_all
one_changes reads_comment = leaves_all
one_changes (reads_key p) = leaves_all
one_changes (reads_string s) = leaves_all

two_changes : {k : Kind} {g : Event} {σ τ : List OpenBracket} → ReadsTwo k g σ τ → Changes σ (effect_of (event_number g)) τ
two_changes reads_array_table_open = opens_one
two_changes reads_array_table_close = closes_last

pub reads_nest : {P : Parts} (all : List Tok) {is : List Item} {ts rest : List Tok} {σ τ : List OpenBracket} → Reads P is ts rest σ τ → Nests σ (events_of all is) τ
reads_nest all read_none = nests_none
reads_nest all (read_one o r) = nests_event (one_changes o) (reads_nest all r)
reads_nest all (read_two o r) = nests_event (two_changes o) (reads_nest all r)
reads_nest all (read_unquoted d u e r) = nests_event leaves_all (reads_nest all r)
