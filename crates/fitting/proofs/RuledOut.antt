-- The examples of specs/RuledOut.antt, refuted. Proved; nothing here needs to be believed.
use mathlib.Core.Path.{◌≡◌, refl, ap, subst}
use mathlib.Core.List.{List, [], ◌∷◌}
use Prim.Native.Nat.{ℕ}
use native.Mathlib.Omega.{arith}
use Rattle.token.specs.declared.kind.Kind.{Kind}
use Rattle.token.specs.declared.kind.Kind.TheVariants.{LeftSquareBracket, Atom, Eof}
use Rattle.token.specs.Kinds.{number_of}
use Rattle.token.specs.Tokens.{Tok, tok}
use Rattle.fitting.specs.Grammar.{no_whitespace, literal, basic, multi_line_literal, multi_line_basic, Parts, SingleLine, KeyPart, atom_part, string_part, no_dot, a_dot, a_key, it_is_dot, it_is_atom, a_string, unquoted_scalar, Inside, Value, a_scalar, an_array, an_inline_table, a_pair, table_header, no_expression, pair_expression, header_expression, no_comment, Line, a_line, line_and_more, last_line, Fits, FitsWide}
use Rattle.fitting.specs.Premises.{EndToEnd, an_event, OpenBracket, open_array, open_inline_table, opens, closes, Changes, opens_one, closes_last, Nests, nests_event, SameButForCuts, same_token, same_two_tokens, cut_otherwise}
use Rattle.fitting.proofs.KeyWords.{allowed}
use Rattle.fitting.specs.RuledOut.{with_gap, crossing, key_events, key_whole, key_cut, without_value, multi_line_header}

-- the first event starts where the events start
first_starts : {p kind encoding start end q : ℕ} {events : List (List ℕ)} → EndToEnd p ((kind ∷ encoding ∷ start ∷ end ∷ []) ∷ events) q → p ≡ start
first_starts (an_event e) = refl

pub gap_ruled_out : EndToEnd 0 with_gap 3 → ⊥
gap_ruled_out (an_event e) = omega (arith, first_starts e)

-- what is opened is open, and what is closed is what was opened last
last_opened : {o : OpenBracket} {before after : List OpenBracket} → Changes before (opens o) after → after ≡ o ∷ before
last_opened opens_one = refl

last_closed : {o p : OpenBracket} {before after : List OpenBracket} → Changes (o ∷ before) (closes p) after → o ≡ p
last_closed closes_last = refl

array_not_inline : open_array ≡ open_inline_table → ⊥
array_not_inline e = let z : ◌≡◌ {A = ℕ} 0 1 = cc in omega arith

pub crossing_ruled_out : Nests [] crossing [] → ⊥
crossing_ruled_out (nests_event opened (nests_event {between = after} closed rest)) = array_not_inline (last_closed (subst (λ before. Changes before (closes open_inline_table) after) (last_opened opened) closed))

-- below an event that is no scalar the first tokens end at the same place
first_ends : {kind encoding start end a b c d : ℕ} {events : List (List ℕ)} {k l : Kind} {ts us : List Tok} → (kind ≡ 8 → ⊥)
    → SameButForCuts ((kind ∷ encoding ∷ start ∷ end ∷ []) ∷ events) (tok k a b ∷ ts) (tok l c d ∷ us) → b ≡ d
first_ends n (same_token h) = refl
first_ends n (same_two_tokens h) = refl
first_ends n (cut_otherwise _ _ _ _ _ _ h) = absurd (n refl)

pub key_cut_ruled_out : SameButForCuts key_events key_whole key_cut → ⊥
key_cut_ruled_out h = omega (arith, first_ends (λ e. omega (arith, e)) h)

-- a value does not begin with Eof
value_first : {N : Inside} {k : Kind} {a b : ℕ} {ts rest : List Tok} → Value N (tok k a b ∷ ts) rest → k ≡ Eof → ⊥
value_first (a_scalar (a_string literal)) e = omega (arith, ap number_of e)
value_first (a_scalar (a_string basic)) e = omega (arith, ap number_of e)
value_first (a_scalar (a_string multi_line_literal)) e = omega (arith, ap number_of e)
value_first (a_scalar (a_string multi_line_basic)) e = omega (arith, ap number_of e)
value_first (a_scalar (unquoted_scalar it_is_dot r)) e = omega (arith, ap number_of e)
value_first (a_scalar (unquoted_scalar it_is_atom r)) e = omega (arith, ap number_of e)
value_first (an_array i) e = omega (arith, ap number_of e)
value_first (an_inline_table i) e = omega (arith, ap number_of e)

-- the line with which this list begins is empty, so that an Atom follows it, or has a value
without_value_line : {P : Parts} {N : Inside} {k : Kind} {a b : ℕ} {rest : List Tok} → (k ≡ Atom → ⊥) → Line P N without_value (tok k a b ∷ rest) → ⊥
without_value_line n (a_line no_whitespace no_expression no_whitespace no_comment) = n refl
without_value_line n (a_line no_whitespace (pair_expression (a_pair (a_key (atom_part l) no_dot) no_whitespace no_whitespace v)) w c) = value_first v refl
without_value_line n (a_line no_whitespace (pair_expression (a_pair (a_key (atom_part l) (a_dot x _ _ _)) _ _ v)) w c) = elim x [ ]
without_value_line n (a_line no_whitespace (pair_expression (a_pair (a_key (string_part x _) _) _ _ v)) w c) = elim x [ ]
without_value_line n (a_line no_whitespace (header_expression x) w c) = elim x [ ]

pub without_value_ruled_out : Fits without_value → ⊥
without_value_ruled_out (n, line_and_more l d) = without_value_line (λ e. omega (arith, ap number_of e)) l
without_value_ruled_out (n, last_line l) = without_value_line (λ e. omega (arith, ap number_of e)) l

-- a key does not begin with `[`
part_first : {P : Parts} {k : Kind} → KeyPart P k → k ≡ LeftSquareBracket → ⊥
part_first (atom_part l) e = omega (arith, ap number_of e)
part_first (string_part literal l) e = omega (arith, ap number_of e)
part_first (string_part basic l) e = omega (arith, ap number_of e)
part_first (string_part multi_line_literal l) e = omega (arith, ap number_of e)
part_first (string_part multi_line_basic l) e = omega (arith, ap number_of e)

-- so with a header whose key is a multi-line string
multi_line_header_line : {N : Inside} {k : Kind} {a b : ℕ} {rest : List Tok} → (k ≡ LeftSquareBracket → ⊥) → Line SingleLine N multi_line_header (tok k a b ∷ rest) → ⊥
multi_line_header_line n (a_line no_whitespace no_expression no_whitespace no_comment) = n refl
multi_line_header_line n (a_line no_whitespace (pair_expression (a_pair (a_key p d) w x v)) y c) = part_first p refl
multi_line_header_line n (a_line no_whitespace (header_expression (table_header no_whitespace (a_key (string_part multi_line_basic l) no_dot) no_whitespace)) w c) = (allowed l).1 refl
multi_line_header_line n (a_line no_whitespace (header_expression (table_header no_whitespace (a_key (string_part multi_line_basic l) (a_dot _ _ _ _)) _)) w c) = elim l [ ]

pub multi_line_header_ruled_out : Fits multi_line_header → ⊥
multi_line_header_ruled_out (n, line_and_more l d) = multi_line_header_line (λ e. omega (arith, ap number_of e)) l
multi_line_header_ruled_out (n, last_line l) = multi_line_header_line (λ e. omega (arith, ap number_of e)) l

-- the wide grammar has it
pub multi_line_header_wide : FitsWide multi_line_header
multi_line_header_wide = (0, last_line (a_line no_whitespace (header_expression (table_header no_whitespace (a_key (string_part multi_line_basic tt) no_dot) no_whitespace)) no_whitespace no_comment))
