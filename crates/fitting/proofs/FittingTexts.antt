-- The grammar and the premises at work: texts 8 and 12 of document 01 meet the premises and fit, and text 7 meets them and does not fit.
-- Nothing here needs to be believed.
use mathlib.Core.Path.{◌≡◌, refl, subst}
use mathlib.Core.List.{List, [], ◌∷◌}
use native.Mathlib.Nat.{le_refl}
use Rattle.token.specs.declared.kind.Kind.{Kind}
use Rattle.token.specs.declared.kind.Kind.TheVariants.{Equals, Comma, LeftSquareBracket, RightSquareBracket, LeftCurlyBracket, RightCurlyBracket, Whitespace, Atom, Eof}
use Rattle.token.specs.Tokens.{Tok, tok}
use Rattle.token.specs.Laid.{Laid, laid_none, laid_token}
use Rattle.rules.specs.Limits.{max_depth}
use Rattle.rules.specs.Turns.{turns}
use Rattle.rules.specs.Skipping.{in_line}
use Rattle.rules.specs.Nest.{on_open}
use Rattle.rules.specs.Entries.{parse_document}
use Rattle.fitting.specs.Quiet.{Quiet}
use Rattle.fitting.specs.Grammar.{no_whitespace, SingleLine, bare, atom_part, no_dot, a_key, it_is_atom, scalar_ends, whitespace_atom, unquoted_scalar, a_scalar, an_array, an_inline_table, gap_ends, trailing_comma, some_values, a_pair, no_pairs, pair_expression, no_comment, a_line, last_line, Nested, FitsWithin, Fits}
use Rattle.fitting.specs.Premises.{OneEofLast, only_eof, before_eof, NoAdjacentWhitespace, one_token, not_both, NestedWithin}
use Rattle.fitting.proofs.Suffixes.{NotEof}
use Rattle.fitting.proofs.FitsQuietDocument.{Solid}
use Rattle.fitting.proofs.Demand.{quiet_fits}

-- `x={}`
text8 : List Tok
text8 = tok Atom 0 1 ∷ tok Equals 1 2 ∷ tok LeftCurlyBracket 2 3 ∷ tok RightCurlyBracket 3 4 ∷ tok Eof 4 4 ∷ []

text8_fits : FitsWithin 1 text8
unfolding text8 Nested
text8_fits = last_line (a_line no_whitespace (pair_expression (a_pair (a_key (atom_part bare) no_dot) no_whitespace no_whitespace (an_inline_table (no_pairs no_whitespace)))) no_whitespace no_comment)

-- `x=[1 2,]`
text12 : List Tok
text12 = tok Atom 0 1 ∷ tok Equals 1 2 ∷ tok LeftSquareBracket 2 3 ∷ tok Atom 3 4 ∷ tok Whitespace 4 5 ∷ tok Atom 5 6 ∷ tok Comma 6 7 ∷ tok RightSquareBracket 7 8 ∷ tok Eof 8 8 ∷ []

text12_fits : FitsWithin 1 text12
unfolding text12 Nested
text12_fits = last_line (a_line no_whitespace (pair_expression (a_pair (a_key (atom_part bare) no_dot) no_whitespace no_whitespace (an_array (some_values gap_ends (trailing_comma (a_scalar (unquoted_scalar it_is_atom (whitespace_atom scalar_ends))) gap_ends gap_ends))))) no_whitespace no_comment)

-- `x={a=}`
text7 : List Tok
text7 = tok Atom 0 1 ∷ tok Equals 1 2 ∷ tok LeftCurlyBracket 2 3 ∷ tok Atom 3 4 ∷ tok Equals 4 5 ∷ tok RightCurlyBracket 5 6 ∷ tok Eof 6 6 ∷ []

-- a kind that is not Eof
other : (k : Kind) → NotEof k → k ≡ Eof → ⊥
other k n e = subst NotEof e n

-- a kind that is no whitespace, by its class
solid : (k : Kind) → Solid (in_line k) → k ≡ Whitespace → ⊥
solid k s e = subst (λ x. Solid (in_line x)) e s

text7_laid : Laid 0 text7
unfolding text7
text7_laid = laid_token (le_refl 1) (laid_token refl (laid_token refl (laid_token (le_refl 4) (laid_token refl (laid_token refl (laid_token refl laid_none))))))

text7_ends : OneEofLast text7
unfolding text7
text7_ends = before_eof (other Atom tt) (before_eof (other Equals tt) (before_eof (other LeftCurlyBracket tt) (before_eof (other Atom tt) (before_eof (other Equals tt) (before_eof (other RightCurlyBracket tt) only_eof)))))

text7_apart : NoAdjacentWhitespace text7
unfolding text7
text7_apart = not_both (λ e f. solid Atom tt e) (not_both (λ e f. solid Equals tt e) (not_both (λ e f. solid LeftCurlyBracket tt e) (not_both (λ e f. solid Atom tt e) (not_both (λ e f. solid Equals tt e) (not_both (λ e f. solid RightCurlyBracket tt e) one_token)))))

text7_shallow : NestedWithin max_depth text7
unfolding text7
text7_shallow = tt

-- its run reports 19
text7_loud : Quiet SingleLine (parse_document text7).items → ⊥
unfolding text7 turns on_open
text7_loud q = q.1.1.1.1.1

text7_does_not_fit : Fits text7 → ⊥
text7_does_not_fit f = text7_loud ((quiet_fits SingleLine 0 text7 text7_laid (record { ends = text7_ends; apart = text7_apart }) text7_shallow).1 f)
