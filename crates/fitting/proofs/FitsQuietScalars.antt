-- From the grammar to the rules, scalars: the rule of scalars reads one, if what follows cannot go on with it. Nothing here needs to be believed.
use mathlib.Core.Path.{◌≡◌, refl, ap, sym, subst}
use mathlib.Core.List.{List, [], ◌∷◌}
use Prim.Native.Nat.{ℕ}
use Rattle.token.specs.declared.kind.Kind.{Kind}
use Rattle.token.specs.declared.kind.Kind.TheVariants.{Dot, Whitespace, Atom}
use Rattle.token.specs.Tokens.{Tok, tok}
use Rattle.rules.specs.declared.event.Encoding.{Encoding}
use Rattle.rules.specs.declared.scalar.InScalar.{InScalar}
use Rattle.rules.specs.Out.{Out, done, ◌▹◌}
use Rattle.rules.specs.Scalar.{in_scalar, unquoted_step, space_step, unquoted, behind_space}
use Rattle.fitting.specs.Grammar.{Parts, OptWhitespace, no_whitespace, a_whitespace, DotOrAtom, it_is_dot, it_is_atom, UnquotedRest, scalar_ends, dot_or_atom, whitespace_atom, Gap, gap_ends, whitespace_in_gap, newline_in_gap, comment_in_gap}
use Rattle.fitting.specs.Premises.{OpenBracket, scalar_end}
use Rattle.fitting.proofs.Reading.{read_none, read_unquoted, Walk}
use Rattle.rules.specs.Receiver as receiver

-- a token behind a whitespace does not go on with an unquoted scalar
abbrev pub NotAtom : InScalar → Type 0
NotAtom InScalar.Dot = Unit {0}
NotAtom InScalar.Atom = ⊥
NotAtom InScalar.Whitespace = Unit {0}
NotAtom InScalar.Other = Unit {0}

-- where an unquoted scalar ends
pub data ScalarStops : List Tok → Type 0 where
  stops_at_end : ScalarStops []
  stops_before : {k : Kind} {a b : ℕ} {ts : List Tok} → in_scalar k ≡ InScalar.Other → ScalarStops (tok k a b ∷ ts)
  stops_before_space : {k : Kind} {a b c d : ℕ} {ts : List Tok} → NotAtom (in_scalar k) → ScalarStops (tok Whitespace a b ∷ tok k c d ∷ ts)

pub whitespace_stops : {k : Kind} {a b : ℕ} {ts us : List Tok} → OptWhitespace us (tok k a b ∷ ts) → in_scalar k ≡ InScalar.Other → ScalarStops us
whitespace_stops no_whitespace h = stops_before h
whitespace_stops a_whitespace h = stops_before_space (subst NotAtom (sym h) tt)

pub gap_stops : {k : Kind} {a b : ℕ} {ts us : List Tok} → Gap us (tok k a b ∷ ts) → in_scalar k ≡ InScalar.Other → ScalarStops us
gap_stops gap_ends h = stops_before h
gap_stops (whitespace_in_gap gap_ends) h = stops_before_space (subst NotAtom (sym h) tt)
gap_stops (whitespace_in_gap (whitespace_in_gap g)) h = stops_before_space tt
gap_stops (whitespace_in_gap (newline_in_gap g)) h = stops_before_space tt
gap_stops (whitespace_in_gap (comment_in_gap g)) h = stops_before_space tt
gap_stops (newline_in_gap g) h = stops_before refl
gap_stops (comment_in_gap g) h = stops_before refl

space_stop : (x : InScalar) (more ends : Out) → NotAtom x → space_step x more ends ≡ ends
space_stop InScalar.Dot more ends h = refl
space_stop InScalar.Atom more ends h = absurd h
space_stop InScalar.Whitespace more ends h = refl
space_stop InScalar.Other more ends h = refl

unquoted_stop : (a b : ℕ) {ts : List Tok} → ScalarStops ts → unquoted ts a b ≡ receiver.scalar Encoding.None a b ▹ done ts
unquoted_stop a b stops_at_end = refl
unquoted_stop a b (stops_before {k = k} {a = c} {b = d} {ts = ts} h) = ap (λ x. unquoted_step x (unquoted ts a d) (behind_space ts (tok k c d ∷ ts) a b) (receiver.scalar Encoding.None a b ▹ done (tok k c d ∷ ts))) h
unquoted_stop a b (stops_before_space {k = k} {d = d} {ts = ts} h) = space_stop (in_scalar k) (unquoted ts a d) _ h

unquoted_reads : (a b : ℕ) {ts rest : List Tok} (r : UnquotedRest ts rest) → ScalarStops rest → unquoted ts a b ≡ receiver.scalar Encoding.None a (scalar_end b r) ▹ done rest
unquoted_reads a b scalar_ends h = unquoted_stop a b h
unquoted_reads a b (dot_or_atom {b = d} it_is_dot r) h = unquoted_reads a d r h
unquoted_reads a b (dot_or_atom {b = d} it_is_atom r) h = unquoted_reads a d r h
unquoted_reads a b (whitespace_atom {d = d} r) h = unquoted_reads a d r h

pub unquoted_walk : {P : Parts} {σ : List OpenBracket} {k : Kind} {a b : ℕ} {ts rest : List Tok} → DotOrAtom k → UnquotedRest ts rest → ScalarStops rest → Walk P (unquoted ts a b) (tok k a b ∷ ts) rest σ σ
unquoted_walk {P} {σ} {k} {a} {b} {ts} {rest} d r h = subst (λ o. Walk P o (tok k a b ∷ ts) rest σ σ) (sym (unquoted_reads a b r h)) (read_unquoted d r refl read_none, refl)
