-- Demand 3 in definitions: what is supposed of a token list, and what is said of the events of a quiet run. The first are properties of the
-- list, the second of words in a buffer; only `document_run`, the room in `Ready` and `events_left` have to do with a run. Assumes nothing.
use Rattle.std.specs.Prelude.{ℕ, zero, suc, ◌≡◌, cond, List, [], ◌∷◌, take, drop, eqb, Ok}
use Rattle.token.specs.declared.kind.Kind.{Kind}
use Rattle.token.specs.declared.kind.Kind.TheVariants.{Dot, Equals, Comma, LeftSquareBracket, RightSquareBracket, LeftCurlyBracket, RightCurlyBracket, Whitespace, Comment, Newline, LiteralString, BasicString, MlLiteralString, MlBasicString, Atom, Eof}
use Rattle.token.specs.Tokens.{Tok, tok, all_tokens}
use Rattle.token.specs.Check.{checked}
use Rattle.rules.specs.declared.options.Options.{Options}
use Rattle.rules.specs.Entries.{document_entry}
use Rattle.rules.specs.Answer.{event_size, Outcome, outcome}
use Rattle.fitting.specs.Grammar.{DotOrAtom, UnquotedRest, scalar_ends, dot_or_atom, whitespace_atom}

-- one Eof, and it is the last token
pub data OneEofLast : List Tok → Type 0 where
  only_eof : {a b : ℕ} → OneEofLast (tok Eof a b ∷ [])
  before_eof : {k : Kind} {a b : ℕ} {ts : List Tok} → (k ≡ Eof → ⊥) → OneEofLast ts → OneEofLast (tok k a b ∷ ts)

-- of two tokens that follow one another not both are Whitespace
pub data NoAdjacentWhitespace : List Tok → Type 0 where
  no_token : NoAdjacentWhitespace []
  one_token : {t : Tok} → NoAdjacentWhitespace (t ∷ [])
  not_both : {k l : Kind} {a b c d : ℕ} {ts : List Tok} → (k ≡ Whitespace → l ≡ Whitespace → ⊥) → NoAdjacentWhitespace (tok l c d ∷ ts) → NoAdjacentWhitespace (tok k a b ∷ tok l c d ∷ ts)

-- what a kind is to the count of open brackets
pub data Bracketing : Type 0 where
  opening closing neither : Bracketing

abbrev pub bracketing : Kind → Bracketing
bracketing Dot = neither
bracketing Equals = neither
bracketing Comma = neither
bracketing LeftSquareBracket = opening
bracketing RightSquareBracket = closing
bracketing LeftCurlyBracket = opening
bracketing RightCurlyBracket = closing
bracketing Whitespace = neither
bracketing Comment = neither
bracketing Newline = neither
bracketing LiteralString = neither
bracketing BasicString = neither
bracketing MlLiteralString = neither
bracketing MlBasicString = neither
bracketing Atom = neither
bracketing Eof = neither

-- n more brackets may be open: an opening one takes one of them, a closing one gives one back
abbrev pub remaining : Bracketing → ℕ → (ℕ → Type 0) → Type 0
remaining opening zero rest = ⊥
remaining opening (suc n) rest = rest n
remaining closing n rest = rest (suc n)
remaining neither n rest = rest n

-- at no point of the list are there more than n opening brackets beyond the closing ones. It is a condition on the list alone, and counts the
-- brackets of headers, and those that nothing closes: 65 lines of a single `[` do not meet it with n = 64, though no array is ever open. Of
-- a list that fits it says, with n at least 2, only that at most n arrays and inline tables are open at a time (`nesting-exact` in
-- proofs/Demand.antt): there the brackets of a header are at most two, stand where nothing else is open, and are closed on their line.
abbrev pub NestedWithin : ℕ → List Tok → Type 0
NestedWithin n [] = Unit {0}
NestedWithin n (tok k a b ∷ ts) = remaining (bracketing k) n (λ m. NestedWithin m ts)

-- what is supposed of the tokens
pub record Regular (ts : List Tok) : Type 0 where
  pub ends : OneEofLast ts
  pub apart : NoAdjacentWhitespace ts

-- a run of the document entry on the record bytes s, with the two buffers
abbrev pub document_run : Options → List ℕ → ℕ → List ℕ → List ℕ → Outcome
document_run options s base events errors = outcome options document_entry s base events errors

-- what is supposed, for a list that fits to be quiet, of the record bytes s, the base and the two buffers. The check lets the list pass, so
-- refusals 1 to 5 do not come; nor does 7, so the events fit. Errors there are none (8), and the depth (6) is said with `FitsWithin` or
-- `NestedWithin`.
pub record Ready (options : Options) (s : List ℕ) (base : ℕ) (events errors : List ℕ) : Type 0 where
  pub passed : checked s base ≡ Ok tt
  pub regular : Regular (all_tokens s base)
  pub room : (document_run options s base events errors).answer.refusal ≡ 7 → ⊥

-- where the text ends, of which the tokens begin at p
abbrev pub text_end : ℕ → List Tok → ℕ
text_end p [] = p
text_end p (tok k a b ∷ ts) = text_end b ts

-- the first n events in a buffer: kind, encoding, start and end of each
unfoldable pub events_in : ℕ → List ℕ → List (List ℕ)
events_in zero buffer = []
events_in (suc n) buffer = take event_size buffer ∷ events_in n (drop event_size buffer)

-- the events that a run left in its buffer
abbrev pub events_left : Outcome → List (List ℕ)
events_left o = events_in o.answer.events o.events

-- the events lie end to end from p to q: the first starts at p, each other where the one before it ends, and the last ends at q
pub data EndToEnd : ℕ → List (List ℕ) → ℕ → Type 0 where
  no_event : {p : ℕ} → EndToEnd p [] p
  an_event : {kind encoding start end q : ℕ} {events : List (List ℕ)} → EndToEnd end events q → EndToEnd start ((kind ∷ encoding ∷ start ∷ end ∷ []) ∷ events) q

-- what can be open: a table's header, an array table's header, an array, an inline table
pub data OpenBracket : Type 0 where
  open_table open_array_table open_array open_inline_table : OpenBracket

-- what an event does to the brackets that are open
pub data Effect : Type 0 where
  opens closes : OpenBracket → Effect
  leaves : Effect

-- by the number of the event's kind: 1 and 2, 3 and 4, 10 and 11, 12 and 13 open and close
abbrev pub effect_of : ℕ → Effect
effect_of kind =
    cond (eqb kind 1) (opens open_table)
    (cond (eqb kind 2) (closes open_table)
    (cond (eqb kind 3) (opens open_array_table)
    (cond (eqb kind 4) (closes open_array_table)
    (cond (eqb kind 10) (opens open_array)
    (cond (eqb kind 11) (closes open_array)
    (cond (eqb kind 12) (opens open_inline_table)
    (cond (eqb kind 13) (closes open_inline_table)
    leaves)))))))

-- the open brackets before and after an event, the last opened first: it is always the last opened that is closed
pub data Changes : List OpenBracket → Effect → List OpenBracket → Type 0 where
  opens_one : {o : OpenBracket} {before : List OpenBracket} → Changes before (opens o) (o ∷ before)
  closes_last : {o : OpenBracket} {after : List OpenBracket} → Changes (o ∷ after) (closes o) after
  leaves_all : {before : List OpenBracket} → Changes before leaves before

-- the brackets open before and after events
pub data Nests : List OpenBracket → List (List ℕ) → List OpenBracket → Type 0 where
  nests_none : {before : List OpenBracket} → Nests before [] before
  nests_event : {kind encoding start end : ℕ} {events : List (List ℕ)} {before between after : List OpenBracket} → Changes before (effect_of kind) between → Nests between events after → Nests before ((kind ∷ encoding ∷ start ∷ end ∷ []) ∷ events) after

-- where an unquoted scalar ends, of which the token before the given ones ends at b
abbrev pub scalar_end : {ts rest : List Tok} → ℕ → UnquotedRest ts rest → ℕ
scalar_end b scalar_ends = b
scalar_end b (dot_or_atom {b = d} k rest) = scalar_end d rest
scalar_end b (whitespace_atom {d = d} rest) = scalar_end d rest

-- below each event the two lists have the same tokens, one or two, but that an unquoted scalar (kind 8, encoding 0) may be cut otherwise
-- between its start and its end; what follows the last event is the same
pub data SameButForCuts : List (List ℕ) → List Tok → List Tok → Type 0 where
  same_rest : {ts : List Tok} → SameButForCuts [] ts ts
  same_token : {kind encoding start end : ℕ} {events : List (List ℕ)} {k : Kind} {ts us : List Tok} → SameButForCuts events ts us
      → SameButForCuts ((kind ∷ encoding ∷ start ∷ end ∷ []) ∷ events) (tok k start end ∷ ts) (tok k start end ∷ us)
  same_two_tokens : {kind encoding start middle end : ℕ} {events : List (List ℕ)} {k l : Kind} {ts us : List Tok} → SameButForCuts events ts us
      → SameButForCuts ((kind ∷ encoding ∷ start ∷ end ∷ []) ∷ events) (tok k start middle ∷ tok l middle end ∷ ts) (tok k start middle ∷ tok l middle end ∷ us)
  cut_otherwise : {start end b c : ℕ} {events : List (List ℕ)} {k l : Kind} {ts vs us ws : List Tok} → DotOrAtom k → DotOrAtom l → (r : UnquotedRest ts vs) (q : UnquotedRest us ws) → scalar_end b r ≡ end → scalar_end c q ≡ end → SameButForCuts events vs ws
      → SameButForCuts ((8 ∷ 0 ∷ start ∷ end ∷ []) ∷ events) (tok k start b ∷ ts) (tok l start c ∷ us)
