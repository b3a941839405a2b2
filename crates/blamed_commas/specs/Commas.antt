-- What is known of the last comma before a record. Assumes nothing.
use Rattle.std.specs.Prelude.{◌≡◌, cond, List, ℕ, ◌<◌, ◌≤◌, ltb}
use Rattle.token.specs.declared.span.Span.{Span}
use Rattle.token.specs.Tokens.{Tok, all_tokens}
use Rattle.rules.specs.Lines.{line_of}
use Rattle.rules.specs.Words.{comma_between}
use Rattle.blamed_commas.specs.declared.commas.Comma.{Comma}

-- its span, if it is not before the record `first`; else the empty span at start
abbrev pub comma_since : Comma → ℕ → ℕ → Span
comma_since comma first start = cond (ltb first comma.behind) (record { start = comma.start; end = comma.end }) (record { start = start; end = start })

-- it is the last comma before the record `past`, whatever record is the first that counts
abbrev pub LastComma : List Tok → Comma → ℕ → Type 0
LastComma all comma past = (first start : ℕ) → comma_between all first past start ≡ comma_since comma first start

-- it is the last comma before the record that it says, and has its own line
pub record Known (s : List ℕ) (base : ℕ) (comma : Comma) : Type 0 where
  pub behind : comma.behind ≤ comma.upto
  pub last : LastComma (all_tokens s base) comma comma.upto
  pub lined : 0 < comma.behind → comma.line ≡ line_of (all_tokens s base) comma.start
