-- Keys: opt_whitespace, opt_dot_keys, key, simple_key, on_missing_key. Assumes nothing.
use Rattle.std.specs.Prelude.{ℕ, Bool, true, false, List, [], ◌∷◌}
use Rattle.token.specs.declared.kind.Kind.{Kind}
use Rattle.token.specs.declared.kind.Kind.TheVariants.{Dot, Equals, Comma, LeftSquareBracket, RightSquareBracket, LeftCurlyBracket, RightCurlyBracket, Whitespace, Comment, Newline, LiteralString, BasicString, MlLiteralString, MlBasicString, Atom, Eof}
use Rattle.token.specs.Tokens.{Tok, tok}
use Rattle.token.specs.declared.cursor.Sought.{Sought}
use Rattle.rules.specs.declared.event.Encoding.{Encoding}
use Rattle.rules.specs.declared.keys.InKey.{InKey}
use Rattle.rules.specs.declared.skipping.InLine.{InLine}
use Rattle.rules.specs.Out.{Look, span, before, found, after_found, report, Out, done, ◌▹◌}
use Rattle.rules.specs.Expected as expected
use Rattle.rules.specs.Receiver as receiver
use Rattle.rules.specs.Skipping.{in_line, on_comment}

-- what a kind is to a key
abbrev pub in_key : Kind → InKey
in_key Dot = InKey.Dot
in_key Equals = InKey.Other
in_key Comma = InKey.Other
in_key LeftSquareBracket = InKey.Other
in_key RightSquareBracket = InKey.Other
in_key LeftCurlyBracket = InKey.Other
in_key RightCurlyBracket = InKey.Other
in_key Whitespace = InKey.Whitespace
in_key Comment = InKey.Other
in_key Newline = InKey.Other
in_key LiteralString = InKey.Part Encoding.LiteralString
in_key BasicString = InKey.Part Encoding.BasicString
in_key MlLiteralString = InKey.Part Encoding.MlLiteralString
in_key MlBasicString = InKey.Part Encoding.MlBasicString
in_key Atom = InKey.Part Encoding.None
in_key Eof = InKey.Other

-- where the list is exhausted: the nearest earlier token that is no Whitespace, Comment, Newline or Eof, or 0..0
abbrev pub last_significant : Look
last_significant = record { what = Sought.Significant; left = 0; start = 0; end = 0 }

-- opt_whitespace
abbrev pub whitespace_step : InLine → ℕ → ℕ → List Tok → Out → Out
whitespace_step InLine.Other a b ts here = here
whitespace_step InLine.Comment a b ts here = here
whitespace_step InLine.Whitespace a b ts here = receiver.whitespace a b ▹ done ts
whitespace_step InLine.Newline a b ts here = here
whitespace_step InLine.Eof a b ts here = here

abbrev pub opt_whitespace : List Tok → Out
opt_whitespace [] = done []
opt_whitespace (tok k a b ∷ ts) = whitespace_step (in_line k) a b ts (done (tok k a b ∷ ts))

-- opt_dot_keys: `dots` is the loop over dots from the next token on, `part` the scan after a dot
abbrev pub after_part_step : InKey → ℕ → ℕ → Out → Out → Out → Out
after_part_step (InKey.Part e) a b here dots part = here
after_part_step InKey.Whitespace a b here dots part = receiver.whitespace a b ▹ dots
after_part_step InKey.Dot a b here dots part = receiver.key_sep a b ▹ part
after_part_step InKey.Other a b here dots part = here

abbrev pub dot_step : InKey → ℕ → ℕ → Out → Out → Out
dot_step (InKey.Part e) a b here part = here
dot_step InKey.Whitespace a b here part = here
dot_step InKey.Dot a b here part = receiver.key_sep a b ▹ part
dot_step InKey.Other a b here part = here

-- a part is wanted: `part` is the scan from the next token on, `on` what follows a part
abbrev pub part_step : InKey → ℕ → ℕ → Out → Out → Out → Out
part_step (InKey.Part e) a b here part on = receiver.simple_key e a b ▹ on
part_step InKey.Whitespace a b here part on = receiver.whitespace a b ▹ part
part_step InKey.Dot a b here part on = receiver.simple_key Encoding.None a a ▹ receiver.key_sep a b ▹ part
part_step InKey.Other a b here part on = receiver.simple_key Encoding.None a a ▹ here

abbrev mutual
  -- opt_dot_keys: optional whitespace, then the loop over dots
  pub opt_dot_keys : List Tok → Out
  opt_dot_keys [] = done []
  opt_dot_keys (tok k a b ∷ ts) =
      let dots = dot_keys ts in
      let part = after_dot ts b in
      after_part_step (in_key k) a b (done (tok k a b ∷ ts)) dots part

  -- the loop over dots
  pub dot_keys : List Tok → Out
  dot_keys [] = done []
  dot_keys (tok k a b ∷ ts) =
      let part = after_dot ts b in
      dot_step (in_key k) a b (done (tok k a b ∷ ts)) part

  -- the scan after a dot that ended at d: it is left from within, by a part or by a token that can start none
  pub after_dot : List Tok → ℕ → Out
  after_dot [] d = receiver.simple_key Encoding.None d d ▹ done []
  after_dot (tok k a b ∷ ts) d =
      let part = after_dot ts d in
      let on = opt_dot_keys ts in
      part_step (in_key k) a b (done (tok k a b ∷ ts)) part on

-- what opt_dot_keys returns: false where a token that can start no key came after a dot
abbrev pub after_part_valid : InKey → Bool → Bool → Bool
after_part_valid (InKey.Part e) dots part = true
after_part_valid InKey.Whitespace dots part = dots
after_part_valid InKey.Dot dots part = part
after_part_valid InKey.Other dots part = true

abbrev pub dot_valid : InKey → Bool → Bool
dot_valid (InKey.Part e) part = true
dot_valid InKey.Whitespace part = true
dot_valid InKey.Dot part = part
dot_valid InKey.Other part = true

abbrev pub part_valid : InKey → Bool → Bool → Bool
part_valid (InKey.Part e) part on = on
part_valid InKey.Whitespace part on = part
part_valid InKey.Dot part on = part
part_valid InKey.Other part on = false

abbrev mutual
  pub opt_dot_keys_valid : List Tok → Bool
  opt_dot_keys_valid [] = true
  opt_dot_keys_valid (tok k a b ∷ ts) =
      let dots = dot_keys_valid ts in
      let part = after_dot_valid ts in
      after_part_valid (in_key k) dots part

  pub dot_keys_valid : List Tok → Bool
  dot_keys_valid [] = true
  dot_keys_valid (tok k a b ∷ ts) = let part = after_dot_valid ts in dot_valid (in_key k) part

  pub after_dot_valid : List Tok → Bool
  after_dot_valid [] = true
  after_dot_valid (tok k a b ∷ ts) =
      let part = after_dot_valid ts in
      let on = opt_dot_keys_valid ts in
      part_valid (in_key k) part on

-- key, with the message where the list ends before a part
abbrev pub key : ℕ → List Tok → Out
key m [] = report m expected.a_key (found last_significant) (after_found last_significant) ▹ done []
key m (tok k a b ∷ ts) =
    let again = key m ts in
    let on = opt_dot_keys ts in
    part_step (in_key k) a b (done (tok k a b ∷ ts)) again on

-- what key returns
abbrev pub key_valid : List Tok → Bool
key_valid [] = false
key_valid (tok k a b ∷ ts) =
    let again = key_valid ts in
    let on = opt_dot_keys_valid ts in
    part_valid (in_key k) again on

-- on_missing_key
abbrev pub on_missing_key : ℕ → InLine → ℕ → ℕ → List Tok → Out
on_missing_key m InLine.Other a b ts = report m expected.a_key (span a b) (before a b) ▹ receiver.error a b ▹ done ts
on_missing_key m InLine.Comment a b ts = report m expected.a_key (span a b) (before a b) ▹ on_comment a b ts
on_missing_key m InLine.Whitespace a b ts = report m expected.a_key (span a b) (before a b) ▹ receiver.error a b ▹ done ts
on_missing_key m InLine.Newline a b ts = report m expected.a_key (span a b) (before a b) ▹ receiver.newline a b ▹ done ts
on_missing_key m InLine.Eof a b ts = report m expected.a_key (span a b) (before a b) ▹ done ts

-- simple_key: a multi-line string is a key with a report
abbrev pub simple_part : ℕ → Encoding → ℕ → ℕ → Out → Out
simple_part m Encoding.None a b on = on
simple_part m Encoding.LiteralString a b on = on
simple_part m Encoding.BasicString a b on = on
simple_part m Encoding.MlLiteralString a b on = report m expected.key_strings (span a b) (span a b) ▹ on
simple_part m Encoding.MlBasicString a b on = report m expected.key_strings (span a b) (span a b) ▹ on

abbrev pub simple_key_step : ℕ → InKey → InLine → ℕ → ℕ → List Tok → Out
simple_key_step m (InKey.Part e) l a b ts = simple_part m e a b (receiver.simple_key e a b ▹ done ts)
simple_key_step m InKey.Whitespace l a b ts = on_missing_key m l a b ts
simple_key_step m InKey.Dot l a b ts = on_missing_key m l a b ts
simple_key_step m InKey.Other l a b ts = on_missing_key m l a b ts

abbrev pub simple_key : ℕ → List Tok → Out
simple_key m [] = report m expected.a_key (found last_significant) (after_found last_significant) ▹ done []
simple_key m (tok k a b ∷ ts) = simple_key_step m (in_key k) (in_line k) a b ts
