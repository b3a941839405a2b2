-- Skipping and the ends of lines: ignore_to_newline, on_comment, ignore_to_value_close, ws_comment_newline, eof. Assumes nothing.
use Rattle.std.specs.Prelude.{ℕ, zero, suc, List, [], ◌∷◌}
use Rattle.token.specs.declared.kind.Kind.{Kind}
use Rattle.token.specs.declared.kind.Kind.TheVariants.{Dot, Equals, Comma, LeftSquareBracket, RightSquareBracket, LeftCurlyBracket, RightCurlyBracket, Whitespace, Comment, Newline, LiteralString, BasicString, MlLiteralString, MlBasicString, Atom, Eof}
use Rattle.token.specs.Tokens.{Tok, tok}
use Rattle.rules.specs.declared.skipping.InLine.{InLine}
use Rattle.rules.specs.declared.skipping.InClose.{InClose}
use Rattle.rules.specs.declared.skipping.Bracket.{Bracket}
use Rattle.rules.specs.declared.skipping.Opened.{Opened}
use Rattle.rules.specs.Out.{span, before, report, Out, done, ◌▹◌, ◌then◌}
use Rattle.rules.specs.Turns.{looping}
use Rattle.rules.specs.Messages as message
use Rattle.rules.specs.Expected as expected
use Rattle.rules.specs.Receiver as receiver

-- what a kind is to a line that is skipped or ended
abbrev pub in_line : Kind → InLine
in_line Dot = InLine.Other
in_line Equals = InLine.Other
in_line Comma = InLine.Other
in_line LeftSquareBracket = InLine.Other
in_line RightSquareBracket = InLine.Other
in_line LeftCurlyBracket = InLine.Other
in_line RightCurlyBracket = InLine.Other
in_line Whitespace = InLine.Whitespace
in_line Comment = InLine.Comment
in_line Newline = InLine.Newline
in_line LiteralString = InLine.Other
in_line BasicString = InLine.Other
in_line MlLiteralString = InLine.Other
in_line MlBasicString = InLine.Other
in_line Atom = InLine.Other
in_line Eof = InLine.Eof

-- what a kind is to a value that is skipped up to its closing bracket
abbrev pub in_close : Kind → InClose
in_close Dot = InClose.Other
in_close Equals = InClose.Other
in_close Comma = InClose.Other
in_close LeftSquareBracket = InClose.OpenSquare
in_close RightSquareBracket = InClose.CloseSquare
in_close LeftCurlyBracket = InClose.OpenCurly
in_close RightCurlyBracket = InClose.CloseCurly
in_close Whitespace = InClose.Whitespace
in_close Comment = InClose.Comment
in_close Newline = InClose.Newline
in_close LiteralString = InClose.Other
in_close BasicString = InClose.Other
in_close MlLiteralString = InClose.Other
in_close MlBasicString = InClose.Other
in_close Atom = InClose.Other
in_close Eof = InClose.Eof

-- a token of a line that is skipped: `on` is the rest of the line, `behind` what follows a comment here
abbrev pub ignored : InLine → ℕ → ℕ → List Tok → Out → Out → Out
ignored InLine.Other a b ts on behind = receiver.error a b ▹ on
ignored InLine.Comment a b ts on behind = receiver.comment a b ▹ behind
ignored InLine.Whitespace a b ts on behind = receiver.whitespace a b ▹ on
ignored InLine.Newline a b ts on behind = receiver.newline a b ▹ done ts
ignored InLine.Eof a b ts on behind = done ts

-- a token behind a comment that began at c: content is reported, and the line is skipped
abbrev pub behind_comment : InLine → ℕ → ℕ → ℕ → List Tok → Out → Out
behind_comment InLine.Other c a b ts on = report message.content_after_comment expected.a_newline (span c b) (before a b) ▹ receiver.error a b ▹ on
behind_comment InLine.Comment c a b ts on = report message.content_after_comment expected.a_newline (span c b) (before a b) ▹ receiver.error a b ▹ on
behind_comment InLine.Whitespace c a b ts on = report message.content_after_comment expected.a_newline (span c b) (before a b) ▹ receiver.error a b ▹ on
behind_comment InLine.Newline c a b ts on = receiver.newline a b ▹ done ts
behind_comment InLine.Eof c a b ts on = done ts

abbrev mutual
  -- ignore_to_newline: each token an error event, up to a newline, a comment or Eof
  pub ignore_to_newline : List Tok → Out
  ignore_to_newline [] = done []
  ignore_to_newline (tok k a b ∷ ts) =
      let on = ignore_to_newline ts in
      let behind = after_comment ts a in
      ignored (in_line k) a b ts on behind

  -- on_comment, after the comment's event; the comment began at c
  pub after_comment : List Tok → ℕ → Out
  after_comment [] c = done []
  after_comment (tok k a b ∷ ts) c = let on = ignore_to_newline ts in behind_comment (in_line k) c a b ts on

-- on_comment: the comment at a..b, and the end of its line
abbrev pub on_comment : ℕ → ℕ → List Tok → Out
on_comment a b ts = receiver.comment a b ▹ after_comment ts a

-- ignore_to_value_close
abbrev pub fewer : ℕ → ℕ
fewer zero = zero
fewer (suc n) = n

-- a `]`: the one that is looked for if no array was opened meanwhile
abbrev pub close_square : Bracket → ℕ → (ℕ → Out) → ℕ → ℕ → List Tok → Out
close_square Bracket.Square zero on a b ts = receiver.array_close a b ▹ done ts
close_square Bracket.Square (suc n) on a b ts = receiver.error a b ▹ on n
close_square Bracket.Curly n on a b ts = receiver.error a b ▹ on (fewer n)

abbrev pub close_curly : Bracket → ℕ → (ℕ → Out) → ℕ → ℕ → List Tok → Out
close_curly Bracket.Curly zero on a b ts = receiver.inline_table_close a b ▹ done ts
close_curly Bracket.Curly (suc n) on a b ts = receiver.error a b ▹ on n
close_curly Bracket.Square n on a b ts = receiver.error a b ▹ on (fewer n)

abbrev pub opened : ℕ → ℕ → Opened
opened arrays tables = record { arrays = arrays; tables = tables }

abbrev pub value_close_step : InClose → Bracket → (Opened → List Tok → Out) → Opened → ℕ → ℕ → List Tok → Out
value_close_step InClose.Other closing loop o a b ts = receiver.error a b ▹ loop o ts
value_close_step InClose.Comment closing loop o a b ts = on_comment a b ts then loop o
value_close_step InClose.Whitespace closing loop o a b ts = receiver.whitespace a b ▹ loop o ts
value_close_step InClose.Newline closing loop o a b ts = receiver.newline a b ▹ loop o ts
value_close_step InClose.OpenSquare closing loop o a b ts = receiver.error a b ▹ loop (opened (suc o.arrays) o.tables) ts
value_close_step InClose.CloseSquare closing loop o a b ts = close_square closing o.arrays (λ n. loop (opened n o.tables) ts) a b ts
value_close_step InClose.OpenCurly closing loop o a b ts = receiver.error a b ▹ loop (opened o.arrays (suc o.tables)) ts
value_close_step InClose.CloseCurly closing loop o a b ts = close_curly closing o.tables (λ n. loop (opened o.arrays n) ts) a b ts
value_close_step InClose.Eof closing loop o a b ts = done ts

abbrev pub value_close_turn : Bracket → (Opened → List Tok → Out) → Opened → List Tok → Out
value_close_turn closing loop o [] = done []
value_close_turn closing loop o (tok k a b ∷ ts) = value_close_step (in_close k) closing loop o a b ts

abbrev pub ignore_to_value_close : Bracket → List Tok → Out
ignore_to_value_close closing ts = looping (value_close_turn closing) (opened 0 0) ts

-- ws_comment_newline; the first token of the line's end began at `first`
abbrev pub ending_step : InLine → ℕ → ℕ → ℕ → List Tok → Out → Out
ending_step InLine.Other first a b ts on = report message.unexpected_key_or_value expected.newline_or_comment (span first b) (before a b) ▹ receiver.error a b ▹ ignore_to_newline ts
ending_step InLine.Comment first a b ts on = on_comment a b ts
ending_step InLine.Whitespace first a b ts on = receiver.whitespace a b ▹ on
ending_step InLine.Newline first a b ts on = receiver.newline a b ▹ done ts
ending_step InLine.Eof first a b ts on = done ts

abbrev pub ending : List Tok → ℕ → Out
ending [] first = done []
ending (tok k a b ∷ ts) first = let on = ending ts first in ending_step (in_line k) first a b ts on

abbrev pub ws_comment_newline : List Tok → Out
ws_comment_newline [] = done []
ws_comment_newline (tok k a b ∷ ts) = ending (tok k a b ∷ ts) a

-- eof: what is left is an error, and further Eof tokens among it give nothing
abbrev pub leftover_step : InLine → ℕ → ℕ → Out → Out
leftover_step InLine.Other a b on = receiver.error a b ▹ on
leftover_step InLine.Comment a b on = receiver.error a b ▹ on
leftover_step InLine.Whitespace a b on = receiver.error a b ▹ on
leftover_step InLine.Newline a b on = receiver.error a b ▹ on
leftover_step InLine.Eof a b on = on

abbrev pub leftover : List Tok → Out
leftover [] = done []
leftover (tok k a b ∷ ts) = leftover_step (in_line k) a b (leftover ts)

abbrev pub eof_step : InLine → ℕ → ℕ → List Tok → Out
eof_step InLine.Other a b ts = report message.unexpected_content expected.nothing (span a b) (before a b) ▹ receiver.error a b ▹ leftover ts
eof_step InLine.Comment a b ts = report message.unexpected_content expected.nothing (span a b) (before a b) ▹ receiver.error a b ▹ leftover ts
eof_step InLine.Whitespace a b ts = report message.unexpected_content expected.nothing (span a b) (before a b) ▹ receiver.error a b ▹ leftover ts
eof_step InLine.Newline a b ts = report message.unexpected_content expected.nothing (span a b) (before a b) ▹ receiver.error a b ▹ leftover ts
eof_step InLine.Eof a b ts = done ts

abbrev pub eof : List Tok → Out
eof [] = done []
eof (tok k a b ∷ ts) = eof_step (in_line k) a b ts
