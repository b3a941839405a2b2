-- How the code goes to the end of a line: the two rules ignore_to_newline and on_comment as one, with a mode. Assumes nothing.
use Rattle.std.specs.Prelude.{Bool, true, false, List, [], ◌∷◌, ℕ}
use Rattle.token.specs.Tokens.{Tok}
use Rattle.rules.specs.declared.skipping.InLine.{InLine}
use Rattle.rules.specs.Out.{span, before, Item, report, Out, done, ◌▹◌}
use Rattle.rules.specs.Messages as message
use Rattle.rules.specs.Expected as expected
use Rattle.rules.specs.Receiver as receiver
use Rattle.rules.specs.Skipping.{ignored, behind_comment, ignore_to_newline, after_comment}

-- behind a comment that began at c, or not
abbrev pub line_end : Bool → ℕ → List Tok → Out
line_end false c ts = ignore_to_newline ts
line_end true c ts = after_comment ts c

-- a token a..b of a kind on the way
abbrev pub line_end_step : InLine → Bool → ℕ → ℕ → ℕ → List Tok → Out
line_end_step InLine.Newline behind c a b ts = receiver.newline a b ▹ done ts
line_end_step InLine.Eof behind c a b ts = done ts
line_end_step InLine.Other false c a b ts = ignored InLine.Other a b ts (line_end false 0 ts) (line_end true a ts)
line_end_step InLine.Other true c a b ts = behind_comment InLine.Other c a b ts (line_end false 0 ts)
line_end_step InLine.Comment false c a b ts = ignored InLine.Comment a b ts (line_end false 0 ts) (line_end true a ts)
line_end_step InLine.Comment true c a b ts = behind_comment InLine.Comment c a b ts (line_end false 0 ts)
line_end_step InLine.Whitespace false c a b ts = ignored InLine.Whitespace a b ts (line_end false 0 ts) (line_end true a ts)
line_end_step InLine.Whitespace true c a b ts = behind_comment InLine.Whitespace c a b ts (line_end false 0 ts)

-- content at a..b behind a comment that began at c
abbrev pub content_after_comment : ℕ → ℕ → ℕ → List Item
content_after_comment c a b = report message.content_after_comment expected.a_newline (span c b) (before a b) ∷ receiver.error a b ∷ []
