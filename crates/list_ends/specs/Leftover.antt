-- Content that is left behind an entry's end. Assumes nothing.
use Rattle.std.specs.Prelude.{List, ℕ}
use Rattle.token.specs.Tokens.{Tok}
use Rattle.rules.specs.Out.{span, before, report, Out, ◌▹◌}
use Rattle.rules.specs.Messages as message
use Rattle.rules.specs.Expected as expected
use Rattle.rules.specs.Receiver as receiver
use Rattle.rules.specs.Skipping.{leftover}

-- content at a..b behind the end
abbrev pub unexpected : ℕ → ℕ → List Tok → Out
unexpected a b ts = report message.unexpected_content expected.nothing (span a b) (before a b) ▹ receiver.error a b ▹ leftover ts
