-- What a simple key is. Assumes nothing.
use Rattle.std.specs.Prelude.{List, ℕ}
use Rattle.token.specs.Tokens.{Tok}
use Rattle.rules.specs.declared.event.Encoding.{Encoding}
use Rattle.rules.specs.Out.{Out, done, ◌▹◌}
use Rattle.rules.specs.Receiver as receiver

-- a simple key at a..b, and no more
abbrev pub simple_key_at : Encoding → ℕ → ℕ → List Tok → Out
simple_key_at e a b ts = receiver.simple_key e a b ▹ done ts
