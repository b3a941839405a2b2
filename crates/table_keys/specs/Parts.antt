-- The keys of an inline table. Assumes nothing.
use Rattle.std.specs.Prelude.{ℕ}
use Rattle.token.specs.declared.kind.Kind.{Kind}
use Rattle.rules.specs.declared.event.Encoding.{Encoding}
use Rattle.rules.specs.Out.{Item}
use Rattle.rules.specs.Receiver as receiver
use Rattle.rules.specs.InlineTable.{encoding_at}

-- the part of a key that a token is, and one that is not there
abbrev pub key_item : Kind → ℕ → ℕ → Item
key_item k a b = receiver.simple_key (encoding_at k) a b

abbrev pub empty_key : ℕ → Item
empty_key a = receiver.simple_key Encoding.None a a
