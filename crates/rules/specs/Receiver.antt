-- The calls of the Rust's EventReceiver, each an item. Assumes nothing.
use Rattle.std.specs.Prelude.{ℕ}
use Rattle.rules.specs.declared.event.Encoding.{Encoding}
use Rattle.rules.specs.declared.event.Event.{Event}
use Rattle.rules.specs.Out.{Item, event, event_after, Look}

abbrev pub simple_key : Encoding → ℕ → ℕ → Item
simple_key e a b = event (Event.SimpleKey e) a b

abbrev pub scalar : Encoding → ℕ → ℕ → Item
scalar e a b = event (Event.Scalar e) a b

abbrev pub std_table_open : ℕ → ℕ → Item
std_table_open a b = event Event.StdTableOpen a b

abbrev pub std_table_close : ℕ → ℕ → Item
std_table_close a b = event Event.StdTableClose a b

abbrev pub array_table_open : ℕ → ℕ → Item
array_table_open a b = event Event.ArrayTableOpen a b

abbrev pub array_table_close : ℕ → ℕ → Item
array_table_close a b = event Event.ArrayTableClose a b

abbrev pub key_sep : ℕ → ℕ → Item
key_sep a b = event Event.KeySep a b

abbrev pub key_val_sep : ℕ → ℕ → Item
key_val_sep a b = event Event.KeyValSep a b

abbrev pub value_sep : ℕ → ℕ → Item
value_sep a b = event Event.ValueSep a b

abbrev pub array_open : ℕ → ℕ → Item
array_open a b = event Event.ArrayOpen a b

abbrev pub array_close : ℕ → ℕ → Item
array_close a b = event Event.ArrayClose a b

abbrev pub inline_table_open : ℕ → ℕ → Item
inline_table_open a b = event Event.InlineTableOpen a b

abbrev pub inline_table_close : ℕ → ℕ → Item
inline_table_close a b = event Event.InlineTableClose a b

abbrev pub whitespace : ℕ → ℕ → Item
whitespace a b = event Event.Whitespace a b

abbrev pub comment : ℕ → ℕ → Item
comment a b = event Event.Comment a b

abbrev pub newline : ℕ → ℕ → Item
newline a b = event Event.Newline a b

abbrev pub error : ℕ → ℕ → Item
error a b = event Event.Error a b

-- where the list is exhausted: the close after the token that a look back finds
abbrev pub array_close_after : Look → Item
array_close_after l = event_after Event.ArrayClose l
