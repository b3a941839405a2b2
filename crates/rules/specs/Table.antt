-- Tables: next_token_if as the rules use it, and on_table. Assumes nothing.
use Rattle.std.specs.Prelude.{ℕ, Bool, true, false, List, [], ◌∷◌, length, eqb}
use Rattle.token.specs.declared.kind.Kind.{Kind}
use Rattle.token.specs.declared.kind.Kind.TheVariants.{LeftSquareBracket, RightSquareBracket}
use Rattle.token.specs.Kinds.{number_of}
use Rattle.token.specs.Tokens.{Tok, tok}
use Rattle.token.specs.declared.cursor.Sought.{Sought}
use Rattle.rules.specs.Out.{Look, span, after, after_found, up_to_found, report, Out, ◌▹◌, ◌then◌}
use Rattle.rules.specs.Messages as message
use Rattle.rules.specs.Expected as expected
use Rattle.rules.specs.Receiver as receiver
use Rattle.rules.specs.Skipping.{ignore_to_newline, ws_comment_newline}
use Rattle.rules.specs.Keys.{opt_whitespace, key, key_valid}

-- next_token_if: `got` with the token's span and what follows it if the list starts with a token of the kind, else `missing` with the list
abbrev pub next_by : Bool → (ℕ → ℕ → List Tok → Out) → (List Tok → Out) → Kind → ℕ → ℕ → List Tok → Out
next_by true got missing k a b ts = got a b ts
next_by false got missing k a b ts = missing (tok k a b ∷ ts)

abbrev pub next_token_if : Kind → (ℕ → ℕ → List Tok → Out) → (List Tok → Out) → List Tok → Out
next_token_if kind got missing [] = missing []
next_token_if kind got missing (tok k a b ∷ ts) = next_by (eqb (number_of k) (number_of kind)) got missing k a b ts

-- the last token but whitespace before the tokens that are left; the first bracket of the header is at a..b
abbrev pub last_key_token : ℕ → ℕ → List Tok → Look
last_key_token a b ts = record { what = Sought.Solid; left = length ts; start = a; end = b }

-- no close at all: it is reported if the key was valid
abbrev pub unclosed : Bool → Bool → ℕ → ℕ → List Tok → Out
unclosed array false a b ts = ignore_to_newline ts
unclosed true true a b ts = report message.unclosed_array_table expected.close_squares (up_to_found a (last_key_token a b ts)) (after_found (last_key_token a b ts)) ▹ ignore_to_newline ts
unclosed false true a b ts = report message.unclosed_table expected.close_square (up_to_found a (last_key_token a b ts)) (after_found (last_key_token a b ts)) ▹ ignore_to_newline ts

-- the `]` at c..d: a table is closed; an array table wants a second one directly behind it
abbrev pub closed : Bool → ℕ → ℕ → ℕ → List Tok → Out
closed false a c d ts = receiver.std_table_close c d ▹ ws_comment_newline ts
closed true a c d ts =
    next_token_if RightSquareBracket
    (λ e f us. receiver.array_table_close c f ▹ ws_comment_newline us)
    (λ us. report message.unclosed_array_table expected.close_square (span a d) (after c d) ▹ ignore_to_newline us)
    ts

-- after the opening, of which the first bracket is at a..b
abbrev pub header : Bool → ℕ → ℕ → List Tok → Out
header array a b ts =
    opt_whitespace ts then λ us.
    key message.invalid_table us then opt_whitespace then
    next_token_if RightSquareBracket (closed array a) (unclosed array (key_valid us) a b)

-- on_table: a `[` directly after the `[` at a..b makes an array table
abbrev pub on_table : ℕ → ℕ → List Tok → Out
on_table a b ts =
    next_token_if LeftSquareBracket
    (λ c d us. receiver.array_table_open a d ▹ header true a b us)
    (λ us. receiver.std_table_open a b ▹ header false a b us)
    ts
