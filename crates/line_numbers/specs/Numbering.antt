-- The unexpected spans and the lines of the errors in a buffer, from what the walk left there. Assumes nothing.
use Rattle.std.specs.Prelude.{List, cond, ℕ, zero, suc, ◌+◌, ◌-◌, ◌*◌, ◌/◌, length, get_or, set, eqb, ltb}
use Rattle.token.specs.declared.span.Span.{Span}
use Rattle.token.specs.Tokens.{Tok}
use Rattle.rules.specs.declared.options.Mode.{Mode}
use Rattle.rules.specs.Answer.{error_size}
use Rattle.rules.specs.Lines.{line_of}
use Rattle.rules.specs.Words.{first_sought, comma_between}

-- the unexpected span by the last three words of an error: a mark of 0 says that it is start..end; else `end` is the record before which a comma is
-- looked for, and the mark one more than the record behind the `{`
abbrev pub placed : Mode → List Tok → ℕ → ℕ → ℕ → Span
placed mode all start end mark = cond (eqb mark 0) (record { start = start; end = end }) (comma_between all (first_sought mode (mark - 1)) end start)

-- of the error whose words begin at b
abbrev pub placed_at : Mode → List Tok → ℕ → List ℕ → Span
placed_at mode all b errors = placed mode all (get_or errors (b + 4) 0) (get_or errors (b + 5) 0) (get_or errors (b + 6) 0)

-- the three words become the span and the line of its start
abbrev pub spanned : List ℕ → ℕ → Span → ℕ → List ℕ
spanned errors b u line = set (set (set errors (b + 4) u.start) (b + 5) u.end) (b + 6) line

abbrev pub numbered_at : Mode → List Tok → ℕ → List ℕ → List ℕ
numbered_at mode all b errors = spanned errors b (placed_at mode all b errors) (line_of all (placed_at mode all b errors).start)

abbrev pub numbered_one : Mode → List Tok → ℕ → List ℕ → List ℕ
numbered_one mode all i errors = numbered_at mode all (i * error_size) errors

-- the first n errors, one after the other
unfoldable pub numbered_first : Mode → List Tok → ℕ → List ℕ → List ℕ
numbered_first mode all zero errors = errors
numbered_first mode all (suc n) errors = numbered_one mode all n (numbered_first mode all n errors)

-- how many of n errors are in a buffer with so much room
abbrev pub stored : ℕ → ℕ → ℕ
stored n room = cond (ltb room n) room n

-- the n errors of a walk, as many as are in the buffer
abbrev pub numbered : Mode → List Tok → ℕ → List ℕ → List ℕ
numbered mode all n errors = numbered_first mode all (stored n (length errors / error_size)) errors
