-- Entry i of a buffer, and numbers that stop at a bound. Assumes nothing.
use Rattle.std.specs.Prelude.{cond, List, ℕ, ◌+◌, ◌*◌, ◌/◌, length, set, ltb}
use Rattle.rules.specs.Answer.{event_size, error_size}

-- entry i of a buffer, if there is room for it
unfoldable pub put_event : List ℕ → ℕ → ℕ → ℕ → ℕ → ℕ → List ℕ
put_event l i a b c d = cond (ltb i (length l / event_size)) (set (set (set (set l (i * event_size) a) (i * event_size + 1) b) (i * event_size + 2) c) (i * event_size + 3) d) l

unfoldable pub put_error : List ℕ → ℕ → ℕ → ℕ → ℕ → ℕ → ℕ → ℕ → ℕ → List ℕ
put_error l i a b c d e f g = cond (ltb i (length l / error_size)) (set (set (set (set (set (set (set l (i * error_size) a) (i * error_size + 1) b) (i * error_size + 2) c) (i * error_size + 3) d) (i * error_size + 4) e) (i * error_size + 5) f) (i * error_size + 6) g) l

-- one more, up to a bound that no list of the rules reaches
unfoldable pub more : ℕ → ℕ
more n = cond (ltb n 2147483647) (n + 1) n

-- the number of a record, up to a bound that no list reaches
unfoldable pub capped : ℕ → ℕ
capped n = cond (ltb n 2147483647) n 2147483647
