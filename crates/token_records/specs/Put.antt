-- What the function promises that writes the record of one token. Assumes nothing.
use Rattle.std.specs.Prelude.{◌≡◌, List, ℕ, ◌-◌, ◌*◌}
use Rattle.token.specs.Kinds.{number_of}
use Rattle.token.specs.Writing.{put_at}
use Rattle.scan.specs.Finding.{IsToken, piece_at}

-- the token at `at` ends at `end`; the buffer differs in its record, whose first byte is at `out`
pub record Put (text : List ℕ) (at : ℕ) (buffer : List ℕ) (out : ℕ) (after : List ℕ) (end : ℕ) : Type 0 where
  pub token : IsToken text at (record { end = end; kind = (piece_at text at).kind })
  pub bytes : (n : ℕ) → out ≡ 6 * n → after ≡ put_at buffer n (end - at) (number_of (piece_at text at).kind)
