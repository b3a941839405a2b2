-- What the function promises that finds one token. Assumes nothing.
use Rattle.std.specs.Prelude.{◌≡◌, List, ℕ, ◌+◌, ◌≤◌, length, drop, get_or}
use Rattle.scan.specs.declared.lexer.Found.{Found}
use Rattle.scan.specs.Lexer.{Piece, piece_of}

-- the token at `at`
abbrev pub piece_at : List ℕ → ℕ → Piece
piece_at text at = piece_of (get_or text at 0) (drop (at + 1) text)

pub record IsToken (text : List ℕ) (at : ℕ) (found : Found) : Type 0 where
  pub kind : found.kind ≡ (piece_at text at).kind
  pub end : found.end ≡ at + 1 + (piece_at text at).more
  pub within : found.end ≤ length text
