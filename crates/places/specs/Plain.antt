-- The bytes that a comment or a string goes on with, whatever they are next to: none of those that may end it or escape, and none
-- of the control characters that make up three. Assumes nothing.
use Rattle.std.specs.Prelude.{Bool, [], ◌∷◌, ℕ}
use Rattle.places.specs.Places.{none_of}

-- a comment: no CR and no LF
abbrev pub in_comment : ℕ → Bool
in_comment b = none_of (13 ∷ 10 ∷ 0 ∷ []) b

-- a literal string: no apostrophe and no LF
abbrev pub in_literal : ℕ → Bool
in_literal b = none_of (39 ∷ 10 ∷ 0 ∷ []) b

-- a multi-line literal string: no apostrophe
abbrev pub in_ml_literal : ℕ → Bool
in_ml_literal b = none_of (39 ∷ 0 ∷ 127 ∷ []) b

-- a basic string: no quotation mark, no backslash and no LF
abbrev pub in_basic : ℕ → Bool
in_basic b = none_of (34 ∷ 92 ∷ 10 ∷ []) b

-- a multi-line basic string: no quotation mark and no backslash
abbrev pub in_ml_basic : ℕ → Bool
in_ml_basic b = none_of (34 ∷ 92 ∷ 0 ∷ []) b
