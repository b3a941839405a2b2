-- Texts written down as such: the bytes of characters, each of which is one byte. Assumes nothing.
use Rattle.std.specs.Prelude.{ℕ}
use Prim.Native.Char.{code}
use Prim.Native.String.{String, [], ◌∷◌}
use mathlib.Core.List as list

abbrev pub ascii : String → list.List ℕ
ascii [] = list.[]
ascii (c ∷ cs) = list.◌∷◌ (code c) (ascii cs)
