-- By the byte: those of an arm, or any other.
use mathlib.Core.Path.{refl}
use mathlib.Core.Bool.{true}
use mathlib.Core.List.{[], ◌∷◌}
use Rattle.scan.specs.Lexer.{start_of, ends_atom}
use Rattle.scan.proofs.SetLaws.{by_byte, in_atom}
use Rattle.std.proofs.Common.{rules}
use Rattle.scan.proofs.sets.ends_atom.Goals as goal

pub returns-in-46 : goal.returns-in-46
unfolding start_of
returns-in-46 c = by_byte ends_atom true (44 ∷ 46 ∷ 61 ∷ 91 ∷ 93 ∷ 123 ∷ 125 ∷ []) c.args.b refl c.in-46.is

pub returns-in-32 : goal.returns-in-32
unfolding start_of
returns-in-32 c = by_byte ends_atom true (9 ∷ 32 ∷ []) c.args.b refl c.in-32.is

pub returns-in-35 : goal.returns-in-35
unfolding start_of
returns-in-35 c = by_byte ends_atom true (10 ∷ 13 ∷ 35 ∷ []) c.args.b refl c.in-35.is

pub returns-in_default : goal.returns-in_default
returns-in_default c = search (rules, in_atom)
