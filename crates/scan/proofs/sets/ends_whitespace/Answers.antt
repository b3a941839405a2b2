-- By the byte: the two of the pattern, or any other.
use mathlib.Core.Path.{refl, ◌∙◌, ap}
use mathlib.Core.Bool.{false, not}
use mathlib.Core.List.{[], ◌∷◌}
use Rattle.scan.specs.Lexer.{start_of, ends_whitespace}
use Rattle.scan.proofs.SetLaws.{by_byte, past_blank}
use Rattle.std.proofs.Common.{rules}
use Rattle.scan.proofs.sets.ends_whitespace.Goals as goal
use Rattle.scan.proofs.sets.ends_whitespace.Goals.{in-32, in_default}

pub returns : goal.returns
unfolding start_of
returns c = elim c.match-matches.branch [
  | in-32 w ↦ ap not w.matches-is ∙ by_byte ends_whitespace false (9 ∷ 32 ∷ []) c.args.b refl w.in-32.is
  | in_default w ↦ ap not w.matches-is ∙ search (rules, past_blank)
]
