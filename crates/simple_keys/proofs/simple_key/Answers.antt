-- A part, or none.
use mathlib.Core.Path.{refl, sym, ◌∙◌}
use native.Mathlib.Omega.{arith}
use Rattle.rules.specs.Out.{done, ◌▹◌}
use Rattle.rules.specs.Keys.{simple_key}
use Rattle.key_spaces.specs.Nothing.{nothing_left}
use Rattle.rules.specs.Expected as expected
use Rattle.output.specs.WalkLaws.{told, told_done, by_rule, rule_end, first_item, run_done, goes_by, goes_as, goes_past}
use Rattle.simple_parts.proofs.SimpleKeyLaws.{simple_at, simple_rest}
use borrow.Enum.Refused.{opened as among_is}
use Rattle.simple_keys.proofs.simple_key.Goals as goal

pub returns-in_default : goal.returns-in_default
returns-in_default c =
    goes_by _ _ _ _ _ _
    (λ base q. by_rule _ _ _ _ (rule_end _ _ (simple_key c.args.message) (λ ts. nothing_left c.args.message expected.a_key ▹ done ts) c.in_default.ensures refl) ∙ first_item _ _ _ _ _ (c.nothing_left-n.ensures _ _ q) ∙ run_done _ _ _ _ _ _)
    c.requires (omega arith) refl
