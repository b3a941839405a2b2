-- Whitespace; then no dot, or the loop over dots.
use mathlib.Core.Path.{refl, sym, ◌∙◌}
use native.Mathlib.Omega.{arith}
use Rattle.output.specs.WalkLaws.{run_done, goes_by, told_none}
use Rattle.key_dots.specs.SpaceLaws.{keys_from}
use Rattle.key_dots.proofs.PartLaws.{space_valid, dot_out_lem, dot_valid_lem}
use Rattle.token.specs.declared.kind.Kind.{Kind}
use Rattle.key_dots.proofs.dots.opt_dot_keys.Goals as goal

pub returns-in_default : goal.returns-in_default
returns-in_default c =
    record {
      goes = keys_from c.opt_whitespace-w.ensures (goes_by _ _ _ _ _ _ (λ base q. dot_out_lem _ _ _ _ c.in_default.ensures ∙ run_done _ _ _ _ _ _) c.opt_whitespace-w.ensures.good (omega arith) refl);
      valid = sym (dot_valid_lem _ _ c.in_default.ensures) ∙ space_valid c.opt_whitespace-w.ensures;
    }

pub returns : goal.returns
returns c =
    record {
      goes = keys_from c.opt_whitespace-w.ensures c.dot_keys.ensures.goes;
      valid = c.dot_keys.ensures.valid ∙ space_valid c.opt_whitespace-w.ensures;
    }
