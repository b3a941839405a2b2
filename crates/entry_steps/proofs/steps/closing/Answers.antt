-- A walk that was refused is left as it is; else what is left is reported.
use mathlib.Core.Path.{refl, ap, subst}
use Rattle.token.specs.Tokens.{Good}
use Rattle.rules.specs.Skipping.{eof}
use Rattle.nest.specs.Nested.{NestWalk, walk_of, is_stopped}
use Rattle.nest.specs.NestedLaws.{nested_goes, nested_on, nested_stop, nested_ok, nested_err}
use Rattle.entry_steps.proofs.steps.closing.Goals as goal

pub returns-in_err-w : goal.returns-in_err-w
returns-in_err-w c = λ g c' o x. nested_err (nested_stop eof x (ap is_stopped c.in_err-w.was)) c.in_err-w.was c.from_residual.ensures.1

pub eof-requires : goal.eof-requires
eof-requires c = subst (λ (v : NestWalk). Good c.args.s.now (walk_of v).cur) c.in_ok-w.was c.requires

pub returns : goal.returns
returns c = λ g c' o x. nested_on eof (nested_ok x c.in_ok-w.was) refl (nested_goes c.eof.ensures)
