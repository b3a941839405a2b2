-- Content that is left is reported; an Eof, or nothing, is not.
use Rattle.std.proofs.Common.{◌≡◌, refl, ap, ◌∙◌, arith, rules}
use Rattle.token.specs.declared.kind.Kind.{Kind}
use Rattle.token.specs.Tokens.{tokens_at, Took}
use Rattle.rules.specs.Out.{done}
use Rattle.rules.specs.Skipping.{in_line, eof, eof_step}
use Rattle.output.specs.WalkLaws.{by_rule, rule_end, run_done, goes_by}
use Rattle.list_ends.proofs.eof.Goals as goal

pub returns-in_default : goal.returns-in_default
returns-in_default c = goes_by _ _ _ _ _ _ (λ base q. by_rule _ _ _ _ (rule_end _ _ eof done c.in_default.ensures refl) ∙ run_done _ _ _ _ _ _) c.requires (omega arith) refl

pub returns-then-eq : goal.returns-then-eq
returns-then-eq c =
    let k : Took c.args.s.now c.args.c c.in-Some.t c.in-Some.past = c.in-Some.ensures in
    let e : c.in-Some.t.kind ≡ Kind.Eof = search rules in
    goes_by _ _ _ _ _ _ (λ base q. by_rule _ _ _ _ (ap eof k.seen ∙ ap (λ x. eof_step (in_line x) c.in-Some.t.start c.in-Some.t.end (tokens_at c.args.s.now c.in-Some.past)) e) ∙ run_done _ _ _ _ _ _) k.good (omega (arith, k.on)) k.base
