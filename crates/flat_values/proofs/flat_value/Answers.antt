-- One answer an arm: what is emitted, and that the walk goes on behind the token or before it.
use mathlib.Core.Path.{refl, ap, sym, ◌∙◌}
use native.Mathlib.Omega.{arith}
use Rattle.token.specs.Tokens.{tokens_at}
use Rattle.rules.specs.declared.skipping.Bracket.{Bracket}
use Rattle.rules.specs.declared.value.InValue.{InValue}
use Rattle.rules.specs.Out.{done}
use Rattle.rules.specs.WithoutOpen.{without_open}
use Rattle.output.specs.WalkLaws.{first_item, first_items, run_done, goes_by, goes_as, goes_past}
use Rattle.flat_values.specs.Flat.{flat_value}
use Rattle.flat_values.specs.FlatLaws.{value_starts}
use Rattle.flat_values.proofs.Unread.{unread}
use Rattle.flat_values.proofs.flat_value.Goals as goal

pub returns-in-Nothing : goal.returns-in-Nothing
returns-in-Nothing c = goes_as (ap (λ (z : InValue). flat_value z c.args.t.kind c.args.t.start c.args.t.end (tokens_at c.args.s.now c.args.c) (done (tokens_at c.args.s.now c.args.from))) (sym c.in-Nothing.is)) (goes_by _ _ _ _ _ _ (λ base q. ((first_item _ _ _ _ _ (c.emit-n.ensures _ _))) ∙ run_done _ _ _ _ _ _) c.requires.0 (omega arith) refl)

pub returns-in-CloseCurly : goal.returns-in-CloseCurly
returns-in-CloseCurly c = goes_as (ap (λ (z : InValue). flat_value z c.args.t.kind c.args.t.start c.args.t.end (tokens_at c.args.s.now c.args.c) (done (tokens_at c.args.s.now c.args.from))) (sym c.in-CloseCurly.is)) (goes_by _ _ _ _ _ _ (λ base q. first_items _ (without_open Bracket.Curly c.args.t.start c.args.t.end) _ _ _ (c.without_open-n.ensures _) ∙ run_done _ _ _ _ _ _) c.requires.1.good (omega (arith, c.requires.1.on)) c.requires.1.base)

pub returns-in-CloseSquare : goal.returns-in-CloseSquare
returns-in-CloseSquare c = goes_as (ap (λ (z : InValue). flat_value z c.args.t.kind c.args.t.start c.args.t.end (tokens_at c.args.s.now c.args.c) (done (tokens_at c.args.s.now c.args.from))) (sym c.in-CloseSquare.is)) (goes_by _ _ _ _ _ _ (λ base q. first_items _ (without_open Bracket.Square c.args.t.start c.args.t.end) _ _ _ (c.without_open-n-in-CloseSquare.ensures _) ∙ run_done _ _ _ _ _ _) c.requires.1.good (omega (arith, c.requires.1.on)) c.requires.1.base)

pub returns-in_default : goal.returns-in_default
returns-in_default c = goes_as (unread c.args.x _ _ _ _ _ c.in_default.in_default-own.keys5) (goes_by _ _ _ _ _ _ (λ base q. run_done _ _ _ _ _ _) c.requires.0 (omega arith) refl)
