-- One answer an arm: the walk, and that the loop goes on after it or is over. The three arms at which a key starts meet; one arm is for all at which none does.
use mathlib.Core.Path.{refl, sym, ◌∙◌}
use mathlib.Core.Bool.{false≢true}
use native.Mathlib.Omega.{arith}
use lib.ListN.{length}
use Rattle.token.specs.Tokens.{tokens_at}
use Rattle.rules.specs.Out.{done}
use Rattle.rules.specs.Document.{document_turn}
use Rattle.output.specs.Pour.{bufs}
use Rattle.output.specs.WalkLaws.{told, told_done, rule_end, run_done, goes_by}
use Rattle.keyless_turns.specs.Keyless.{keyless}
use Rattle.nest.specs.NestedLaws.{nested_goes, nested_past}
use Rattle.documents.proofs.DocumentLaws.{document_at, document_keyless, document_dot_lem, document_equals_lem, stepped_on}
use Rattle.documents.proofs.KeyTurnLaws.{Met, meet, begun_key, begun_equals, begun_dot}
use borrow.Enum.Refused.{opened as among_is}
use Rattle.documents.proofs.document.document_turn.Goals as goal
use Rattle.documents.proofs.document.document_turn.Goals.{in-Key, in-Equals, in-Dot}

pub next-requires : goal.next-requires
next-requires c = c.requires

pub returns-in_default : goal.returns-in_default
returns-in_default c =
    (record {
      g = done (tokens_at c.args.s.now c.args.c);
      walked = nested_goes (goes_by _ _ _ _ _ _ (λ base q. run_done _ _ _ _ _ _) c.requires (omega arith) refl);
      goes_on = λ q. absurd (false≢true (sym q));
      ends = λ q loop. rule_end _ _ (document_turn c.args.settings.levels loop tt) done c.in_default.ensures refl;
      further = λ q. absurd (false≢true (sym q));
    })

pub back-from-requires : goal.back-from-requires
back-from-requires c = record { good = c.in-Some.ensures.good; at_nonzero = omega (arith, c.in-Some.ensures.on) }

pub on_expression_dot-start-requires : goal.on_expression_dot-start-requires
on_expression_dot-start-requires c = record { good = c.in-Some.ensures.good; read_dot = record { from = c.args.c; good = c.requires; took = c.in-Some.ensures; dot = document_dot_lem c.in-Some.t.kind _ c.in_document-x.ensures c.in-Dot.is } }

pub returns-in-Eof : goal.returns-in-Eof
returns-in-Eof c =
    (record {
      g = done (tokens_at c.args.s.now c.in-Some.past);
      walked = nested_goes (goes_by _ _ _ _ _ _ (λ base q. run_done _ _ _ _ _ _) c.in-Some.ensures.good (omega (arith, c.in-Some.ensures.on)) c.in-Some.ensures.base);
      goes_on = λ q. absurd (false≢true (sym q));
      ends = λ q. (λ loop. document_at _ _ _ _ c.in-Some.ensures _ _ c.in_document-x.ensures c.in-Eof.is c.args.settings.levels loop);
      further = λ q. absurd (false≢true (sym q));
    })

pub keyless_turn-w-requires : goal.keyless_turn-w-requires
keyless_turn-w-requires c = c.in-Some.ensures.good

pub returns-in_default-x : goal.returns-in_default-x
returns-in_default-x c =
    (record {
      g = keyless c.in_document-x.result c.in-Some.t.start c.in-Some.t.end (tokens_at c.args.s.now c.in-Some.past);
      walked = nested_past c.in-Some.ensures (nested_goes c.keyless_turn-w.ensures);
      goes_on = λ q loop. document_keyless _ _ _ _ c.in-Some.ensures _ c.in_document-x.ensures (among_is c.in_default-x.in_default-x-own.keys5) c.args.settings.levels loop;
      ends = λ q. absurd (false≢true q);
      further = λ q. omega (arith, c.in-Some.ensures.on, c.keyless_turn-w.ensures.on);
    })

pub key_and_value-walk-requires : goal.key_and_value-walk-requires
key_and_value-walk-requires c =
    let j : Met c.args.settings.levels c.args.s.now c.args.c (bufs c.args.events.now c.args.errors.now c.args.m) c.match-x.from c.match-x.events c.args.errors.now c.match-x.n c.match-x.message (length c.args.events.now) = elim c.match-x.branch [
      | in-Key w ↦ meet c.args.errors.now w.events-is (w.from-is ∙ w.on_expression_key-start.ensures.0) w.n-is (w.message-is ∙ w.on_expression_key-start.ensures.1) (begun_key c.args.settings.levels c.in-Some.ensures w.in-Key.e (λ loop. document_at _ _ _ _ c.in-Some.ensures _ _ c.in_document-x.ensures w.in-Key.is c.args.settings.levels loop) (λ all. w.on_expression_key-start.ensures.2 all _), w.on_expression_key-start.auto.events)
      | in-Equals w ↦ meet c.args.errors.now w.events-is w.from-is w.n-is w.message-is (begun_equals c.args.settings.levels c.in-Some.ensures c.requires w.back-from.ensures _ (document_equals_lem c.in-Some.t.kind _ c.in_document-x.ensures w.in-Equals.is) (λ loop. document_at _ _ _ _ c.in-Some.ensures _ _ c.in_document-x.ensures w.in-Equals.is c.args.settings.levels loop) (λ all. w.empty_key-n.ensures all _), w.empty_key-n.auto.events)
      | in-Dot w ↦ meet c.args.errors.now w.events-is w.from-is w.n-is (w.message-is ∙ w.on_expression_dot-start.ensures.1) (begun_dot c.args.settings.levels c.in-Some.ensures c.requires w.on_expression_dot-start.ensures.0 (document_dot_lem c.in-Some.t.kind _ c.in_document-x.ensures w.in-Dot.is) (λ loop. document_at _ _ _ _ c.in-Some.ensures _ _ c.in_document-x.ensures w.in-Dot.is c.args.settings.levels loop) (λ all. w.on_expression_dot-start.ensures.2 all _), w.on_expression_dot-start.auto.events)
    ] in
    j.0.good

pub returns : goal.returns
returns c =
    let j : Met c.args.settings.levels c.args.s.now c.args.c (bufs c.args.events.now c.args.errors.now c.args.m) c.match-x.from c.match-x.events c.args.errors.now c.match-x.n c.match-x.message (length c.args.events.now) = elim c.match-x.branch [
      | in-Key w ↦ meet c.args.errors.now w.events-is (w.from-is ∙ w.on_expression_key-start.ensures.0) w.n-is (w.message-is ∙ w.on_expression_key-start.ensures.1) (begun_key c.args.settings.levels c.in-Some.ensures w.in-Key.e (λ loop. document_at _ _ _ _ c.in-Some.ensures _ _ c.in_document-x.ensures w.in-Key.is c.args.settings.levels loop) (λ all. w.on_expression_key-start.ensures.2 all _), w.on_expression_key-start.auto.events)
      | in-Equals w ↦ meet c.args.errors.now w.events-is w.from-is w.n-is w.message-is (begun_equals c.args.settings.levels c.in-Some.ensures c.requires w.back-from.ensures _ (document_equals_lem c.in-Some.t.kind _ c.in_document-x.ensures w.in-Equals.is) (λ loop. document_at _ _ _ _ c.in-Some.ensures _ _ c.in_document-x.ensures w.in-Equals.is c.args.settings.levels loop) (λ all. w.empty_key-n.ensures all _), w.empty_key-n.auto.events)
      | in-Dot w ↦ meet c.args.errors.now w.events-is w.from-is w.n-is (w.message-is ∙ w.on_expression_dot-start.ensures.1) (begun_dot c.args.settings.levels c.in-Some.ensures c.requires w.on_expression_dot-start.ensures.0 (document_dot_lem c.in-Some.t.kind _ c.in_document-x.ensures w.in-Dot.is) (λ loop. document_at _ _ _ _ c.in-Some.ensures _ _ c.in_document-x.ensures w.in-Dot.is c.args.settings.levels loop) (λ all. w.on_expression_dot-start.ensures.2 all _), w.on_expression_dot-start.auto.events)
    ] in
    stepped_on j.0.g j.0.turn _ c.turn_of.ensures (j.0.walk _ _ _ c.key_and_value-walk.ensures) (j.0.further _ _ _ c.key_and_value-walk.ensures)
