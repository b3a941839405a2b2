-- A turn writes the header that its event ends, if any, and notes the event; the end writes the last header.
use Rattle.std.proofs.Common.{ℕ, ◌/◌, length, true, false, ap, sym, ◌∙◌}
use Rattle.rules.specs.Answer.{event_size}
use Rattle.headers.specs.declared.state.IndexState.{IndexState}
use Rattle.headers.specs.Headers.{opens_header, kinds_from}
use Rattle.headers.specs.States.{state_after, state_behind}
use Rattle.index.proofs.WalkLaws.{walking_begun, walking_on, walking_end, end_state, none_ends}
use Rattle.index.proofs.walked.walk.Goals as goal
use Rattle.index.proofs.walked.walk.Goals.{then-opens_header, else-opens_header}

pub loop-i-init : goal.loop-i-init
loop-i-init c = walking_begun _ _ _ _ c.requires.fresh c.requires.few c.requires.room

pub loop-i-preserved : goal.loop-i-preserved
loop-i-preserved c =
    let opens = c.opens_header.ensures ∙ ap opens_header c.kind_at-kind.ensures in
    let noted = c.note.ensures ∙ ap (λ (kind : ℕ). state_after c.loop-i.state kind) c.kind_at-kind.ensures in
    elim c.if-opens_header.branch [
      | then-opens_header w ↦ rw (w.k-is, w.index-is) (walking_on c.loop-i.invariant c.loop-i-test.true true (sym w.if-opens_header.true ∙ opens) _ _ _ w.finish-k.ensures noted)
      | else-opens_header w ↦ rw (w.k-is, w.index-is) (walking_on c.loop-i.invariant c.loop-i-test.true false (sym w.if-opens_header.false ∙ opens) _ _ _ (none_ends _ _ _) noted)
    ]

pub returns-clause-behind : goal.returns-clause-behind
returns-clause-behind c = end_state c.loop-i.invariant c.loop-i-test.false ∙ ap (λ (state : IndexState). state_behind state (kinds_from (length c.args.events.now / event_size) 0 c.args.events.now)) (sym c.requires.fresh)

pub returns-clause-written : goal.returns-clause-written
returns-clause-written c = walking_end c.loop-i.invariant c.loop-i-test.false _ _ c.finish.ensures
