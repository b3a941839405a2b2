-- On over skipped text and blanks.
use Rattle.std.proofs.Common.{sym, ◌∙◌, inl, inr, true, false, ◌/◌, length, arith}
use Rattle.rules.specs.Answer.{event_size}
use Rattle.pieces.specs.declared.sorts.Sort.{Sort}
use Rattle.pieces.proofs.PieceLaws.{end_on, pieces_on, none_left, end_left}
use Rattle.pieces.proofs.pieces.skip_on.Goals as goal
use Rattle.pieces.proofs.pieces.skip_on.Goals.{in-Skipped, in-Blank}

pub loop-at-preserved : goal.loop-at-preserved
loop-at-preserved c =
    let n = length c.args.events.now / event_size in
    elim c.match-sort_at.branch [
      | in-Skipped w ↦
          let e = sym c.sort_at.ensures ∙ w.in-Skipped.is in
          rw w.last-is
          (record {
            ends = c.loop-at.invariant.ends ∙ end_on n c.loop-at.at c.args.events.now c.loop-at-test.true Sort.Skipped e c.loop-at.last;
            same = c.loop-at.invariant.same ∙ pieces_on n c.loop-at.at c.args.events.now c.loop-at-test.true Sort.Skipped e true;
          })
      | in-Blank w ↦
          let e = sym c.sort_at.ensures ∙ w.in-Blank.is in
          rw w.last-is
          (record {
            ends = c.loop-at.invariant.ends ∙ end_on n c.loop-at.at c.args.events.now c.loop-at-test.true Sort.Blank e c.loop-at.last;
            same = c.loop-at.invariant.same ∙ pieces_on n c.loop-at.at c.args.events.now c.loop-at-test.true Sort.Blank e true;
          })
    ]

pub returns-in-Sound : goal.returns-in-Sound
returns-in-Sound c =
    let n = length c.args.events.now / event_size in
    elim c.in-Sound.is [
      | inl is ↦
          let e = sym c.sort_at.ensures ∙ is in
          record {
            ends = sym (c.loop-at.invariant.ends ∙ end_on n c.loop-at.at c.args.events.now c.loop-at-test.true Sort.Sound e c.loop-at.last);
            behind = c.loop-at.invariant.same ∙ pieces_on n c.loop-at.at c.args.events.now c.loop-at-test.true Sort.Sound e true
                ∙ sym (pieces_on n c.loop-at.at c.args.events.now c.loop-at-test.true Sort.Sound e false);
            on = c.loop-at.auto.at;
            within = omega arith;
          }
      | inr (message, is) ↦
          let e = sym c.sort_at.ensures ∙ is in
          record {
            ends = sym (c.loop-at.invariant.ends ∙ end_on n c.loop-at.at c.args.events.now c.loop-at-test.true (Sort.Wrong message) e c.loop-at.last);
            behind = c.loop-at.invariant.same ∙ pieces_on n c.loop-at.at c.args.events.now c.loop-at-test.true (Sort.Wrong message) e true
                ∙ sym (pieces_on n c.loop-at.at c.args.events.now c.loop-at-test.true (Sort.Wrong message) e false);
            on = c.loop-at.auto.at;
            within = omega arith;
          }
    ]

pub returns : goal.returns
returns c =
    let n = length c.args.events.now / event_size in
    record {
      ends = sym (c.loop-at.invariant.ends ∙ end_left n c.loop-at.at c.args.events.now c.loop-at.last c.loop-at-test.false);
      behind = c.loop-at.invariant.same ∙ none_left n c.loop-at.at c.args.events.now true c.loop-at-test.false ∙ sym (none_left n n c.args.events.now false (omega arith));
      on = c.requires;
      within = omega arith;
    }
